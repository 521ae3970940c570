-- `built_in_digits::fitting_r` meets its contract: the search of `fitting_digit` with its loop written out. Each constant is the interval of the digit that it is tried for.
use Rattle.whole.proofs.Laws.{◌≡◌, refl, sym, ◌∙◌, arith, List, [], ◌∷◌, ℤ, pos, Standing, begins, misses}
use Rattle.inclusion.proofs.Laws.{included?}
use Rattle.digits.proofs.Laws.{System, table_of, rows_r, minus, interval_by, four_by}
use Rattle.fitting.proofs.Laws.{fits?}
use Rattle.built_in_digits.proofs.WrittenOut.{found, nowhere}
use Rattle.built_in_digits.proofs.fitting_r.Goals.{Else-included, Else-included-2, Else-included-3, Else-included-4}
use Rattle.built_in_digits.proofs.fitting_r.Goals as goal

abbrev r : System
r = table_of rows_r

-- each constant is the interval of its digit
tried : (image : List ℤ) →
    (included? image (pos 0 ∷ pos 1 ∷ pos 1 ∷ pos 1 ∷ []) ≡ fits? r image 0) ×
    (included? image (pos 1 ∷ pos 1 ∷ pos 1 ∷ pos 0 ∷ []) ≡ fits? r image 1) ×
    (included? image (pos 1 ∷ pos 0 ∷ pos 1 ∷ minus 1 ∷ []) ≡ fits? r image 2) ×
    (included? image (minus 1 ∷ pos 1 ∷ pos 0 ∷ pos 1 ∷ []) ≡ fits? r image 3)
unfolding interval_by four_by
tried image = (refl, refl, refl, refl)

behind-1 : (c : Else-included) → Standing (fits? r c.args.image) 4 1
behind-1 c = misses begins (omega arith) (sym (c.included.ensures ∙ (tried c.args.image).0) ∙ c.if-included.false)

behind-2 : (c : Else-included-2) → Standing (fits? r c.args.image) 4 2
behind-2 c = misses (behind-1 c.before.before) (omega arith) (sym (c.included-2.ensures ∙ (tried c.args.image).1) ∙ c.if-included-2.false)

behind-3 : (c : Else-included-3) → Standing (fits? r c.args.image) 4 3
behind-3 c = misses (behind-2 c.before.before) (omega arith) (sym (c.included-3.ensures ∙ (tried c.args.image).2) ∙ c.if-included-3.false)

behind-4 : (c : Else-included-4) → Standing (fits? r c.args.image) 4 4
behind-4 c = misses (behind-3 c.before.before) (omega arith) (sym (c.included-4.ensures ∙ (tried c.args.image).3) ∙ c.if-included-4.false)

pub returns-then-included : goal.returns-then-included
returns-then-included c = found r c.args.image begins (omega arith) (sym (c.included.ensures ∙ (tried c.args.image).0) ∙ c.if-included.true)

pub returns-then-included-2 : goal.returns-then-included-2
returns-then-included-2 c = found r c.args.image (behind-1 c.before.before) (omega arith) (sym (c.included-2.ensures ∙ (tried c.args.image).1) ∙ c.if-included-2.true)

pub returns-then-included-3 : goal.returns-then-included-3
returns-then-included-3 c = found r c.args.image (behind-2 c.before.before) (omega arith) (sym (c.included-3.ensures ∙ (tried c.args.image).2) ∙ c.if-included-3.true)

pub returns-then-included-4 : goal.returns-then-included-4
returns-then-included-4 c = found r c.args.image (behind-3 c.before.before) (omega arith) (sym (c.included-4.ensures ∙ (tried c.args.image).3) ∙ c.if-included-4.true)

pub returns : goal.returns
returns c = nowhere r c.args.image (behind-4 c) (omega arith)
