-- `built_in_digits::fitting_b` meets its contract: a wide image is in no interval of B, and any other is searched for as by `fitting_digit`, with the loop written out. Each
-- constant is the interval of the digit that it is tried for, as document 01 prints it.
use Rattle.whole.proofs.Laws.{◌≡◌, refl, sym, ap, ◌∙◌, arith, List, [], ◌∷◌, ℤ, pos, Standing, begins, misses}
use Rattle.inclusion.proofs.Laws.{included?}
use Rattle.digits.proofs.Laws.{System, table_of, rows_b, printed_b, b_by_symmetry, minus, interval_by, four_by}
use Rattle.fitting.proofs.Laws.{fitting, fits?, fitting_of}
use Rattle.built_in_digits.proofs.WrittenOut.{found, nowhere}
use Rattle.built_in_digits.proofs.NarrowDigits.{wide_in_none}
use Rattle.built_in_digits.proofs.fitting_b.Goals.{Else-included, Else-included-2, Else-included-3, Else-included-4, Else-included-5, Else-included-6, Else-included-7, Else-included-8}
use Rattle.built_in_digits.proofs.fitting_b.Goals as goal

abbrev b : System
b = table_of printed_b

as-worked-out : (image : List ℤ) → fitting (fitting_of b image) ≡ fitting (fitting_of (table_of rows_b) image)
as-worked-out image = ap (λ (rows : List (List ℤ)). fitting (fitting_of (table_of rows) image)) (sym b_by_symmetry.stays)

-- each constant is the interval of its digit
tried : (image : List ℤ) →
    (included? image (minus 1 ∷ pos 3 ∷ pos 1 ∷ pos 1 ∷ []) ≡ fits? b image 0) ×
    (included? image (pos 0 ∷ pos 1 ∷ pos 2 ∷ pos 1 ∷ []) ≡ fits? b image 1) ×
    (included? image (pos 1 ∷ pos 2 ∷ pos 1 ∷ pos 0 ∷ []) ≡ fits? b image 2) ×
    (included? image (pos 1 ∷ pos 1 ∷ pos 3 ∷ minus 1 ∷ []) ≡ fits? b image 3) ×
    (included? image (pos 3 ∷ pos 1 ∷ pos 1 ∷ minus 1 ∷ []) ≡ fits? b image 4) ×
    (included? image (pos 1 ∷ pos 0 ∷ pos 1 ∷ minus 2 ∷ []) ≡ fits? b image 5) ×
    (included? image (minus 2 ∷ pos 1 ∷ pos 0 ∷ pos 1 ∷ []) ≡ fits? b image 6) ×
    (included? image (minus 1 ∷ pos 1 ∷ pos 1 ∷ pos 3 ∷ []) ≡ fits? b image 7)
unfolding interval_by four_by
tried image = (refl, refl, refl, refl, refl, refl, refl, refl)

behind-1 : (c : Else-included) → Standing (fits? b c.args.image) 8 1
behind-1 c = misses begins (omega arith) (sym (c.included.ensures ∙ (tried c.args.image).0) ∙ c.if-included.false)

behind-2 : (c : Else-included-2) → Standing (fits? b c.args.image) 8 2
behind-2 c = misses (behind-1 c.before.before) (omega arith) (sym (c.included-2.ensures ∙ (tried c.args.image).1) ∙ c.if-included-2.false)

behind-3 : (c : Else-included-3) → Standing (fits? b c.args.image) 8 3
behind-3 c = misses (behind-2 c.before.before) (omega arith) (sym (c.included-3.ensures ∙ (tried c.args.image).2) ∙ c.if-included-3.false)

behind-4 : (c : Else-included-4) → Standing (fits? b c.args.image) 8 4
behind-4 c = misses (behind-3 c.before.before) (omega arith) (sym (c.included-4.ensures ∙ (tried c.args.image).3) ∙ c.if-included-4.false)

behind-5 : (c : Else-included-5) → Standing (fits? b c.args.image) 8 5
behind-5 c = misses (behind-4 c.before.before) (omega arith) (sym (c.included-5.ensures ∙ (tried c.args.image).4) ∙ c.if-included-5.false)

behind-6 : (c : Else-included-6) → Standing (fits? b c.args.image) 8 6
behind-6 c = misses (behind-5 c.before.before) (omega arith) (sym (c.included-6.ensures ∙ (tried c.args.image).5) ∙ c.if-included-6.false)

behind-7 : (c : Else-included-7) → Standing (fits? b c.args.image) 8 7
behind-7 c = misses (behind-6 c.before.before) (omega arith) (sym (c.included-7.ensures ∙ (tried c.args.image).6) ∙ c.if-included-7.false)

behind-8 : (c : Else-included-8) → Standing (fits? b c.args.image) 8 8
behind-8 c = misses (behind-7 c.before.before) (omega arith) (sym (c.included-8.ensures ∙ (tried c.args.image).7) ∙ c.if-included-8.false)

pub returns-then-wide : goal.returns-then-wide
returns-then-wide c = let s = c.before.before in wide_in_none s.args.image s.requires.1 (sym c.wide.ensures ∙ c.if-wide.true) ∙ as-worked-out s.args.image

pub returns-then-included : goal.returns-then-included
returns-then-included c = found b c.args.image begins (omega arith) (sym (c.included.ensures ∙ (tried c.args.image).0) ∙ c.if-included.true) ∙ as-worked-out c.args.image

pub returns-then-included-2 : goal.returns-then-included-2
returns-then-included-2 c = found b c.args.image (behind-1 c.before.before) (omega arith) (sym (c.included-2.ensures ∙ (tried c.args.image).1) ∙ c.if-included-2.true) ∙ as-worked-out c.args.image

pub returns-then-included-3 : goal.returns-then-included-3
returns-then-included-3 c = found b c.args.image (behind-2 c.before.before) (omega arith) (sym (c.included-3.ensures ∙ (tried c.args.image).2) ∙ c.if-included-3.true) ∙ as-worked-out c.args.image

pub returns-then-included-4 : goal.returns-then-included-4
returns-then-included-4 c = found b c.args.image (behind-3 c.before.before) (omega arith) (sym (c.included-4.ensures ∙ (tried c.args.image).3) ∙ c.if-included-4.true) ∙ as-worked-out c.args.image

pub returns-then-included-5 : goal.returns-then-included-5
returns-then-included-5 c = found b c.args.image (behind-4 c.before.before) (omega arith) (sym (c.included-5.ensures ∙ (tried c.args.image).4) ∙ c.if-included-5.true) ∙ as-worked-out c.args.image

pub returns-then-included-6 : goal.returns-then-included-6
returns-then-included-6 c = found b c.args.image (behind-5 c.before.before) (omega arith) (sym (c.included-6.ensures ∙ (tried c.args.image).5) ∙ c.if-included-6.true) ∙ as-worked-out c.args.image

pub returns-then-included-7 : goal.returns-then-included-7
returns-then-included-7 c = found b c.args.image (behind-6 c.before.before) (omega arith) (sym (c.included-7.ensures ∙ (tried c.args.image).6) ∙ c.if-included-7.true) ∙ as-worked-out c.args.image

pub returns-then-included-8 : goal.returns-then-included-8
returns-then-included-8 c = found b c.args.image (behind-7 c.before.before) (omega arith) (sym (c.included-8.ensures ∙ (tried c.args.image).7) ∙ c.if-included-8.true) ∙ as-worked-out c.args.image

pub returns : goal.returns
returns c = nowhere b c.args.image (behind-8 c) (omega arith) ∙ as-worked-out c.args.image
