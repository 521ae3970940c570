-- `built_in_digits::image_r` meets its contract, digit by digit: the constants are its intervals.
use Rattle.whole.proofs.Laws.{◌≡◌, refl, ◌∙◌, arith, ℕ, List, [], ◌∷◌, ℤ, pos}
use Rattle.plane.proofs.Laws.{image_of}
use Rattle.digits.proofs.Laws.{interval, table_of, rows_r, minus, interval_by, four_by}
use Rattle.built_in_digits.proofs.OneDigit.{one_digit}
use Rattle.built_in_digits.proofs.image_r.Goals as goal

-- what is asked for, by the digit
abbrev of : List ℤ → ℕ → List ℤ
of x a = image_of x (interval (table_of rows_r) a)

-- the constants
each : (x : List ℤ) → (image_of x (pos 0 ∷ pos 1 ∷ pos 1 ∷ pos 1 ∷ []) ≡ of x 0) × (image_of x (pos 1 ∷ pos 1 ∷ pos 1 ∷ pos 0 ∷ []) ≡ of x 1) × (image_of x (pos 1 ∷ pos 0 ∷ pos 1 ∷ minus 1 ∷ []) ≡ of x 2) × (image_of x (minus 1 ∷ pos 1 ∷ pos 0 ∷ pos 1 ∷ []) ≡ of x 3)
unfolding interval_by four_by
each x = (refl, refl, refl, refl)

pub returns-in-0 : goal.returns-in-0
returns-in-0 c = let x = c.args.x in one_digit (of x) c.in-0.is (c.image.ensures ∙ (each x).0)

pub returns-in-1 : goal.returns-in-1
returns-in-1 c = let x = c.args.x in one_digit (of x) c.in-1.is (c.image-in-1.ensures ∙ (each x).1)

pub returns-in-2 : goal.returns-in-2
returns-in-2 c = let x = c.args.x in one_digit (of x) c.in-2.is (c.image-in-2.ensures ∙ (each x).2)

pub returns-in_default : goal.returns-in_default
returns-in_default c =
    let x = c.args.x in
    let last : c.args.a ≡ 3 = omega arith in
    one_digit (of x) last (c.image-in_default.ensures ∙ (each x).3)
