-- `built_in_digits::given_r` meets its contract, digit by digit: the constants are the pseudoinverses of its transformations.
use Rattle.whole.proofs.Laws.{◌≡◌, refl, ◌∙◌, arith, ℕ, List, [], ◌∷◌, ℤ, pos}
use Rattle.plane.proofs.Laws.{multiply_of, pseudoinverse_of}
use Rattle.products.proofs.Laws.{factors_fit}
use Rattle.digits.proofs.Laws.{transformation, table_of, rows_r, minus, transformation_by, four_by}
use Rattle.built_in_digits.proofs.OneDigit.{one_digit}
use Rattle.std.proofs.Common.{rules}
use Rattle.built_in_digits.proofs.given_r.Goals as goal

-- what is asked for, by the digit
abbrev of : List ℤ → ℕ → List ℤ
of x a = multiply_of (pseudoinverse_of (transformation (table_of rows_r) a)) x

-- the constants
each : (x : List ℤ) → (multiply_of (pos 1 ∷ pos 0 ∷ minus 1 ∷ pos 1 ∷ []) x ≡ of x 0) × (multiply_of (pos 1 ∷ minus 1 ∷ pos 0 ∷ pos 1 ∷ []) x ≡ of x 1) × (multiply_of (pos 1 ∷ pos 1 ∷ pos 0 ∷ pos 1 ∷ []) x ≡ of x 2) × (multiply_of (pos 1 ∷ pos 0 ∷ pos 1 ∷ pos 1 ∷ []) x ≡ of x 3)
unfolding transformation_by four_by pseudoinverse_of
each x = (refl, refl, refl, refl)

pub returns-in-0 : goal.returns-in-0
returns-in-0 c = let x = c.args.x in one_digit (of x) c.in-0.is (c.multiply.ensures ∙ (each x).0)

pub returns-in-1 : goal.returns-in-1
returns-in-1 c = let x = c.args.x in one_digit (of x) c.in-1.is (c.multiply-in-1.ensures ∙ (each x).1)

pub returns-in-2 : goal.returns-in-2
returns-in-2 c = let x = c.args.x in one_digit (of x) c.in-2.is (c.multiply-in-2.ensures ∙ (each x).2)

pub returns-in_default : goal.returns-in_default
returns-in_default c =
    let x = c.args.x in
    let last : c.args.a ≡ 3 = omega arith in
    one_digit (of x) last (c.multiply-in_default.ensures ∙ (each x).3)

pub multiply-requires : goal.multiply-requires
multiply-requires c = factors_fit {s = 1} (search rules) c.requires.0 tt

pub multiply-requires-in-1 : goal.multiply-requires-in-1
multiply-requires-in-1 c = factors_fit {s = 1} (search rules) c.requires.0 tt

pub multiply-requires-in-2 : goal.multiply-requires-in-2
multiply-requires-in-2 c = factors_fit {s = 1} (search rules) c.requires.0 tt

pub multiply-requires-in_default : goal.multiply-requires-in_default
multiply-requires-in_default c = factors_fit {s = 1} (search rules) c.requires.0 tt
