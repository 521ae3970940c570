-- The determinant of two by two numbers, for the worked identities of proofs/Worked.antt.
--
-- An identity is stated of whole numbers and tested on expressions, so the determinant is wanted of both. It is written once, for any kind of number with a
-- difference and a product: `det` is it of whole numbers, and proofs/Worked.antt has it of expressions. A sign that is wrong here is wrong in both, and then
-- the test itself finds the identities false. The contracts do not use this file; document 01's determinant is in the crate `plane`.
use Rattle.std.specs.Prelude.{ℤ, ◌-ℤ◌, ◌*ℤ◌}

-- ad − bc
abbrev pub determinant : (A : Type 0) → (A → A → A) → (A → A → A) → A → A → A → A → A
determinant A minus times a b c d = minus (times a d) (times b c)

abbrev pub det : ℤ → ℤ → ℤ → ℤ → ℤ
det = determinant ℤ ◌-ℤ◌ ◌*ℤ◌
