-- `numbers::held_from` meets its contract: −1, and then whether a byte holds the number.
use Rattle.whole.proofs.Laws.{◌≡◌, refl, sym, ap, ◌∙◌, ℕ, zero, suc, ℤ, pos, negsuc, arith, lt-ltb, le-ltb}
use Rattle.std.specs.Result.{OkIff, result_unwrap_or}
use Rattle.std.specs.Int.{FitsUnsignedBits}
use Rattle.std.specs.Prelude.{Result, Ok, Err, nat_abs}
use Rattle.states.proofs.Laws.{Some}
use mir.Facts.{to_z-of_z}
use mir.Syntax.{w64}
use mir.Val.{to_z, of_z}
use Rattle.numbers.specs.Numbers.{held_from}
use Rattle.numbers.proofs.held_from.Goals as goal

pub returns-then-z-eqminus1 : goal.returns-then-z-eqminus1
unfolding held_from
returns-then-z-eqminus1 c = let minus_one : c.args.z ≡ negsuc 0 = sym (to_z-of_z c.ranges.z) ∙ ap (to_z w64) c.if-z-eqminus1.true in rw minus_one

-- a byte holds it or not
byte : {E : Type 0} (z : ℤ) (r : Result ℕ E) → (z ≡ negsuc 0 → ⊥) → OkIff r (FitsUnsignedBits 8 z) (nat_abs z) → Some (result_unwrap_or r 255) ≡ held_from z
unfolding held_from
byte (pos n) (Ok x) not_minus_one h = rw (h.1, le-ltb n 0 (omega arith), le-ltb 255 n (omega (arith, h.0)))
byte (pos n) (Err e) not_minus_one h = rw (le-ltb n 0 (omega arith), lt-ltb 255 n (omega arith))
byte (negsuc n) (Ok x) not_minus_one h = absurd h.0
byte (negsuc zero) (Err e) not_minus_one h = absurd (not_minus_one refl)
byte (negsuc (suc n)) (Err e) not_minus_one h = rw (lt-ltb 0 (suc n) (omega arith))

pub returns : goal.returns
returns c =
    let same = to_z-of_z c.ranges.z in
    ap (λ (d : ℕ). Some d) c.unwrap_or.ensures ∙ byte c.args.z c.try_from.result (λ e. c.if-z-eqminus1.false (ap (of_z w64) e)) (rw same at c.try_from.ensures)
