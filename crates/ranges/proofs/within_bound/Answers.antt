-- `ranges::within_bound` meets its contract: the four tests, each of what is read of an entry.
use Rattle.whole.proofs.Laws.{◌≡◌, ◌∙◌, ap, ℕ, Bool, ◌&&◌, leb, ℤ, nat_abs, at, within?, held, Fits, back_of_lem}
use Rattle.std.proofs.Common.{arith}
use Rattle.ranges.proofs.within_bound.Goals as goal

-- the test of a number that is read
entry : (b : ℕ) (z : ℤ) {r : Bool} → Fits z → r ≡ leb (nat_abs (held z)) b → r ≡ leb (nat_abs z) b
entry b z f e = e ∙ ap (λ (x : ℤ). leb (nat_abs x) b) (back_of_lem z f)

pub returns : goal.returns
unfolding within?
returns c =
    let m = c.args.m in
    λ i.
    entry _ (at m 0) (omega arith) c.near.ensures i &&
    entry _ (at m 1) (omega arith) c.near-2.ensures i &&
    entry _ (at m 2) (omega arith) c.near-3.ensures i &&
    entry _ (at m 3) (omega arith) c.near-4.ensures i
