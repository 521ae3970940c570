-- `cancelling::divisor` meets its contract: what `magnitude` hands of each entry is how far it lies from 0, and the rest is what `gcd` ensures. Where the first two entries
-- have no common divisor but 1, the four have none either.
use Rattle.whole.proofs.Laws.{◌≡◌, sym, ◌∙◌, ap, ap₂, ℕ, ◌<◌, one-dvd, nat_abs, pos, at, gcd, gcd4, gcd_divides_left, get_or, arith}
use native.Mathlib.Nat.{dvd_antisymm}
use Rattle.std.proofs.Common.{rules}
use Rattle.cancelling.proofs.divisor.Goals.{After-gcd-f}
use Rattle.cancelling.proofs.divisor.Goals as goal

-- 1 and any number
one-gcd : (n : ℕ) → gcd 1 n ≡ 1
one-gcd n = dvd_antisymm (gcd_divides_left 1 n) (one-dvd (gcd 1 n))

-- how far the entries lie from 0, and the first two
module _ (c : After-gcd-f) where
  size : (k : ℕ) → k < 4 → get_or c.map.result k 0 ≡ nat_abs (at c.args.m k)
  size k p = let h = c.map.ensures.items.at k (pos 0) 0 p in search rules

  first : c.gcd-f.result ≡ gcd (nat_abs (at c.args.m 0)) (nat_abs (at c.args.m 1))
  first = c.gcd-f.ensures ∙ ap₂ gcd (size 0 (omega arith)) (size 1 (omega arith))

pub returns-then-f-eq1 : goal.returns-then-f-eq1
unfolding gcd4
returns-then-f-eq1 c =
    let m = c.args.m in
    let rest = gcd (nat_abs (at m 2)) (nat_abs (at m 3)) in
    sym (ap (λ (k : ℕ). gcd k rest) (sym (first c.before) ∙ c.if-f-eq1.true) ∙ one-gcd rest)

pub returns : goal.returns
unfolding gcd4
returns c =
    let g = c.before.before.before in
    c.gcd-2.ensures ∙ ap₂ gcd (first g) (c.gcd.ensures ∙ ap₂ gcd (size g 2 (omega arith)) (size g 3 (omega arith)))
