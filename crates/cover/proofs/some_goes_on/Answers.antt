-- `cover::some_goes_on` meets its contract: behind a's right end goes on a digit behind a, or one before it; a itself doesn't.
use Rattle.whole.proofs.Laws.{◌≡◌, refl, sym, ap, ◌∙◌, Bool, true, false, ◌&&◌, ◌||◌, ℕ, ◌+◌, ◌-◌, ◌<◌, arith, List, ℤ, first, found?, found_split}
use Rattle.plane.proofs.Laws.{right, det_self}
use Rattle.inclusion.proofs.Laws.{closed?, zero_same}
use native.Mathlib.Nat.{sub-zero, zero-add}
use Rattle.digits.proofs.Laws.{interval_at}
use Rattle.cover.specs.Cover.{goes_on_behind?}
use Rattle.cover.proofs.some_goes_on.Goals as goal
use Rattle.digits.specs.Orders.{seen}

-- a search among the numbers below n, parted at one that doesn't pass
parted : (t : ℕ → Bool) (n a : ℕ) → a < n → t a ≡ false → found? (first t n 0) ≡ (found? (first t a 0) || found? (first t (n - (a + 1)) (a + 1)))
unfolding first
parted t n a below misses =
    let k = n - (a + 1) in
    let all : n ≡ a + (1 + k) = omega arith in
    ap (λ (m : ℕ). found? (first t m 0)) all ∙ found_split t a (1 + k) 0 ∙
    ap (λ (b : Bool). found? (first t a 0) || b) (rw (zero-add a) (found_split t 1 k a ∙ rw misses))

or-true : (b : Bool) → (b || true) ≡ true
or-true true = refl
or-true false = refl

or-false : (b : Bool) → (b || false) ≡ b
or-false true = refl
or-false false = refl

and_false : (b : Bool) → (b && false) ≡ false
and_false true = refl
and_false false = refl

-- no interval goes on behind its own right end
not-behind-itself : (v : List ℤ) → goes_on_behind? v v ≡ false
not-behind-itself v = rw (zero_same (right v) (right v) (det_self (right v))) (and_false (closed? v (right v)))

abbrev test : List ℤ → List ℤ → ℕ → Bool
test columns v b = goes_on_behind? v (interval_at columns b)

-- a search among all digits, parted at a
all : (columns : List ℤ) (n a : ℕ) → a < n → let t = test columns (interval_at columns a) in
    found? (first t n 0) ≡ (found? (first t a 0) || found? (first t (n - (a + 1)) (a + 1)))
all columns n a h = parted _ n a h (not-behind-itself (interval_at columns a))

pub returns-then-goes_on_from : goal.returns-then-goes_on_from
returns-then-goes_on_from c =
    let s = (seen c.args.system) in
    let a = c.args.a in
    let e = rw c.interval-v.ensures at (sym c.goes_on_from.ensures ∙ c.if-goes_on_from.true) in
    c.if-goes_on_from.true ∙ sym (all s.columns s.count a c.requires.2 ∙ rw e (or-true (found? (first (test s.columns (interval_at s.columns a)) a 0))))

pub returns-else-goes_on_from : goal.returns-else-goes_on_from
returns-else-goes_on_from c =
    let s = (seen c.args.system) in
    let a = c.args.a in
    let t = test s.columns (interval_at s.columns a) in
    let e = rw c.interval-v.ensures at (sym c.goes_on_from.ensures ∙ c.if-goes_on_from.false) in
    c.goes_on_from-else-goes_on_from.ensures ∙
    ap (λ (v : List ℤ). found? (first (test s.columns v) (a - 0) 0)) c.interval-v.ensures ∙ ap (λ (k : ℕ). found? (first t k 0)) (sub-zero a) ∙
    sym (all s.columns s.count a c.requires.2 ∙ rw e (or-false (found? (first t a 0))))
