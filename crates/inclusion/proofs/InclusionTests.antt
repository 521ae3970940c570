-- What the tests inside `included?` say: `closed?` is document 01's "in the closed interval exactly if that product is ≥ 0", and `same?` is its "multiples are the same
-- point". The last part takes `included?` apart into the six ways in which it comes out (`judge`).
use Rattle.whole.proofs.Laws.{◌≡◌, refl, sym, ap, subst, Bool, true, false, not, ◌&&◌, ◌||◌, List, T, eqb, eqb→eq, ℤ, pos, nat_abs, ◌*ℤ◌, ◌<ℤ◌, clash_ℤ, nat_abs_zero, le_true, le_false, true_le}
use Rattle.plane.proofs.Laws.{same_det, det_same, Pair, Point, SamePoint, det, left, right, Closed}
use Rattle.inclusion.specs.Inclusion.{closed?, same?}

-- ---- "A point z is .. in the closed interval exactly if that product is ≥ 0."

pub closed_says : {w : List ℤ} {z : Pair} → closed? w z ≡ true → Closed w z
unfolding closed?
closed_says {w} {z} e = record { not_below = le_true (pos 0) (det (left w) z *ℤ det z (right w)) e }

pub says_closed : {w : List ℤ} {z : Pair} → Closed w z → closed? w z ≡ true
unfolding closed?
says_closed k = true_le k.not_below

pub not_closed_says : (w : List ℤ) (z : Pair) → closed? w z ≡ false → (det (left w) z *ℤ det z (right w)) <ℤ pos 0
unfolding closed?
not_closed_says w z e = le_false (pos 0) (det (left w) z *ℤ det z (right w)) e

pub not_closed : {w : List ℤ} {z : Pair} → closed? w z ≡ false → Closed w z → ⊥
not_closed {w} {z} e k = clash_ℤ (not_closed_says w z e) k.not_below

-- ---- "Multiples are the same point."

pub same_zero : (x y : Pair) → same? x y ≡ true → det x y ≡ pos 0
unfolding same?
same_zero x y e = nat_abs_zero (eqb→eq (nat_abs (det x y)) 0 (subst T (sym e) tt))

pub zero_same : (x y : Pair) → det x y ≡ pos 0 → same? x y ≡ true
unfolding same?
zero_same x y e = ap (λ (d : ℤ). eqb (nat_abs d) 0) e

pub same_says : {x y : Pair} → Point x → Point y → same? x y ≡ true → SamePoint x y
same_says {x} {y} p q e = det_same p q (same_zero x y e)

pub says_same : {x y : Pair} → SamePoint x y → same? x y ≡ true
says_same {x} {y} s = zero_same x y (same_det s)

-- ---- the six ways in which the test of inclusion comes out: l and r, the ends of I are in closed J; e, the ends are equal; u and v, the ends of J are in closed I

pub data Judged (l r e u v : Bool) : Bool → Type 0 where
  left_out : l ≡ false → Judged l r e u v false
  right_out : r ≡ false → Judged l r e u v false
  equal : l ≡ true → r ≡ true → e ≡ true → Judged l r e u v true
  u_out : l ≡ true → r ≡ true → u ≡ false → Judged l r e u v true
  v_out : l ≡ true → r ≡ true → v ≡ false → Judged l r e u v true
  round : l ≡ true → r ≡ true → e ≡ false → u ≡ true → v ≡ true → Judged l r e u v false

pub judge : (l r e u v : Bool) → Judged l r e u v (l && r && (e || not u || not v))
judge false r e u v = left_out refl
judge true false e u v = right_out refl
judge true true true u v = equal refl refl refl
judge true true false false v = u_out refl refl refl
judge true true false true false = v_out refl refl refl
judge true true false true true = round refl refl refl refl refl
