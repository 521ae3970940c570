-- The inclusion theorem. Document 01: "I is included in J exactly if every point inside I is inside J. For whole-number ends this is: both ends of I are in
-- closed J, and either I and J have one and the same left end and one and the same right end, as points, or some end of J is not in closed I. .. Ours is
-- proved to say the first sentence." Here it is: `included_says` and `says_included`. Besides, a test that fails shows a point inside I and outside closed J
-- (`not_included`), and where the test holds closed I is included in closed J too (`closed_included`). InclusionTests.antt says what the parts of the test mean.
--
-- The argument. The test is read in the four numbers of InclusionSigns.antt (`Seen`). There its answer decides (`answer`) between "every mixture α·x + β·y of
-- I's ends with α·β > 0 is inside J" and "one such mixture is outside". And these mixtures are the points inside I: each point z is one, up to a factor, by
-- Cramer's rule det(x, y)·z = det(z, y)·x + det(x, z)·y (`mixture`); and each of them is inside I (`mix_inside`).
use Rattle.whole.proofs.Laws.{◌≡◌, sym, ◌∙◌, ap, ap₂, subst, Bool, true, false, ◌&&◌, List, T, ℤ, pos, neg_ℤ, ◌+ℤ◌, ◌-ℤ◌, ◌*ℤ◌, ◌≤ℤ◌, ◌<ℤ◌, clash_ℤ, ◌⊕◌, ◌⊖◌, ◌⊗◌, #, ◌≗◌, law, ◌≺◌, h, ◌⊞◌, ◌⊠◌, ◌⇒◌, ◌by◌, claim, ≤-of-<, both_true, true_by}
use Rattle.plane.proofs.Laws.{det_e, det_turned, three_terms, mix, mix_inside, inside_point, Pair, Point, det, left, right, Interval, Inside, Closed}
use Rattle.inclusion.specs.Inclusion.{Included, closed?, same?, included?}
use Rattle.inclusion.proofs.InclusionSigns.{EndsIn, Kept, keep_equal, keep_u, keep_v, Mixture, kept_closed, kept_inside, Off, off_left, off_right, off_round}
use Rattle.inclusion.proofs.InclusionTests.{closed_says, not_closed_says, same_zero, zero_same, Judged, left_out, right_out, equal, u_out, v_out, round, judge}

-- the four numbers: det(x, v), det(u, x), det(y, v), det(u, y)
abbrev pub Seen : (ℤ → ℤ → ℤ → ℤ → Type 0) → List ℤ → List ℤ → Type 0
Seen P i j = P (det (left i) (right j)) (det (left j) (left i)) (det (right i) (right j)) (det (left j) (right i))

-- ---- what the test's answer says of the four numbers

-- det(x, v)·det(u, y) − det(y, v)·det(u, x) is det(x, y)·det(u, v), a product of two numbers below 0
pub turn : {i j : List ℤ} → Interval i → Interval j → Seen (λ a b c d. pos 0 <ℤ (a *ℤ d -ℤ c *ℤ b)) i j
turn {i} {j} p q =
    claim 8 (λ x0 x1 y0 y1 u0 u1 v0 v1.
    det_e x0 x1 y0 y1 ≺ # 0 ⇒ det_e u0 u1 v0 v1 ≺ # 0 ⇒ # 0 ≺ det_e x0 x1 v0 v1 ⊗ det_e u0 u1 y0 y1 ⊖ det_e y0 y1 v0 v1 ⊗ det_e u0 u1 x0 x1
    by h 0 ⊞ h 1 ⊠ h 2) tt
    (left i).z0 (left i).z1 (right i).z0 (right i).z1 (left j).z0 (left j).z1 (right j).z0 (right j).z1 p.below q.below

pub data Answer (i j : List ℤ) : Bool → Type 0 where
  holds : Seen Kept i j → Answer i j true
  fails : Seen Off i j → Answer i j false

-- In each of the six ways: `det_turned` turns det(x, u) into −det(u, x), and det(v, y) into −det(y, v).
module _ {i j : List ℤ} (p : Interval i) (q : Interval j) where
  abbrev Tests : Bool → Type 0
  Tests = Judged (closed? j (left i)) (closed? j (right i)) (same? (left i) (left j) && same? (right i) (right j)) (closed? i (left j)) (closed? i (right j))

  ends : closed? j (left i) ≡ true → closed? j (right i) ≡ true → Seen EndsIn i j
  ends l r = record { turn = turn p q; left_in = (closed_says l).not_below; right_in = (closed_says r).not_below }

  answered : {b : Bool} → Tests b → Answer i j b
  answered (left_out l) = fails (off_left (not_closed_says j (left i) l))
  answered (right_out r) = fails (off_right (not_closed_says j (right i) r))
  answered (equal l r e) = holds (keep_equal (ends l r)
      (det_turned (left j) (left i) ∙ ap neg_ℤ (same_zero (left i) (left j) (both_true (same? (left i) (left j)) (same? (right i) (right j)) e).0)))
  answered (u_out l r o) = holds (keep_u (ends l r)
      (subst (λ t. (t *ℤ det (left j) (right i)) <ℤ pos 0) (det_turned (left i) (left j)) (not_closed_says i (left j) o)))
  answered (v_out l r o) = holds (keep_v (ends l r)
      (subst (λ t. (det (left i) (right j) *ℤ t) <ℤ pos 0) (det_turned (right j) (right i)) (not_closed_says i (right j) o)))
  answered (round l r e u v) = fails (off_round (ends l r) record {
    u_in = subst (λ t. pos 0 ≤ℤ (t *ℤ det (left j) (right i))) (det_turned (left i) (left j)) (closed_says u).not_below;
    v_in = subst (λ t. pos 0 ≤ℤ (det (left i) (right j) *ℤ t)) (det_turned (right j) (right i)) (closed_says v).not_below;
    not_equal = λ b c. subst T (sym (ap₂ ◌&&◌ (zero_same (left i) (left j) (det_turned (left i) (left j) ∙ ap neg_ℤ b)) (zero_same (right i) (right j) c)) ∙ e) tt;
  })

  pub answer : Answer i j (included? i j)
  unfolding included?
  answer = answered (judge (closed? j (left i)) (closed? j (right i)) (same? (left i) (left j) && same? (right i) (right j)) (closed? i (left j)) (closed? i (right j)))

pub kept : {i j : List ℤ} {b : Bool} → Answer i j b → b ≡ true → Seen Kept i j
kept (holds k) e = k
kept (fails o) e = absurd (subst T (sym e) tt)

off : {i j : List ℤ} {b : Bool} → Answer i j b → b ≡ false → Seen Off i j
off (holds k) e = absurd (subst T e tt)
off (fails o) e = o

-- ---- the test holds: a point z of I has det(x, y)·z = det(z, y)·x + det(x, z)·y, and its coordinates are mixed likewise

-- the other coordinate; the first is `three_terms`
mixed_left : (x y z u : Pair) → det x y *ℤ det u z ≡ det z y *ℤ det u x +ℤ det x z *ℤ det u y
mixed_left x y z u =
    law 8 (λ x0 x1 y0 y1 z0 z1 u0 u1. det_e x0 x1 y0 y1 ⊗ det_e u0 u1 z0 z1 ≗ det_e z0 z1 y0 y1 ⊗ det_e u0 u1 x0 x1 ⊕ det_e x0 x1 z0 z1 ⊗ det_e u0 u1 y0 y1) tt
    x.z0 x.z1 y.z0 y.z1 z.z0 z.z1 u.z0 u.z1

module _ {i j : List ℤ} (p : Interval i) (q : Interval j) (e : included? i j ≡ true) where
  mixture : (z : Pair) → Seen (λ a b c d. Mixture (det (left i) (right i)) (det z (right i)) (det (left i) z) a b c d (det z (right j)) (det (left j) z)) i j
  mixture z = record {
    below = p.below;
    first = three_terms (left i) (right i) z (right j);
    second = mixed_left (left i) (right i) z (left j);
    ends = kept (answer p q) e;
  }

  pub included_says : Included i j
  included_says = record { every = λ z o k. record { above = kept_inside (mixture z) k.above } }

  pub closed_included : (z : Pair) → Closed i z → Closed j z
  closed_included z k = record { not_below = kept_closed (mixture z) k.not_below }

-- ---- the test fails: a mixture of x and y is inside I, and outside closed J

pub record Escaped (i j : List ℤ) : Type 0 where
  pub z : Pair
  pub point : Point z
  pub inside : Inside i z
  pub not_inside : Inside j z → ⊥
  pub not_closed : Closed j z → ⊥

mix_beyond : (α β : ℤ) (x y u v : Pair) →
    ((α *ℤ det u x +ℤ β *ℤ det u y) *ℤ (α *ℤ det x v +ℤ β *ℤ det y v)) <ℤ pos 0 → (det u (mix α β x y) *ℤ det (mix α β x y) v) <ℤ pos 0
mix_beyond α β x y u v =
    claim 10 (λ α β x0 x1 y0 y1 u0 u1 v0 v1.
    (α ⊗ det_e u0 u1 x0 x1 ⊕ β ⊗ det_e u0 u1 y0 y1) ⊗ (α ⊗ det_e x0 x1 v0 v1 ⊕ β ⊗ det_e y0 y1 v0 v1) ≺ # 0 ⇒
    det_e u0 u1 (α ⊗ x0 ⊕ β ⊗ y0) (α ⊗ x1 ⊕ β ⊗ y1) ⊗ det_e (α ⊗ x0 ⊕ β ⊗ y0) (α ⊗ x1 ⊕ β ⊗ y1) v0 v1 ≺ # 0
    by h 0 ⊞ h 1) tt α β x.z0 x.z1 y.z0 y.z1 u.z0 u.z1 v.z0 v.z1

module _ {i j : List ℤ} (p : Interval i) (q : Interval j) where
  escaped : Seen Off i j → Escaped i j
  escaped o =
      let k = mix_inside o.α o.β p o.one_sign in
      let n = mix_beyond o.α o.β (left i) (right i) (left j) (right j) o.outside in
      record {
        z = mix o.α o.β (left i) (right i);
        point = inside_point k;
        inside = k;
        not_inside = λ m. clash_ℤ n (≤-of-< m.above);
        not_closed = λ m. clash_ℤ n m.not_below;
      }

  pub not_included : included? i j ≡ false → Escaped i j
  not_included e = escaped (off (answer p q) e)

  pub not_included_says : included? i j ≡ false → Included i j → ⊥
  not_included_says e k = let o = not_included e in o.not_inside (k.every o.z o.point o.inside)

  pub says_included : Included i j → included? i j ≡ true
  says_included k = true_by (included? i j) (λ e. not_included_says e k)
