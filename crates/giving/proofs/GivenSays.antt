-- What it means that a digit may be given out: if the eight coefficients of the four images of interval ends lie on one side of 0, then x in closed V and y in closed W are sent into
-- closed U, where their image is a point.
-- The argument. With δ = det(l, r) of V's ends, δ·X(x, l') and δ·X(x, r') are mixed from images of ends, by det(x, r) and det(l, x), which lie on one side since x is in closed V:
-- so their four coefficients lie on one side. With δ' of W's ends l' and r' the two of δ·(δ'·X(x, y)) do likewise, so that this is in closed U; and a multiple changes nothing.
use Rattle.whole.proofs.Laws.{◌≡◌, ap, ◌∙◌, Bool, true, not, both_true, List, ℤ, pos}
use Rattle.plane.proofs.Laws.{Pair, det, left, right, Interval, Closed, scale_pair, below_not_0, same_sym, same_scale, closed_same}
use Rattle.bilinear.proofs.Laws.{Form, apply_two}
use Rattle.giving.specs.MayGive.{images_of, all_coefficients, one_sided?, some_nought?, may_give?, SentInto}
use Rattle.giving.proofs.Sides.{one_side}
use Rattle.giving.proofs.Mixed.{mixed_first, mixed_second, scale_mix}
use Rattle.giving.proofs.OneSided.{Sided, AllSided, no_more, one_more, one_sided_says, mixed_sided, sided_closed}

-- a multiple that is not 0 is in the closed interval where the pair is
closed_scaled : {u : List ℤ} (k : ℤ) (z : Pair) → (k ≡ pos 0 → ⊥) → Closed u (scale_pair k z) → Closed u z
closed_scaled k z f = closed_same (same_sym (same_scale k z f))

module _ (m : Form) (v w u : List ℤ) (p : Interval v) (q : Interval w) where
  -- of four images whose coefficients lie on side s
  from_four : {s : Bool} → Sided s u (apply_two m (left v) (left w)) → Sided s u (apply_two m (left v) (right w)) →
      Sided s u (apply_two m (right v) (left w)) → Sided s u (apply_two m (right v) (right w)) → (x y : Pair) → Closed v x → Closed w y → Closed u (apply_two m x y)
  from_four ll lr rl rr x y k l =
      let δ = det (left v) (right v) in
      let δ' = det (left w) (right w) in
      -- x among V's ends
      let a = one_side (det (left v) x) (det x (right v)) k.not_below in
      let at_left = mixed_sided (mixed_first m (left v) (right v) x (left w)) a.1 a.2 ll rl in
      let at_right = mixed_sided (mixed_first m (left v) (right v) x (right w)) a.1 a.2 lr rr in
      -- y among W's ends
      let b = one_side (det (left w) y) (det y (right w)) l.not_below in
      let mixed = ap (scale_pair δ) (mixed_second m (left w) (right w) x y) ∙ scale_mix δ (det y (right w)) (det (left w) y) (apply_two m x (left w)) (apply_two m x (right w)) in
      closed_scaled δ' (apply_two m x y) (below_not_0 q.below)
      (closed_scaled δ (scale_pair δ' (apply_two m x y)) (below_not_0 p.below) (sided_closed (mixed_sided mixed b.1 b.2 at_left at_right)))

  pub given_says : one_sided? (all_coefficients u (images_of m v w)) ≡ true → (x y : Pair) → Closed v x → Closed w y → Closed u (apply_two m x y)
  unfolding images_of
  given_says e = let o = one_sided_says u (images_of m v w) e in by o.1
    where
      by : {s : Bool} → AllSided s u (images_of m v w) → (x y : Pair) → Closed v x → Closed w y → Closed u (apply_two m x y)
      by (one_more ll (one_more lr (one_more rl (one_more rr no_more)))) = from_four ll lr rl rr

  pub sent_into : may_give? (images_of m v w) u ≡ true → SentInto m v w u
  unfolding may_give?
  sent_into e = record {
    lies_in = λ x y point k point' l point''. given_says (both_true (one_sided? (all_coefficients u (images_of m v w))) (not (some_nought? (images_of m v w))) e).0 x y k l;
  }
