-- The sentences of demand 3 for two words, read off what is meant (`TwoMeant`, TwoMoments).
-- There is one list of absorbed digits of each word and no other, since the held one is known and went in last. The product's equation is the first sentence; and forms that
-- are equal up to a positive scale make the same point of two points, which is the second: a product of matrices, applied, is the number named.
use Rattle.whole.proofs.Laws.{sym, ◌∙◌, ap, subst, List, ℕ}
use Rattle.plane.proofs.Laws.{Pair, Point, SamePoint, apply, point_back, point_same, same_sym}
use Rattle.bilinear.proofs.Laws.{Form, apply_two, into_x, times_form, apply_into_x, apply_into_y, apply_times}
use Rattle.digits.proofs.Laws.{System}
use Rattle.runs.proofs.Laws.{Deed}
use Rattle.steps.proofs.Laws.{setting}
use Rattle.two_states.proofs.Laws.{TwoState}
use Rattle.meaning.proofs.Laws.{named_from, product_of, product_names, the_absorbed}
use Rattle.two_meaning.specs.TwoSession.{OfBothAbsorbed, TwoProductHolds, TwoNamedHolds, TwoNumbersHold}
use Rattle.two_meaning.proofs.UpToScale.{up_same}
use Rattle.two_meaning.proofs.TwoMoments.{TwoMeantBy}

module _ {a b : System} {op : Form} (done : Deed) {s : TwoState} (h : TwoMeantBy (setting a b) op done s) where
  both_absorbed : {Claim : List ℕ → List ℕ → Type 0} → Claim h.absorbed_x_lem h.absorbed_y_lem → OfBothAbsorbed done s Claim
  both_absorbed c = the_absorbed h.absorbed_x_lem s.x h.with_held_x (the_absorbed h.absorbed_y_lem s.y h.with_held_y c)

  pub meant_product : TwoProductHolds a b op done s
  meant_product = both_absorbed h.product

  -- P(X(r, t)) is Op(Q_x r, Q_y t), as a point
  named_same : (r t : Pair) → SamePoint (named_from b done.digits (apply_two s.form r t)) (apply_two op (named_from a h.absorbed_x_lem r) (named_from a h.absorbed_y_lem t))
  named_same r t =
      let qx = product_of a h.absorbed_x_lem in
      let qy = product_of a h.absorbed_y_lem in
      let p = product_of b done.digits in
      let left = apply_times p s.form r t ∙ product_names b done.digits (apply_two s.form r t) in
      let right = apply_into_y (into_x op qx) qy r t ∙ apply_into_x op qx r (apply qy t) ∙
      ap (λ (x : Pair). apply_two op x (apply qy t)) (product_names a h.absorbed_x_lem r) ∙ ap (apply_two op (named_from a h.absorbed_x_lem r)) (product_names a h.absorbed_y_lem t) in
      subst (λ (z : Pair). SamePoint z (apply_two op (named_from a h.absorbed_x_lem r) (named_from a h.absorbed_y_lem t))) left
      (subst (SamePoint (apply_two (times_form p s.form) r t)) right (up_same h.product r t))

  pub meant_named : TwoNamedHolds a b op done s
  meant_named = both_absorbed (λ r t pr pt point.
      let same = named_same r t in
      let p = product_of b done.digits in
      let image : Point (apply p (apply_two s.form r t)) = subst Point (sym (product_names b done.digits (apply_two s.form r t))) (point_same (same_sym same) point) in
      record { still_to_come = point_back p image; same_number = same })

  pub meant_numbers : TwoNumbersHold a b op done s
  meant_numbers = both_absorbed (λ r t pr pt x hx z hy point. h.intervals r t x hx z hy)
