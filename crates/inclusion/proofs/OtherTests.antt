-- "Document 000's shorter test (both ends only) is wrong for an I that goes round the other way; document 001's test shuts out equal intervals" (document 01). So it is,
-- and in no other case: 000's test passes wrongly exactly if I goes round the other way, and never fails wrongly; 001's fails wrongly exactly if I and J have the same
-- ends as points, and never passes wrongly. P2 and P3 are cases of the first, and every interval is, with itself, a case of the second, as P1.
-- The argument: the three tests are put together from the same five answers, and where they differ is seen by trying these out (`round_of`, `equal_of`); what the
-- answers say is in InclusionTests.antt, and that `included?` is never wrong in Inclusion.antt.
use Rattle.whole.proofs.Laws.{◌≡◌, refl, sym, ◌∙◌, Bool, true, false, not, ◌&&◌, ◌||◌, false≢true, true≢false, List, [], ◌∷◌, ◌↔◌, ℤ, pos, neg_ℤ, lt_z_yes, at, ◌⊗◌, #, ◌≦◌, linear, ◌from◌, claim, both_true, true_both, false_by}
use Rattle.plane.proofs.Laws.{det_e, left, right, Interval, Closed, left_point, right_point, same_refl, same_sym, closed_same}
use Rattle.inclusion.specs.Inclusion.{closed?, same?, included?}
use Rattle.inclusion.specs.OtherTests.{test000, test001, WronglyPasses, WronglyFails, SameEndPoints, GoesRound}
use Rattle.inclusion.proofs.InclusionTests.{closed_says, says_closed, same_says, says_same}
use Rattle.inclusion.proofs.Inclusion.{included_says, says_included, not_included_says}

-- ---- "P1 (1, infinity) is included in itself. P2 (2, 1) through infinity isn't in (0, 3), though both ends lie there. P3 (3, 0) isn't in (0, 3)": P2 and P3 pass 000's
-- test, and P1 fails 001's. Each has a determinant below 0, so 1/1 is written −1/−1 and 0/1 is 0/−1 where the interval runs through infinity.

abbrev from_1_to_infinity : List ℤ
from_1_to_infinity = pos 1 ∷ pos 1 ∷ pos 1 ∷ pos 0 ∷ []

abbrev from_0_to_3 : List ℤ
from_0_to_3 = pos 0 ∷ pos 1 ∷ pos 3 ∷ pos 1 ∷ []

abbrev from_2_to_1 : List ℤ
from_2_to_1 = pos 2 ∷ pos 1 ∷ neg_ℤ (pos 1) ∷ neg_ℤ (pos 1) ∷ []

abbrev from_3_to_0 : List ℤ
from_3_to_0 = pos 3 ∷ pos 1 ∷ pos 0 ∷ neg_ℤ (pos 1) ∷ []

pub ends_alone_wrong : WronglyPasses test000 from_2_to_1 from_0_to_3 × WronglyPasses test000 from_3_to_0 from_0_to_3
unfolding included? closed? same?
ends_alone_wrong =
    let into : Interval from_0_to_3 = record { below = lt_z_yes tt } in
    (record { passes = refl; not_included = not_included_says (record { below = lt_z_yes tt }) into refl }, record { passes = refl; not_included = not_included_says (record { below = lt_z_yes tt }) into refl })

pub P1-shut-out : WronglyFails test001 from_1_to_infinity from_1_to_infinity
unfolding included? closed? same?
P1-shut-out = record { fails = refl; included = included_says (record { below = lt_z_yes tt }) (record { below = lt_z_yes tt }) refl }

-- ---- where the tests differ: l and r, the ends of I are in closed J; e, the ends are the same; u and v, the ends of J are in closed I

record EndsAnswers (l r e u v : Bool) : Type 0 where
  pub l_in : l ≡ true
  pub r_in : r ≡ true
  pub others : e ≡ false
  pub u_in : u ≡ true
  pub v_in : v ≡ true

round_of : (l r e u v : Bool) → (l && r) ≡ true → (l && r && (e || not u || not v)) ≡ false → EndsAnswers l r e u v
round_of false r e u v p q = absurd (false≢true p)
round_of true false e u v p q = absurd (false≢true p)
round_of true true true u v p q = absurd (true≢false q)
round_of true true false false v p q = absurd (true≢false q)
round_of true true false true false p q = absurd (true≢false q)
round_of true true false true true p q = record { l_in = refl; r_in = refl; others = refl; u_in = refl; v_in = refl }

equal_of : (l r e u v : Bool) → (l && r && (not u || not v)) ≡ false → (l && r && (e || not u || not v)) ≡ true → e ≡ true
equal_of false r e u v p q = absurd (false≢true q)
equal_of true false e u v p q = absurd (false≢true q)
equal_of true true true u v p q = refl
equal_of true true false u v p q = absurd (true≢false (sym q ∙ p))

-- ---- the ends of an interval are in it, closed

own_left : (w : List ℤ) → Closed w (left w)
own_left w = record { not_below = claim 4 (λ a b c d. # 0 ≦ det_e a b a b ⊗ det_e a b c d from linear) tt (at w 0) (at w 1) (at w 2) (at w 3) }

own_right : (w : List ℤ) → Closed w (right w)
own_right w = record { not_below = claim 4 (λ a b c d. # 0 ≦ det_e a b c d ⊗ det_e c d c d from linear) tt (at w 0) (at w 1) (at w 2) (at w 3) }

module _ {i j : List ℤ} (s : SameEndPoints i j) where
  left_too : closed? i (left j) ≡ true
  left_too = says_closed (closed_same s.lefts (own_left i))

  right_too : closed? i (right j) ≡ true
  right_too = says_closed (closed_same s.rights (own_right i))

  same_too : (same? (left i) (left j) && same? (right i) (right j)) ≡ true
  same_too = true_both (says_same s.lefts) (says_same s.rights)

  turned : SameEndPoints j i
  turned = record { lefts = same_sym s.lefts; rights = same_sym s.rights }

-- ---- where they are wrong

module _ {i j : List ℤ} (p : Interval i) (q : Interval j) where
  same_ends : (same? (left i) (left j) && same? (right i) (right j)) ≡ true → SameEndPoints i j
  same_ends e =
      let k = both_true (same? (left i) (left j)) (same? (right i) (right j)) e in
      record { lefts = same_says (left_point p) (left_point q) k.0; rights = same_says (right_point p) (right_point q) k.1 }

  -- both ends of I are in closed J, and it is not included
  round : WronglyPasses test000 i j → EndsAnswers (closed? j (left i)) (closed? j (right i)) (same? (left i) (left j) && same? (right i) (right j)) (closed? i (left j)) (closed? i (right j))
  unfolding included?
  round w = round_of _ _ _ _ _ w.passes (false_by (included? i j) (λ e. w.not_included (included_says p q e)))

  pub ends_alone_exactly : WronglyPasses test000 i j ↔ GoesRound i j
  unfolding included?
  ends_alone_exactly = (
    λ w. let k = round w in
        record {
          left_in = closed_says k.l_in;
          right_in = closed_says k.r_in;
          other_left_in = closed_says k.u_in;
          other_right_in = closed_says k.v_in;
          others = λ s. true≢false (sym (same_too s) ∙ k.others);
        },
    λ g. let l = says_closed g.left_in in
        let r = says_closed g.right_in in
        let e = false_by (same? (left i) (left j) && same? (right i) (right j)) (λ e. g.others (same_ends e)) in
        record { passes = true_both l r; not_included = not_included_says p q (rw (l, r, e, says_closed g.other_left_in, says_closed g.other_right_in)) },
  )

  pub ends_alone_enough : WronglyFails test000 i j → ⊥
  unfolding included?
  ends_alone_enough w = true≢false (sym (both_true (test000 i j) _ (says_included p q w.included)).0 ∙ w.fails)

  pub shut_out_exactly : WronglyFails test001 i j ↔ SameEndPoints i j
  unfolding included?
  shut_out_exactly = (
    λ w. same_ends (equal_of (closed? j (left i)) (closed? j (right i)) _ (closed? i (left j)) (closed? i (right j)) w.fails (says_included p q w.included)),
    λ s. record {
      fails = rw (left_too (turned s), right_too (turned s), left_too s, right_too s);
      included = included_says p q (rw (left_too (turned s), right_too (turned s), same_too s));
    },
  )

  pub never_too_much : WronglyPasses test001 i j → ⊥
  never_too_much w =
      let k = round (record { passes = (both_true (test000 i j) _ w.passes).0; not_included = w.not_included }) in
      false≢true (sym (rw (k.l_in, k.r_in, k.u_in, k.v_in)) ∙ w.passes)

-- every interval, with itself
pub equal_shut_out : (i : List ℤ) → Interval i → WronglyFails test001 i i
equal_shut_out i p = (shut_out_exactly p p).1 (record { lefts = same_refl (left i); rights = same_refl (right i) })
