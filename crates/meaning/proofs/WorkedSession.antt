-- Sessions, worked. Document 01's own job, "Input R, output R, matrix 2 1 1 2, word 0 0 1", in one call: the output is 0 1 1 and the state 2 1 1 2. The same job with
-- room for two digits stops with 0 1, the state 3 0 1 1 and the last digit still held; a second call, with no input and more room, ends where the one call ended.
-- The sessions are computed by the checker from the definitions of opening and `run`. Then what `session_product` and `session_numbers` say of them, in plain numbers:
-- in `whole_word` at the rest 1/1, and in `half_way` at the rest 2/1, which the held digit 1 makes of 1/1. Both times the input names 2/5, of which the matrix makes
-- 9/12, and the output names 9/12 in front of what is still to come. Of P6, where a 2 is cancelled, what `session_scale` says. Last, the held digit is not absorbed: with it counted in, the product is another.
use Rattle.whole.proofs.Laws.{◌≡◌, refl, ap, List, [], ◌∷◌, ℕ, ◌*◌, arith, replicate, ℤ, pos, nat_abs, at, gcd_by, gcd, gcd4, first, unless_refused, within?}
use Rattle.plane.proofs.Laws.{Point, SamePoint, determinant_of, pseudoinverse_of, apply, multiply_of, Closed, image_of, cancel_of, scale_of}
use Rattle.inclusion.proofs.Laws.{closed?, same?, included?}
use Rattle.digits.proofs.Laws.{transformation_by, interval_by, rows_in, rows_r, rows_b, stored, system_of}
use Rattle.expanding.proofs.Laws.{form_of, expands?}
use Rattle.admission.proofs.Laws.{row_verdict, rows_verdict, admission_of, r_admitted, b_admitted}
use Rattle.runs.proofs.Laws.{Deed, nothing, follow, run_by, run, judged_run}
use Rattle.states.proofs.Laws.{None, Some, State}
use Rattle.fitting.proofs.Laws.{fitting_of}
use Rattle.opening.proofs.Laws.{open_of}
use Rattle.judging.proofs.Laws.{state?, refusal_by, refusal_of}
use Rattle.unary.proofs.Laws.{course_of}
use Rattle.meaning.specs.Names.{named_from, product_of, determinants_of, times_all, EachInItsInterval, UpToScale}
use Rattle.meaning.specs.Session.{Session}
use Rattle.meaning.proofs.Sessions.{newly_opened, called_again, session_product, session_scale, session_named, session_numbers}
use Rattle.meaning.proofs.Claims.{of_the}
use Rattle.meaning.proofs.Premise.{◌over◌, system_r, system_b, computed, fraction, holds_at_1, held_holds}

-- ---- the sessions

abbrev four : ℕ → ℕ → ℕ → ℕ → List ℤ
four a b c d = pos a ∷ pos b ∷ pos c ∷ pos d ∷ []

-- what was done: the bytes taken, the digits given out, the divisors listed
abbrev done : List ℕ → List ℕ → List ℕ → Deed
done taken given listed = record { x = taken; y = []; digits = given; divisors = listed }

-- a session on R and R, opened for 2 1 1 2
abbrev SessionR : Deed → State → Type 0
SessionR d s = Session (system_of (stored rows_r)) (system_of (stored rows_r)) (four 2 1 1 2) d s

pub new : SessionR nothing (record { matrix = four 2 1 1 2; held = None })
unfolding open_of within? determinant_of cancel_of gcd4 gcd gcd_by
new = newly_opened r_admitted r_admitted refl

pub whole_word : SessionR (done (0 ∷ 0 ∷ 1 ∷ []) (0 ∷ 1 ∷ 1 ∷ []) (1 ∷ 1 ∷ 1 ∷ 1 ∷ 1 ∷ 1 ∷ [])) (record { matrix = four 2 1 1 2; held = None })
unfolding stored admission_of rows_verdict row_verdict within? gcd gcd4 gcd_by transformation_by interval_by first unless_refused closed? same? included? determinant_of
    pseudoinverse_of apply multiply_of image_of cancel_of form_of expands? state? fitting_of follow run_by run refusal_of refusal_by judged_run course_of
whole_word = called_again new (0 ∷ 0 ∷ 1 ∷ []) (replicate 8 0) (replicate 9 0)

pub half_way : SessionR (done (0 ∷ 0 ∷ 1 ∷ []) (0 ∷ 1 ∷ []) (1 ∷ 1 ∷ 1 ∷ 1 ∷ [])) (record { matrix = four 3 0 1 1; held = Some 1 })
unfolding stored admission_of rows_verdict row_verdict within? gcd gcd4 gcd_by transformation_by interval_by first unless_refused closed? same? included? determinant_of
    pseudoinverse_of apply multiply_of image_of cancel_of form_of expands? state? fitting_of follow run_by run refusal_of refusal_by judged_run course_of
half_way = called_again new (0 ∷ 0 ∷ 1 ∷ []) (replicate 2 0) (replicate 9 0)

pub two_calls : SessionR (done (0 ∷ 0 ∷ 1 ∷ []) (0 ∷ 1 ∷ 1 ∷ []) (1 ∷ 1 ∷ 1 ∷ 1 ∷ 1 ∷ 1 ∷ [])) (record { matrix = four 2 1 1 2; held = None })
unfolding stored admission_of rows_verdict row_verdict within? gcd gcd4 gcd_by transformation_by interval_by first unless_refused closed? same? included? determinant_of
    pseudoinverse_of apply multiply_of image_of cancel_of form_of expands? state? fitting_of follow run_by run refusal_of refusal_by judged_run course_of
two_calls = called_again half_way [] (replicate 6 0) (replicate 9 0)

-- P6: B to B, M 1 0 0 1, word 1. The divisors of its two steps 4 and 5 are 1 and 2.
pub cancelled_word : Session system_b system_b (four 1 0 0 1) (done (1 ∷ []) (1 ∷ []) (1 ∷ 2 ∷ [])) (record { matrix = four 1 0 0 1; held = None })
unfolding open_of stored rows_in rows_b admission_of rows_verdict row_verdict within? gcd gcd4 gcd_by transformation_by interval_by first unless_refused closed? same? included? determinant_of
    pseudoinverse_of apply multiply_of image_of cancel_of form_of expands? state? fitting_of follow run_by run refusal_of refusal_by judged_run course_of
cancelled_word = called_again (newly_opened b_admitted b_admitted refl) (1 ∷ []) (replicate 2 0) (replicate 3 0)

-- ---- the product, in plain numbers

-- the product of the divisors, 1·2, times (G_1·X) is 2 2 0 4, since it is det G_1 times (M·F_1)
pub cancelled_scale : (scale_of (pos (times_all (1 ∷ 2 ∷ []))) (multiply_of (product_of system_b (1 ∷ [])) (four 1 0 0 1)) ≡ four 2 2 0 4) ×
    (scale_of (determinants_of system_b (1 ∷ [])) (multiply_of (cancel_of (four 1 0 0 1)) (product_of system_b (1 ∷ []))) ≡ four 2 2 0 4)
unfolding scale_of multiply_of product_of determinants_of times_all determinant_of cancel_of gcd4 gcd gcd_by transformation_by interval_by stored rows_in rows_b
cancelled_scale = (of_the (session_scale cancelled_word) (1 ∷ []) refl, refl)

pub whole_product : UpToScale (four 4 5 5 7) (four 4 5 5 7)
unfolding multiply_of product_of transformation_by interval_by stored
whole_product = of_the (session_product whole_word) (0 ∷ 0 ∷ 1 ∷ []) refl

pub half_product : UpToScale (four 4 1 5 2) (four 4 1 5 2)
unfolding multiply_of product_of transformation_by interval_by stored
half_product = of_the (session_product half_way) (0 ∷ 0 ∷ []) refl

-- the four numbers with the held digit absorbed are no multiple of that
pub held_not_absorbed : UpToScale (four 4 1 5 2) (multiply_of (four 2 1 1 2) (product_of system_r (0 ∷ 0 ∷ 1 ∷ []))) → ⊥
unfolding multiply_of product_of transformation_by interval_by stored scale_of
held_not_absorbed u =
    let first : u.p * 4 ≡ u.q * 4 = ap (λ (m : List ℤ). nat_abs (at m 0)) u.equal in
    let second : u.p * 1 ≡ u.q * 5 = ap (λ (m : List ℤ). nat_abs (at m 1)) u.equal in
    let above = u.p_above in
    absurd (omega arith)

-- ---- the numbers: what is still to come, the number that both name, and each digit's interval with the number named from it on

pub record SaysWhole : Type 0 where
  pub still_to_come : Point (pos 3 over pos 3)
  pub same_number : SamePoint (pos 9 over pos 12) (pos 9 over pos 12)
  pub digit_0 : Closed (four 0 1 1 1) (pos 9 over pos 12)
  pub digit_1 : Closed (four 1 1 1 0) (pos 9 over pos 3)
  pub digit_1_again : Closed (four 1 1 1 0) (pos 6 over pos 3)

pub whole_numbers : SaysWhole
unfolding named_from EachInItsInterval apply transformation_by interval_by stored
whole_numbers =
    let n = of_the (session_named whole_word) (0 ∷ 0 ∷ 1 ∷ []) refl (pos 1 over pos 1) fraction in
    let each = of_the (session_numbers whole_word) (0 ∷ 0 ∷ 1 ∷ []) refl (pos 1 over pos 1) fraction holds_at_1 tt in
    record { still_to_come = n.still_to_come; same_number = n.same_number; digit_0 = each.0; digit_1 = each.1.0; digit_1_again = each.1.1.0 }

pub record SaysHalf : Type 0 where
  pub still_to_come : Point (pos 6 over pos 3)
  pub same_number : SamePoint (pos 9 over pos 12) (pos 9 over pos 12)
  pub digit_0 : Closed (four 0 1 1 1) (pos 9 over pos 12)
  pub digit_1 : Closed (four 1 1 1 0) (pos 9 over pos 3)

pub half_numbers : SaysHalf
unfolding named_from EachInItsInterval apply transformation_by interval_by stored closed?
half_numbers =
    let n = of_the (session_named half_way) (0 ∷ 0 ∷ []) refl (pos 2 over pos 1) fraction in
    let each = of_the (session_numbers half_way) (0 ∷ 0 ∷ []) refl (pos 2 over pos 1) fraction (computed tt, (computed tt, tt)) held_holds in
    record { still_to_come = n.still_to_come; same_number = n.same_number; digit_0 = each.0; digit_1 = each.1.0 }
