-- Runs over two words, worked. A sum, a product and a difference, computed by the checker from the definitions of opening, `run` and what digits name.
-- 1/2 + 1/3 on D. The word 2 1 1 1 .. names 1/2, since 1 1 1 .. names 0, and 2 0 2 0 .. names 1/3. Of ten digits each, the sum gives out 2 2 2 0 2 0 2 0 and stops with end 0,
-- where x has no digit left. The last digit of y, a 0, is held and not absorbed; so the rest of y is named from it on, and is −1/3. X makes 4/12 of the two rests, and in front of
-- it the digits given out name 5/6.
-- 3·3 on B. The word 3 2 in front of 1 names 3. The product of it with itself gives out 3 2 4, and X makes 2/−4 of the rests 1 (behind x) and 1 (from y's held 2 on); in front of it
-- the digits given out name 9.
-- x − x on R, for the word 0 1 0 1 .. of twelve digits. All of it is absorbed but the last digit of y, and nothing is given out: 0 parts two digits of R, and numbers on both
-- sides of it are still possible. X makes of the rests the 0 that it has to be, 0/142129.
-- Then what the theorems on sessions say of the first: the product's eight numbers, up to a positive scale, and the number that is named.
use Rattle.whole.proofs.Laws.{◌≡◌, refl, ap, List, [], ◌∷◌, ◌++◌, ℕ, ◌+◌, ◌*◌, replicate, ◌<◌, arith, ℤ, pos, nat_abs, at, up<, gcd_by, gcd, gcd4, first, unless_refused, within?}
use Rattle.plane.proofs.Laws.{Pair, SamePoint, determinant_of, pseudoinverse_of, apply, multiply_of, image_of, cancel_of, scale_of, scale_pair, above_not_0, same_point}
use Rattle.inclusion.proofs.Laws.{closed?, same?, included?}
use Rattle.digits.proofs.Laws.{System, minus, transformation_by, interval_by, rows_in, rows_b, stored}
use Rattle.expanding.proofs.Laws.{form_of, expands?}
use Rattle.admission.proofs.Laws.{row_verdict, rows_verdict, admission_of, d_admitted}
use Rattle.bilinear.proofs.Laws.{Form, form, sum_form, difference_form, product_form, on_two, apply_two, into_x, into_y, times_form, gcd8, cancel_form}
use Rattle.giving.proofs.Laws.{images_of, all_coefficients, may_give?, giving_of}
use Rattle.runs.proofs.Laws.{follow, run_by, run, judged_run}
use Rattle.states.proofs.Laws.{None, Some, InputUsed}
use Rattle.judging.proofs.Laws.{refusal_by}
use Rattle.two_states.proofs.Laws.{OfY, opened_two, two_state?}
use Rattle.binary.proofs.Laws.{two_refusal, two_course, answered, two_ran, two_run}
use Rattle.meaning.proofs.Laws.{◌over◌, fraction, system_r, system_b, system_d, named_from, product_of, of_the}
use Rattle.two_meaning.specs.TwoSession.{adding, TwoSession, UpToScaleForm, TwoNamed}
use Rattle.two_meaning.proofs.TwoSessions.{session_two_product, session_two_named, newly_opened_two, called_again_two}

-- ---- what is said

abbrev four : ℤ → ℤ → ℤ → ℤ → List ℤ
four a b c d = a ∷ b ∷ c ∷ d ∷ []

-- a run of an operation on one system, with room for one digit more than it gives out: it takes all of both words, stops with end 0 where x has no digit left, and leaves
-- these eight numbers, nothing held of x and this digit of y
abbrev Ends : System → Form → (xs ys given : List ℕ) → ℕ → ℕ → Form → ℕ → Type 0
Ends a op xs ys given taken written m held =
    two_run a a (opened_two op) xs ys (replicate (written + 1) 0) ≡
    two_ran (answered InputUsed taken taken written (record { form = m; x = None; y = Some held; turn = OfY })) (given ++ 0 ∷ [])

-- the absorbed digits name these two numbers in front of the rests, of which the operation makes the third; X makes a number of the rests, and in front of it the digits given
-- out name the third
pub record Names (a : System) (op : Form) (ax ay given : List ℕ) (m : Form) (rest-x rest-y x y z : Pair) : Type 0 where
  pub first_number : SamePoint (named_from a ax rest-x) x
  pub second_number : SamePoint (named_from a ay rest-y) y
  pub operation : SamePoint (apply_two op x y) z
  pub given_number : SamePoint (named_from a given (apply_two m rest-x rest-y)) z

-- ---- the words

abbrev half : List ℕ
half = 2 ∷ replicate 9 1

-- 2 0 2 0 .. of nine digits
abbrev third : List ℕ
third = 2 ∷ 0 ∷ 2 ∷ 0 ∷ 2 ∷ 0 ∷ 2 ∷ 0 ∷ 2 ∷ []

abbrev sum_state : Form
sum_state = form (four (pos 0) (pos 1) (pos 2) (pos 2)) (four (pos 0) (pos 0) (pos 0) (pos 4))

abbrev five_sixths : List ℕ
five_sixths = 2 ∷ 2 ∷ 2 ∷ 0 ∷ 2 ∷ 0 ∷ 2 ∷ 0 ∷ []

abbrev product_state : Form
product_state = form (four (pos 0) (pos 1) (pos 0) (pos 1)) (four (minus 5) (pos 0) (minus 1) (pos 2))

-- 0 1 0 1 .. of eleven digits
abbrev eleven : List ℕ
eleven = 0 ∷ 1 ∷ 0 ∷ 1 ∷ 0 ∷ 1 ∷ 0 ∷ 1 ∷ 0 ∷ 1 ∷ 0 ∷ []

abbrev difference_state : Form
difference_state = form (four (pos 0) (pos 1) (minus 1) (pos 1)) (four (pos 20736) (pos 12816) (pos 33552) (pos 20737))

pub record WorkedPairs : Type 0 where
  -- 1/2 + 1/3 = 5/6 on D
  pub sum : Ends system_d sum_form half (third ++ 0 ∷ []) five_sixths 10 8 sum_state 0
  pub sum_names : Names system_d sum_form half third five_sixths sum_state (pos 0 over pos 1) (minus 1 over pos 3) (pos 1 over pos 2) (pos 1 over pos 3) (pos 5 over pos 6)
  -- 3·3 = 9 on B
  pub product : Ends system_b product_form (3 ∷ 2 ∷ []) (3 ∷ 2 ∷ []) (3 ∷ 2 ∷ 4 ∷ []) 2 3 product_state 2
  pub product_names : Names system_b product_form (3 ∷ 2 ∷ []) (3 ∷ []) (3 ∷ 2 ∷ 4 ∷ []) product_state (pos 1 over pos 1) (pos 1 over pos 1) (pos 3 over pos 1) (pos 3 over pos 1) (pos 9 over pos 1)
  -- x − x = 0 on R, of which no digit is given out
  pub difference : Ends system_r difference_form (eleven ++ 1 ∷ []) (eleven ++ 1 ∷ []) [] 12 0 difference_state 1
  pub difference_names : Names system_r difference_form (eleven ++ 1 ∷ []) eleven [] difference_state (pos 1 over pos 1) (pos 2 over pos 1) (pos 233 over pos 377) (pos 233 over pos 377) (pos 0 over pos 1)

-- ---- the runs

pub sum_ends : Ends system_d sum_form half (third ++ 0 ∷ []) five_sixths 10 8 sum_state 0
unfolding stored admission_of rows_verdict row_verdict within? gcd gcd4 gcd_by transformation_by interval_by first unless_refused closed? same? included? determinant_of
    pseudoinverse_of apply multiply_of image_of cancel_of form_of expands? follow run_by run judged_run on_two apply_two into_x into_y times_form gcd8 cancel_form images_of all_coefficients
    may_give? giving_of two_state? two_refusal refusal_by two_course two_run
sum_ends = refl

pub product_ends : Ends system_b product_form (3 ∷ 2 ∷ []) (3 ∷ 2 ∷ []) (3 ∷ 2 ∷ 4 ∷ []) 2 3 product_state 2
unfolding stored rows_in rows_b admission_of rows_verdict row_verdict within? gcd gcd4 gcd_by transformation_by interval_by first unless_refused closed? same? included? determinant_of
    pseudoinverse_of apply multiply_of image_of cancel_of form_of expands? follow run_by run judged_run on_two apply_two into_x into_y times_form gcd8 cancel_form images_of all_coefficients
    may_give? giving_of two_state? two_refusal refusal_by two_course two_run
product_ends = refl

pub difference_ends : Ends system_r difference_form (eleven ++ 1 ∷ []) (eleven ++ 1 ∷ []) [] 12 0 difference_state 1
unfolding stored admission_of rows_verdict row_verdict within? gcd gcd4 gcd_by transformation_by interval_by first unless_refused closed? same? included? determinant_of
    pseudoinverse_of apply multiply_of image_of cancel_of form_of expands? follow run_by run judged_run on_two apply_two into_x into_y times_form gcd8 cancel_form images_of all_coefficients
    may_give? giving_of two_state? two_refusal refusal_by two_course two_run
difference_ends = refl

-- ---- the numbers

-- x is n·y
times : (n : ℕ) {x y : Pair} → 0 < n → scale_pair (pos 1) x ≡ scale_pair (pos n) y → SamePoint x y
times n above e = same_point (pos 1) (pos n) (above_not_0 (up< (omega arith))) (above_not_0 (up< above)) e

pub sum_numbers : Names system_d sum_form half third five_sixths sum_state (pos 0 over pos 1) (minus 1 over pos 3) (pos 1 over pos 2) (pos 1 over pos 3) (pos 5 over pos 6)
unfolding named_from apply transformation_by interval_by stored apply_two on_two scale_pair
sum_numbers = record {
  first_number = times 512 (omega arith) refl;
  second_number = times 512 (omega arith) refl;
  operation = times 1 (omega arith) refl;
  given_number = times 512 (omega arith) refl;
}

pub product_numbers : Names system_b product_form (3 ∷ 2 ∷ []) (3 ∷ []) (3 ∷ 2 ∷ 4 ∷ []) product_state (pos 1 over pos 1) (pos 1 over pos 1) (pos 3 over pos 1) (pos 3 over pos 1) (pos 9 over pos 1)
unfolding named_from apply transformation_by interval_by stored rows_in rows_b gcd gcd_by gcd4 multiply_of pseudoinverse_of image_of cancel_of apply_two on_two scale_pair
product_numbers = record {
  first_number = times 2 (omega arith) refl;
  second_number = times 1 (omega arith) refl;
  operation = times 1 (omega arith) refl;
  given_number = times 4 (omega arith) refl;
}

pub difference_numbers : Names system_r difference_form (eleven ++ 1 ∷ []) eleven [] difference_state (pos 1 over pos 1) (pos 2 over pos 1) (pos 233 over pos 377) (pos 233 over pos 377) (pos 0 over pos 1)
unfolding named_from apply transformation_by interval_by stored apply_two on_two scale_pair
difference_numbers = record {
  first_number = times 1 (omega arith) refl;
  second_number = times 1 (omega arith) refl;
  operation = times 142129 (omega arith) refl;
  given_number = times 142129 (omega arith) refl;
}

-- ---- what the theorems on sessions say of the sum

pub sum_session : TwoSession system_d system_d sum_form (record { x = half; y = third ++ 0 ∷ []; digits = five_sixths; divisors = [] }) (record { form = sum_state; x = None; y = Some 0; turn = OfY })
unfolding stored admission_of rows_verdict row_verdict within? gcd gcd4 gcd_by transformation_by interval_by first unless_refused closed? same? included? determinant_of
    pseudoinverse_of apply multiply_of image_of cancel_of form_of expands? follow run_by run judged_run on_two apply_two into_x into_y times_form gcd8 cancel_form images_of all_coefficients
    may_give? giving_of two_state? two_refusal refusal_by two_course
sum_session = called_again_two (newly_opened_two d_admitted d_admitted adding) half (third ++ 0 ∷ []) (replicate 9 0)

-- P·X is 0 1 2 854 ; 0 0 0 1024, and the sum with the absorbed digits in front is 512 times that
pub sum_product : UpToScaleForm (form (four (pos 0) (pos 1) (pos 2) (pos 854)) (four (pos 0) (pos 0) (pos 0) (pos 1024)))
    (form (four (pos 0) (pos 512) (pos 1024) (pos 437248)) (four (pos 0) (pos 0) (pos 0) (pos 524288)))
unfolding product_of multiply_of into_x into_y times_form transformation_by interval_by stored
sum_product = of_the (of_the (session_two_product sum_session) half refl) third refl

-- "Absorbed, not taken": with the held digit of y counted in, the eight numbers are others
pub held_not_absorbed : UpToScaleForm (form (four (pos 0) (pos 1) (pos 2) (pos 854)) (four (pos 0) (pos 0) (pos 0) (pos 1024))) (into_y (into_x sum_form (product_of system_d half)) (product_of system_d (third ++ 0 ∷ []))) → ⊥
unfolding product_of multiply_of into_x into_y transformation_by interval_by stored scale_of
held_not_absorbed u =
    let first-x : u.p * 1 ≡ u.q * 1024 = ap (λ (m : Form). nat_abs (at m.numerator 1)) u.equal in
    let first-y : u.p * 2 ≡ u.q * 1024 = ap (λ (m : Form). nat_abs (at m.numerator 2)) u.equal in
    let above = u.p_above in
    absurd (omega arith)

-- the image of the rests 0/1 and −1/3 is a point, 4/12, and in front of it the output names the sum of the two numbers
pub sum_named : TwoNamed system_d system_d sum_form half third five_sixths (record { form = sum_state; x = None; y = Some 0; turn = OfY }) (pos 0 over pos 1) (minus 1 over pos 3)
unfolding named_from apply transformation_by interval_by stored apply_two on_two
sum_named = of_the (of_the (session_two_named sum_session) half refl) third refl (pos 0 over pos 1) (minus 1 over pos 3) fraction fraction fraction
