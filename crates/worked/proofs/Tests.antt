-- The test of a claim, which computes, and the law that a claim which passes its test holds: one law for each of the eight kinds.
use Rattle.whole.proofs.Laws.{◌≡◌, refl, Bool, true, not, List, [], ◌∷◌, ℕ, eqb-true, not-true, eqb, length, take, replicate, ℤ, pos, ◌*ℤ◌, lt_z, lt_true}
use Rattle.plane.proofs.Laws.{Pair, det, left, right, Interval}
use Rattle.inclusion.proofs.Laws.{closed?, included?, included_says, not_included_says, closed_says}
use Rattle.digits.proofs.Laws.{stored, system_of}
use Rattle.expanding.proofs.Laws.{stretched, sent}
use Rattle.admission.proofs.Laws.{refusal_number, admitted_says}
use Rattle.states.proofs.Laws.{None, end_number}
use Rattle.opening.proofs.Laws.{Start, opening_number, opening_0, open_of, opens}
use Rattle.unary.proofs.Laws.{Ran}
use Rattle.text.specs.Text.{bytes_of}
use Rattle.printed.specs.Text.{printed}
use Prim.Native.String.{String}
use Rattle.worked.specs.Claims.{Job, Ending, judged_of, ran_of, file_of, IsIncluded, EndsOnly, IsOpened, IsJudged, IsRated, IsEnded, IsCancelled, IsPrinted}
use Rattle.worked.specs.Claims.{Claim, included, ends_only, opening, judged, rated, ended, cancelled, prints, Says}
use Rattle.std.specs.Ordering.{int_eq}
use Rattle.std.specs.Option.{option_eq}
use lib.Pointwise.{pointwise}
use Rattle.worked.proofs.Same.{same_number, same_matrix, same_digits, same_held, all?, each}

-- ---- intervals

abbrev interval? : List ℤ → Bool
interval? w = lt_z (det (left w) (right w)) (pos 0)

interval_says : {w : List ℤ} → interval? w ≡ true → Interval w
interval_says {w} e = record { below = lt_true (det (left w) (right w)) (pos 0) e }

abbrev included_tests : List ℤ → List ℤ → List Bool
included_tests i j = interval? i ∷ interval? j ∷ included? i j ∷ []

included_holds : (i j : List ℤ) → all? (included_tests i j) ≡ true → IsIncluded i j
included_holds i j e =
    let p = each (included_tests i j) e in
    let interval_i = interval_says p.0 in
    let interval_j = interval_says p.1.0 in
    record { interval_i = interval_i; interval_j = interval_j; included = included_says interval_i interval_j p.1.1.0 }

abbrev ends_tests : List ℤ → List ℤ → List Bool
ends_tests i j = interval? i ∷ interval? j ∷ closed? j (left i) ∷ closed? j (right i) ∷ not (included? i j) ∷ []

ends_hold : (i j : List ℤ) → all? (ends_tests i j) ≡ true → EndsOnly i j
ends_hold i j e =
    let p = each (ends_tests i j) e in
    let interval_i = interval_says p.0 in
    let interval_j = interval_says p.1.0 in
    record {
      interval_i = interval_i;
      interval_j = interval_j;
      left_end = closed_says p.1.1.0;
      right_end = closed_says p.1.1.1.0;
      not_included = not_included_says interval_i interval_j (not-true (included? i j) p.1.1.1.1.0);
    }

-- ---- opening, and the judgement of a system

abbrev opening_tests : Start → ℕ → List ℤ → List Bool
opening_tests s number x = eqb (opening_number s.opening) number ∷ pointwise int_eq s.state.matrix x ∷ option_eq eqb s.state.held None ∷ []

opening_holds : (m : List ℤ) (number : ℕ) (x : List ℤ) → all? (opening_tests (open_of m) number x) ≡ true → IsOpened m number x
opening_holds m number x e =
    let p = each (opening_tests (open_of m) number x) e in
    record {
      answer = eqb-true (opening_number (open_of m).opening) number p.0;
      reason = (opens m (open_of m).opening).0 refl;
      matrix = same_matrix (open_of m).state.matrix x p.1.0;
      held = same_held (open_of m).state.held None p.1.1.0;
    }

judged_holds : (rows : List (List ℤ)) (number : ℕ) → eqb (refusal_number (judged_of rows)) number ≡ true → IsJudged rows number
judged_holds rows number e = record { answer = eqb-true (refusal_number (judged_of rows)) number e; reason = admitted_says (system_of (stored rows)) }

abbrev rated_tests : List ℤ → List ℤ → Pair → ℕ → ℕ → List Bool
rated_tests f w z over under = lt_z (pos 0) (det (left w) z *ℤ det z (right w)) ∷ int_eq (stretched f z) (pos over) ∷ int_eq (sent f z) (pos under) ∷ []

rated_holds : (rows : List (List ℤ)) (digit : ℕ) (z : Pair) (over under : ℕ) → let s = system_of (stored rows) in
    all? (rated_tests (s.transformation digit) (s.interval digit) z over under) ≡ true → IsRated rows digit z over under
rated_holds rows digit z over under e =
    let f = (system_of (stored rows)).transformation digit in
    let w = (system_of (stored rows)).interval digit in
    let p = each (rated_tests f w z over under) e in
    record {
      inside = record { above = lt_true (pos 0) (det (left w) z *ℤ det z (right w)) p.0 };
      over_is = same_number (stretched f z) (pos over) p.1.0;
      under_is = same_number (sent f z) (pos under) p.1.1.0;
    }

-- ---- a job's run

abbrev ended_tests : Start → Ran → Ending → List Bool
ended_tests s r e =
    eqb (opening_number s.opening) 0 ∷
    eqb (end_number r.answer.stop) e.number ∷
    eqb r.answer.taken.0 e.taken ∷
    eqb r.answer.written.0 (length e.digits) ∷
    pointwise eqb (take r.answer.written.0 r.output) e.digits ∷
    pointwise int_eq r.answer.state.matrix e.matrix ∷
    option_eq eqb r.answer.state.held e.held ∷ []

ended_holds : (j : Job) (e : Ending) → all? (ended_tests (open_of j.matrix) (ran_of j) e) ≡ true → IsEnded j e
ended_holds j e t =
    let p = each (ended_tests (open_of j.matrix) (ran_of j) e) t in
    let q = p.1.1.1 in
    record {
      opens = opening_0 (open_of j.matrix).opening (eqb-true (opening_number (open_of j.matrix).opening) 0 p.0);
      number = eqb-true (end_number (ran_of j).answer.stop) e.number p.1.0;
      taken = eqb-true (ran_of j).answer.taken.0 e.taken p.1.1.0;
      written = eqb-true (ran_of j).answer.written.0 (length e.digits) q.0;
      digits = same_digits (take (ran_of j).answer.written.0 (ran_of j).output) e.digits q.1.0;
      matrix = same_matrix (ran_of j).answer.state.matrix e.matrix q.1.1.0;
      held = same_held (ran_of j).answer.state.held e.held q.1.1.1.0;
    }

abbrev cancelled_tests : Ran → List ℕ → List Bool
cancelled_tests r ds = eqb r.answer.listed.0 (length ds) ∷ pointwise eqb (take r.answer.listed.0 r.divisors) ds ∷ []

cancelled_holds : (j : Job) (ds : List ℕ) → all? (cancelled_tests (ran_of j) ds) ≡ true → IsCancelled j ds
cancelled_holds j ds t =
    let p = each (cancelled_tests (ran_of j) ds) t in
    record { listed = eqb-true (ran_of j).answer.listed.0 (length ds) p.0; divisors = same_digits (take (ran_of j).answer.listed.0 (ran_of j).divisors) ds p.1.0 }

-- ---- a job's file

abbrev prints_tests : Job → ℕ → String → List Bool
prints_tests j bytes lines = eqb (length (file_of j)) bytes ∷ pointwise eqb (printed (file_of j) (replicate j.room 0)) (bytes_of lines) ∷ []

prints_holds : (j : Job) (bytes : ℕ) (lines : String) → all? (prints_tests j bytes lines) ≡ true → IsPrinted j bytes lines
prints_holds j bytes lines t =
    let p = each (prints_tests j bytes lines) t in
    record { size = eqb-true (length (file_of j)) bytes p.0; text = same_digits (printed (file_of j) (replicate j.room 0)) (bytes_of lines) p.1.0 }

-- ---- any claim

abbrev pub passes? : Claim → Bool
passes? (included i j) = all? (included_tests i j)
passes? (ends_only i j) = all? (ends_tests i j)
passes? (opening m number x) = all? (opening_tests (open_of m) number x)
passes? (judged rows number) = eqb (refusal_number (judged_of rows)) number
passes? (rated rows digit z over under) = let s = system_of (stored rows) in all? (rated_tests (s.transformation digit) (s.interval digit) z over under)
passes? (ended j e) = all? (ended_tests (open_of j.matrix) (ran_of j) e)
passes? (cancelled j ds) = all? (cancelled_tests (ran_of j) ds)
passes? (prints j bytes lines) = all? (prints_tests j bytes lines)

pub holds : (c : Claim) → passes? c ≡ true → Says c
holds (included i j) t = included_holds i j t
holds (ends_only i j) t = ends_hold i j t
holds (opening m number x) t = opening_holds m number x t
holds (judged rows number) t = judged_holds rows number t
holds (rated rows digit z over under) t = rated_holds rows digit z over under t
holds (ended j e) t = ended_holds j e t
holds (cancelled j ds) t = cancelled_holds j ds t
holds (prints j bytes lines) t = prints_holds j bytes lines t
