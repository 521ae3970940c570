-- What a session is, and what demand 3 says of it: "Open a job on two admitted systems and call as often as wanted, handing each state back untouched
-- with those two systems."
use Rattle.std.specs.Prelude.{◌≡◌, List, [], ◌++◌, ℕ, length, take, ℤ, pos}
use Rattle.plane.specs.Plane.{Pair, Point, SamePoint, apply, multiply_of, cancel_of}
use Rattle.plane.specs.Scale.{scale_of}
use Rattle.digits.specs.System.{System}
use Rattle.admission.specs.Admitted.{Admissible}
use Rattle.runs.specs.Supply.{Deed, nothing, and_then}
use Rattle.runs.specs.Run.{Course}
use Rattle.states.specs.Types.{State, Stop}
use Rattle.opening.specs.Types.{Opens}
use Rattle.opening.specs.Opening.{open_of}
use Rattle.unary.specs.Run.{Ran, course_of}
use Rattle.meaning.specs.Names.{named_from, product_of, determinants_of, times_all, UpToScale}
use Rattle.meaning.specs.Names.{EachInItsInterval, HeldInItsInterval, held_digits, OfTheAbsorbed}

-- "call as often as wanted", each time with any input, any room and any list: from the state s, by calls that did this in all, to the state t. What calls
-- did is a deed (crates/runs/specs/Supply.antt): .x are the bytes taken, .digits the digits given out and .divisors the divisors listed, those of each call
-- behind those of the calls before.
pub data Calls (a b : System) (s : State) : Deed → State → Type 0 where
  none : Calls a b s nothing s
  called : {done : Deed} {t : State} → Calls a b s done t → (input output divisors : List ℕ) →
      Calls a b s
      (and_then done (course_of a b t input (length output) (length divisors)).did)
      (course_of a b t input (length output) (length divisors)).state

-- what one call did, as its answer and the lent lists tell it afterwards
abbrev pub did_by : List ℕ → Ran → Deed
did_by input r = record {
  x = take r.answer.taken.0 input;
  y = [];
  digits = take r.answer.written.0 r.output;
  divisors = take r.answer.listed.0 r.divisors;
}

-- a session on the input system a and the output system b, opened for m, that has done this and is in state s
pub record Session (a b : System) (m : List ℤ) (done : Deed) (s : State) : Type 0 where
  pub input : Admissible a
  pub output : Admissible b
  pub opens : (open_of m).opening ≡ Opens
  pub calls : Calls a b (open_of m).state done s

-- Demand 3's sentences, of a session on the systems a and b for the matrix m that has done this and is in state s.
--
-- 1. "the product of the output digits times the state is, up to a positive scale, the job's matrix times the product of the absorbed digits"
abbrev pub ProductHolds : System → System → List ℤ → Deed → State → Type 0
ProductHolds a b m done s = OfTheAbsorbed done.x s.held (λ absorbed.
    UpToScale (multiply_of (product_of b done.digits) s.matrix) (multiply_of m (product_of a absorbed)))

-- and the scale is named: "the product of the divisors times (output product times state) equals the product of the output determinants times (M
-- cancelled times input product)" (document 02, T-02)
abbrev pub ScaleNamed : System → System → List ℤ → Deed → State → Type 0
ScaleNamed a b m done s = OfTheAbsorbed done.x s.held (λ absorbed.
    scale_of (pos (times_all done.divisors)) (multiply_of (product_of b done.digits) s.matrix) ≡
    scale_of (determinants_of b done.digits) (multiply_of (cancel_of m) (product_of a absorbed)))

-- 2. "And let any fraction or infinity be the number named by the input not yet absorbed, the held digit included; the state turns it into the number
-- named by the output still to come." X(t) is a point, and in front of it the output digits name what the job's matrix makes of the number that the whole
-- input names.
pub record Named (a b : System) (m : List ℤ) (absorbed given : List ℕ) (s : State) (t : Pair) : Type 0 where
  pub still_to_come : Point (apply s.matrix t)
  pub same_number : SamePoint (named_from b given (apply s.matrix t)) (apply m (named_from a absorbed t))

abbrev pub NamedHolds : System → System → List ℤ → Deed → State → Type 0
NamedHolds a b m done s = OfTheAbsorbed done.x s.held (λ absorbed. (t : Pair) → Point t → Named a b m absorbed done.digits s t)

-- "still to come": from the state s to a later one, s', this was done. The digits given out, in front of X'(t), name X of the number that the digits
-- absorbed in between name in front of t. (The held digit of s may be among those absorbed in between.)
abbrev pub ToCome : System → System → State → Deed → State → Type 0
ToCome a b s done s' = OfTheAbsorbed (held_digits s.held ++ done.x) s'.held (λ absorbed.
    (t : Pair) → Point t → SamePoint (named_from b done.digits (apply s'.matrix t)) (apply s.matrix (named_from a absorbed t)))

-- 3. "If the number named from each absorbed digit on, and from the held one on, lies in that digit's closed interval, then so does the number named from
-- each output digit on."
abbrev pub NumbersHold : System → System → List ℤ → Deed → State → Type 0
NumbersHold a b m done s = OfTheAbsorbed done.x s.held (λ absorbed.
    (t : Pair) → Point t → EachInItsInterval a absorbed t → HeldInItsInterval a s.held t → EachInItsInterval b done.digits (apply s.matrix t))

-- a claim on what was done and the state, where a call now stands that began when this was done
abbrev pub During : (Deed → State → Type 0) → Deed → Course State Stop → Type 0
During claim done q = claim (and_then done q.did) q.state

-- a run q that continues the run p, which was granted fewer steps: what it did besides, and what is said of that
pub record Continues (p q : Course State Stop) (Between : State → Deed → State → Type 0) : Type 0 where
  pub more : Deed
  pub did : and_then p.did more ≡ q.did
  pub between : Between p.state more q.state
