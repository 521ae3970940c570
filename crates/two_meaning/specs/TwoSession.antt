-- What a session over two words is, and what demand 3 says of it: "Demand 3 then speaks of any two rests, where the image is not (0, 0)." (document 02,
-- T-14)
use Rattle.std.specs.Prelude.{◌≡◌, List, [], ℕ, ◌<◌, length, take, pos}
use Rattle.plane.specs.Plane.{Pair, Point, SamePoint}
use Rattle.bilinear.specs.Types.{Form}
use Rattle.bilinear.specs.Form.{apply_two, sum_form, difference_form, product_form, into_x, into_y, times_form}
use Rattle.bilinear.specs.Lowest.{scale_form}
use Rattle.digits.specs.System.{System}
use Rattle.admission.specs.Admitted.{Admissible}
use Rattle.runs.specs.Supply.{Deed, nothing, and_then}
use Rattle.runs.specs.Run.{Course}
use Rattle.states.specs.Types.{Stop}
use Rattle.two_states.specs.Types.{TwoState}
use Rattle.two_states.specs.TwoState.{opened_two}
use Rattle.binary.specs.TwoRun.{TwoRan, two_course}
use Rattle.meaning.specs.Names.{named_from, product_of, EachInItsInterval, HeldInItsInterval, OfTheAbsorbed}

-- "runs with two inputs for x+y, x−y and xy"
pub data Operation : Form → Type 0 where
  adding : Operation sum_form
  subtracting : Operation difference_form
  multiplying : Operation product_form

-- "call as often as wanted", each time with any bytes of each word and any room: from the state s, by calls that did this in all, to the state t
pub data TwoCalls (a b : System) (s : TwoState) : Deed → TwoState → Type 0 where
  none : TwoCalls a b s nothing s
  called : {done : Deed} {t : TwoState} → TwoCalls a b s done t → (xs ys output : List ℕ) →
      TwoCalls a b s (and_then done (two_course a b t xs ys (length output)).did) (two_course a b t xs ys (length output)).state

-- what one call did, as its answer and the output tell it afterwards
abbrev pub two_did_by : List ℕ → List ℕ → TwoRan → Deed
two_did_by xs ys r = record {
  x = take r.answer.x.0 xs;
  y = take r.answer.y.0 ys;
  digits = take r.answer.written.0 r.output;
  divisors = [];
}

-- a session on the input system a and the output system b, opened for an operation, that has done this and is in state s
pub record TwoSession (a b : System) (op : Form) (done : Deed) (s : TwoState) : Type 0 where
  pub input : Admissible a
  pub output : Admissible b
  pub operation : Operation op
  pub calls : TwoCalls a b (opened_two op) done s

-- "Absorbed, not taken", of both words: each held digit is not yet absorbed
abbrev pub OfBothAbsorbed : Deed → TwoState → (List ℕ → List ℕ → Type 0) → Type 0
OfBothAbsorbed done s Claim = OfTheAbsorbed done.x s.x (λ ax. OfTheAbsorbed done.y s.y (λ ay. Claim ax ay))

-- "equals, up to a positive scale": p·A = q·B for some whole numbers p and q above 0
pub record UpToScaleForm (m n : Form) : Type 0 where
  pub p : ℕ
  pub q : ℕ
  pub p_above : 0 < p
  pub q_above : 0 < q
  pub equal : scale_form (pos p) m ≡ scale_form (pos q) n

-- Demand 3's sentences, of a session on the systems a and b for an operation that has done this and is in state s.
--
-- 1. the product of the output digits times the state is, up to a positive scale, the operation on the products of the absorbed digits of both words
abbrev pub TwoProductHolds : System → System → Form → Deed → TwoState → Type 0
TwoProductHolds a b op done s = OfBothAbsorbed done s (λ ax ay.
    UpToScaleForm (times_form (product_of b done.digits) s.form) (into_y (into_x op (product_of a ax)) (product_of a ay)))

-- 2. let any fraction or infinity be the number named by the rest of each word, the held digit included. Where the operation of the two numbers that the
-- words name is a point, X(r, t) is one, and in front of it the output digits name that operation.
pub record TwoNamed (a b : System) (op : Form) (ax ay given : List ℕ) (s : TwoState) (r t : Pair) : Type 0 where
  pub still_to_come : Point (apply_two s.form r t)
  pub same_number : SamePoint (named_from b given (apply_two s.form r t)) (apply_two op (named_from a ax r) (named_from a ay t))

abbrev pub TwoNamedHolds : System → System → Form → Deed → TwoState → Type 0
TwoNamedHolds a b op done s = OfBothAbsorbed done s (λ ax ay. (r t : Pair) → Point r → Point t →
    Point (apply_two op (named_from a ax r) (named_from a ay t)) → TwoNamed a b op ax ay done.digits s r t)

-- 3. if the number named from each absorbed digit on, and from each held one on, lies in that digit's closed interval, in both words, then so does the
-- number named from each output digit on, where the image of the rests is not (0, 0)
abbrev pub TwoNumbersHold : System → System → Form → Deed → TwoState → Type 0
TwoNumbersHold a b op done s = OfBothAbsorbed done s (λ ax ay. (r t : Pair) → Point r → Point t →
    EachInItsInterval a ax r → HeldInItsInterval a s.x r → EachInItsInterval a ay t → HeldInItsInterval a s.y t →
    Point (apply_two s.form r t) → EachInItsInterval b done.digits (apply_two s.form r t))

-- a claim on what was done and the state, where a call now stands that began when this was done
abbrev pub DuringTwo : (Deed → TwoState → Type 0) → Deed → Course TwoState Stop → Type 0
DuringTwo claim done q = claim (and_then done q.did) q.state
