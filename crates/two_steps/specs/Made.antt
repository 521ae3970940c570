-- What a step of the code stands for, and what the inner functions of a run may rely on: it was judged before the first step, and each step keeps it.
-- (Nothing of this is asked of a plug-in.)
use Rattle.std.specs.Prelude.{◌≡◌, Bool, false, cond, List, [], ◌∷◌, ℕ, ◌<◌, ltb, leb, ℤ, nat_abs}
use Rattle.std.proofs.Math.Option.{Option, none, some}
use Rattle.std.specs.Int.{◌∣◌}
use Rattle.plane.specs.Plane.{determinant_of}
use Rattle.bilinear.specs.Types.{Form}
use Rattle.bilinear.specs.Form.{into_x, into_y, given_form}
use Rattle.bilinear.specs.Lowest.{gcd8, cancel_form, WithinForm, within_form?}
use Rattle.digits.specs.System.{System, transformation, interval}
use Rattle.admission.specs.Admitted.{Digit as IsDigit}
use Rattle.runs.specs.Supply.{Supply}
use Rattle.runs.specs.Machine.{Outcome, goes, halts}
use Rattle.runs.specs.Plan.{Plan, took_x, took_y, gave, follow}
use Rattle.runs.specs.Supply.{nothing}
use Rattle.states.specs.Types.{Stop, InputUsed, NotADigit, RangeLeft}
use Rattle.steps.specs.Step.{Setting}
use Rattle.steps.specs.Made.{Usable}
use Rattle.two_states.specs.Types.{Turn, OfX, OfY, TwoState}
use Rattle.two_states.specs.TwoState.{TwoRules, given_two, absorbed_by}
use Rattle.two_steps.specs.Types.{Result, Ok, Err, Kind, Load, Give, Absorb, Halt, Move, Product}

-- ---- a step that the code made

-- the next byte of a word, where a system has n digits: a digit, or why the run stops, none or one that is no digit
abbrev pub next_of : ℕ → List ℕ → Result ℕ Stop
next_of n [] = Err InputUsed
next_of n (b ∷ bytes) = cond (ltb b n) (Ok b) (Err NotADigit)

-- one of the two words
abbrev pub word_of : Turn → (xs ys : List ℕ) → List ℕ
word_of OfX xs ys = xs
word_of OfY xs ys = ys

abbrev pub move : Kind → TwoState → Move
move k t = record { kind = k; state = t }

abbrev pub halt : Stop → TwoState → Move
halt e s = move (Halt e) s

-- what a step of each kind did
abbrev pub outcome_by : Kind → TwoState → Outcome TwoState Stop
outcome_by (Load OfX a) t = goes t (took_x a)
outcome_by (Load OfY b) t = goes t (took_y b)
outcome_by (Give c) t = goes t (gave c)
outcome_by Absorb t = goes t nothing
outcome_by (Halt e) t = halts e

-- "A stop leaves the state as it was before that step."
abbrev pub StaysBy : TwoState → Kind → TwoState → Type 0
StaysBy s (Load word a) t = Unit {0}
StaysBy s (Give c) t = Unit {0}
StaysBy s Absorb t = Unit {0}
StaysBy s (Halt e) t = t ≡ s

-- the step m, from the state s, is the plan p, followed before a supply
pub record Follows (p : Plan TwoState Stop) (s : TwoState) (supply : Supply) (m : Move) : Type 0 where
  pub outcome : outcome_by m.kind m.state ≡ follow p supply
  pub stays : StaysBy s m.kind m.state

-- ---- where both digits are held: eight numbers, made with the transformation of a digit, and what comes of them

abbrev pub product : Form → List ℤ → Product
product m f = record { form = m; determinant = nat_abs (determinant_of f) }

-- the digit c is given out
abbrev pub given_product : System → TwoState → ℕ → Product
given_product output s c = let g = transformation output c in product (given_form g s.form) g

-- the digit whose turn it is is absorbed
abbrev pub absorbed_product : System → TwoState → ℕ → ℕ → Turn → Product
absorbed_product input s a b OfX = let f = transformation input a in product (into_x s.form f) f
absorbed_product input s a b OfY = let f = transformation input b in product (into_y s.form f) f

-- by the digit that was found, if one was
abbrev pub product_by : Setting → TwoState → ℕ → ℕ → Option ℕ → Product
product_by y s a b none = absorbed_product y.input s a b s.turn
product_by y s a b (some c) = given_product y.output s c

-- the step with the cancelled numbers
abbrev pub moved_by : TwoState → Form → Option ℕ → Move
moved_by s new none = move Absorb (absorbed_by s new s.turn)
moved_by s new (some c) = move (Give c) (given_two s new)

-- they are cancelled, and tested after that
abbrev pub finished_by : TwoState → Product → Option ℕ → Move
finished_by s p fit = let new = cancel_form p.form in cond (within_form? 1000000000 new) (moved_by s new fit) (halt RangeLeft s)

-- a digit was found, and of the places for digits none is left behind the o that are filled
abbrev pub no_room? : Option ℕ → (o room : ℕ) → Bool
no_room? none o room = false
no_room? (some c) o room = leb room o

-- ---- what may be relied on

-- a digit that has a place in a system, and a state whose eight numbers it can be multiplied with
pub record WorksWith (y : System) (s : TwoState) (a : ℕ) : Type 0 where
  pub there : a < 16
  pub digit : IsDigit (transformation y a) (interval y a)
  pub cancelled : gcd8 s.form ≡ 1
  pub in_range : WithinForm 1000000000 s.form

-- the digit that was found, if one was, can be given out
abbrev pub WorksWhere : System → TwoState → Option ℕ → Type 0
WorksWhere output s none = Unit {0}
WorksWhere output s (some c) = WorksWith output s c

-- what is to be cancelled of a product divides the determinant beside it
abbrev pub Cancellable : Product → Type 0
Cancellable p = (WithinForm 200000000000 p.form) × (0 < p.determinant) × (gcd8 p.form ∣ p.determinant)

pub record Ready (y : Setting) (s : TwoState) : Type 0 where
  pub input : Usable y.input
  pub output : Usable y.output
  pub state : TwoRules y.input.count s
