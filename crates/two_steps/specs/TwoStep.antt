-- One step of a run over two words, first line that applies (document 02, T-14). "A missing digit is loaded before anything else, x before y." Then a digit
-- is given out, if one may be; "Otherwise absorb, x first and then by turns." "ends 20 to 22 as before, 0 if a missing digit has no input left." As with one
-- word the step is a plan, so "A stop leaves the state as it was before that step" is how it is read (crates/runs/specs/Plan.antt).
use Rattle.std.specs.Prelude.{cond, List, ℕ, ltb}
use Rattle.std.proofs.Math.Option.{Option, none, some}
use Rattle.bilinear.specs.Form.{into_x, into_y, given_form}
use Rattle.bilinear.specs.Lowest.{cancel_form, within_form?}
use Rattle.digits.specs.System.{System, transformation, interval}
use Rattle.giving.specs.MayGive.{images_of, giving_of}
use Rattle.runs.specs.Supply.{Supply}
use Rattle.runs.specs.Machine.{Machine}
use Rattle.runs.specs.Plan.{Plan, stop, go, byte_x, byte_y, digit, planned}
use Rattle.states.specs.Types.{Held, None, Some, Stop, InputUsed, NoRoom, NotADigit, RangeLeft}
use Rattle.steps.specs.Step.{Setting}
use Rattle.two_states.specs.Types.{Turn, OfX, OfY, TwoState}
use Rattle.two_states.specs.TwoState.{loaded_x, loaded_y, given_two, absorbed_x, absorbed_y, held_two}

-- "The range is tested after cancelling": go on to t, or where an entry leaves the range, "stop, end 22"
abbrev pub ranged : TwoState → Plan TwoState Stop
ranged t = cond (within_form? 1000000000 t.form) (go t) (stop RangeLeft)

-- "0 if a missing digit has no input left"; a byte that is no digit of the input system: "end 21. The byte is not taken."
abbrev pub load_x : ℕ → TwoState → Plan TwoState Stop
load_x n s = byte_x InputUsed (λ a. cond (ltb a n) (go (loaded_x s a)) (stop NotADigit))

abbrev pub load_y : ℕ → TwoState → Plan TwoState Stop
load_y n s = byte_y InputUsed (λ b. cond (ltb b n) (go (loaded_y s b)) (stop NotADigit))

abbrev pub load_by : Turn → ℕ → TwoState → Plan TwoState Stop
load_by OfX n s = load_x n s
load_by OfY n s = load_y n s

-- the smallest digit that may be given out, where a of x and b of y are held
abbrev pub choice : Setting → TwoState → ℕ → ℕ → Option ℕ
choice y s a b = giving_of y.output (images_of s.form (interval y.input a) (interval y.input b))

-- no room in the output: end 20; X becomes pseudoinverse(G_c)·X, cancelled; if an entry leaves the range, end 22; else write c
abbrev pub give : System → TwoState → ℕ → Plan TwoState Stop
give output s c = digit NoRoom c (ranged (given_two s (cancel_form (given_form (transformation output c) s.form))))

-- the digit whose turn it is is absorbed, X cancelled; nothing is held there, and the turn passes to the other
abbrev pub absorb : System → TwoState → ℕ → ℕ → Turn → Plan TwoState Stop
absorb input s a b OfX = ranged (absorbed_x s (cancel_form (into_x s.form (transformation input a))))
absorb input s a b OfY = ranged (absorbed_y s (cancel_form (into_y s.form (transformation input b))))

-- where both are held, by the choice
abbrev pub both_held : Setting → TwoState → ℕ → ℕ → Option ℕ → Plan TwoState Stop
both_held y s a b (some c) = give y.output s c
both_held y s a b none = absorb y.input s a b s.turn

abbrev pub plan_by : Setting → TwoState → Held → Held → Plan TwoState Stop
plan_by y s None h = load_x y.input.count s
plan_by y s (Some a) None = load_y y.input.count s
plan_by y s (Some a) (Some b) = both_held y s a b (choice y s a b)

abbrev pub two_plan : Setting → TwoState → Plan TwoState Stop
two_plan y s = plan_by y s s.x s.y

-- ---- the machine that makes these steps

abbrev pub pairs : Setting → Machine TwoState Stop
pairs y = planned (λ s r. two_plan y s) held_two InputUsed

-- what lies before it: the bytes of two words, and free places for digits. No divisors are listed.
abbrev pub two_words : List ℕ → List ℕ → ℕ → Supply
two_words xs ys room = record { x = xs; y = ys; room = room; list = 0 }
