-- "a state of eight numbers, cancelled and within the same range, two held digits and whose turn it is" (document 02, T-14).
use Rattle.std.specs.Prelude.{◌≡◌, Bool, ◌&&◌, ℕ, ◌+◌}
use Rattle.bilinear.specs.Types.{Form}
use Rattle.bilinear.specs.Form.{sum_form, difference_form, product_form}
use Rattle.bilinear.specs.Lowest.{gcd8, lowest_form?, WithinForm, within_form?}
use Rattle.states.specs.Types.{None, Some}
use Rattle.states.specs.State.{HeldDigit, held_digit?, held_count}
use Rattle.two_states.specs.Types.{Turn, OfX, OfY, TwoState}

-- ---- a state is built in these ways (and at the C boundary, from a plug-in's numbers)

-- "x first": nothing is held, and it is x's turn
abbrev pub opened_two : Form → TwoState
opened_two m = record { form = m; x = None; y = None; turn = OfX }

-- "runs with two inputs for x+y, x−y and xy"
abbrev pub opened_sum : TwoState
opened_sum = opened_two sum_form

abbrev pub opened_difference : TwoState
opened_difference = opened_two difference_form

abbrev pub opened_product : TwoState
opened_product = opened_two product_form

-- a missing digit is loaded; the eight numbers stay
abbrev pub loaded_x : TwoState → ℕ → TwoState
loaded_x s a = record { form = s.form; x = Some a; y = s.y; turn = s.turn }

abbrev pub loaded_y : TwoState → ℕ → TwoState
loaded_y s b = record { form = s.form; x = s.x; y = Some b; turn = s.turn }

abbrev pub loaded_by : Turn → TwoState → ℕ → TwoState
loaded_by OfX s a = loaded_x s a
loaded_by OfY s b = loaded_y s b

-- eight new numbers, where a digit is given out
abbrev pub given_two : TwoState → Form → TwoState
given_two s m = record { form = m; x = s.x; y = s.y; turn = s.turn }

-- eight new numbers, nothing held in the word that was absorbed from, and the other's turn
abbrev pub absorbed_x : TwoState → Form → TwoState
absorbed_x s m = record { form = m; x = None; y = s.y; turn = OfY }

abbrev pub absorbed_y : TwoState → Form → TwoState
absorbed_y s m = record { form = m; x = s.x; y = None; turn = OfX }

abbrev pub absorbed_by : TwoState → Form → Turn → TwoState
absorbed_by s m OfX = absorbed_x s m
absorbed_by s m OfY = absorbed_y s m

-- ---- the rules for a state, where the input system has n digits. Eight times 0 is not cancelled: the greatest common divisor is 0 then.

pub record TwoRules (n : ℕ) (s : TwoState) : Type 0 where
  pub cancelled : gcd8 s.form ≡ 1
  pub in_range : WithinForm 1000000000 s.form
  pub held_x : HeldDigit n s.x
  pub held_y : HeldDigit n s.y

-- the same as a test: "12 for a state that is all 0, not cancelled, out of range or holds a number that is no digit of the system"
unfoldable pub two_state? : ℕ → TwoState → Bool
two_state? n s = within_form? 1000000000 s.form && lowest_form? s.form && held_digit? n s.x && held_digit? n s.y

-- how many digits it holds
abbrev pub held_two : TwoState → ℕ
held_two s = held_count s.x + held_count s.y
