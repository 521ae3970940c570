-- "A run judges its input system (3, 6 to 10), its output system, then the state (12), before any step", and each system by 18, "directly after 10, also
-- in runs" (document 02).
use Rattle.std.specs.Prelude.{◌≡◌, Bool, cond, ◌&&◌, ◌⊎◌, ℕ, pos}
use Rattle.std.specs.Int.Signed.{lt_z}
use Rattle.whole.specs.Refusal.{unless_refused}
use Rattle.plane.specs.Plane.{determinant_of}
use Rattle.whole.specs.Range.{within?}
use Rattle.whole.specs.Divisor.{lowest?}
use Rattle.admission.specs.Types.{Admitted}
use Rattle.admission.specs.Admission.{refusal_number, admission_of, SystemNumber}
use Rattle.states.specs.Types.{State}
use Rattle.states.specs.State.{StateRules, held_digit?}
use Rattle.steps.specs.Step.{Setting}

-- the rules for a state (`StateRules`, crates/states/specs/State.antt) as a test: what refusal 12 is about
unfoldable pub state? : ℕ → State → Bool
state? n s = within? 1000000000 s.matrix && lt_z (pos 0) (determinant_of s.matrix) && lowest? s.matrix && held_digit? n s.held

-- the number of the first refusal, or 0: of the two systems, and then 12 unless the state keeps its rules, which is told
unfoldable pub refusal_by : Setting → Bool → ℕ
refusal_by y kept =
    unless_refused (refusal_number (admission_of y.input)) (λ n. n)
    (unless_refused (refusal_number (admission_of y.output)) (λ n. n)
    (cond kept 0 12))

unfoldable pub refusal_of : Setting → State → ℕ
refusal_of y s = refusal_by y (state? y.input.count s)

-- "3, 6 to 10", 18, and 12
abbrev pub RefusalNumber : ℕ → Type 0
RefusalNumber n = SystemNumber n ⊎ (n ≡ 12)

-- nothing is refused
pub record Accepted (y : Setting) (s : State) : Type 0 where
  pub input : admission_of y.input ≡ Admitted
  pub output : admission_of y.output ≡ Admitted
  pub state : StateRules y.input.count s
