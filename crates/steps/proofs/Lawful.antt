-- The step goes by plans, so it is lawful and steady (crates/runs): what is to be seen is that a plan pays for the digit that it holds. And why it stops.
use Rattle.whole.proofs.Laws.{◌≡◌, refl, Option, none, some, ℕ, suc, ◌+◌, ◌≤◌, arith, ltb}
use Rattle.runs.proofs.Laws.{Supply, Deed, nothing, cost, Halting, Lawful, Steady, Each, EachStop, took_x, gave, Always, each_test, follow_halts, stop_test, Cheap, planned_lawful, steady_always}
use Rattle.states.proofs.Laws.{Held, None, Some, State, Stop, InputUsed, ListFull, NotADigit, NoRoom, RangeLeft, loaded, given, absorbed, StepEnd, held_count, step_end}
use Rattle.steps.specs.Step.{Setting, chosen, given_matrix, absorbed_matrix, held_plan, plan_by, plan, plain}
use Rattle.steps.proofs.Cancelled.{each_cancelled, stop_cancelled}

abbrev held : State → ℕ
held s = held_count s.held

abbrev Costs : ℕ → State → Deed → Type 0
Costs n t d = suc (held t) ≤ cost d + n

held_cheap : (y : Setting) (s : State) (h : ℕ) (o : Option ℕ) → held s ≡ 1 → Cheap held 1 (held_plan y s h o)
unfolding Each
held_cheap y s h (some b) e = each_cancelled (given s) (given_matrix y.output s b) (Costs 1) (gave b) (λ k. omega arith)
held_cheap y s h none e = each_cancelled (absorbed s) (absorbed_matrix y.input s h) (Costs 1) nothing (λ k. omega arith)

cheap : (y : Setting) (s : State) (h : Held) → held s ≡ held_count h → Cheap held (held_count h) (plan_by y s h)
unfolding Each
cheap y s None e = λ b. each_test (Costs 0) (took_x b) (ltb b y.input.count) (loaded s b) NotADigit (λ k. omega arith)
cheap y s (Some h) e = held_cheap y s h (chosen y s h) e

-- why a step stops: what holds of the five ends holds of every stop
module _ (R : Stop → Type 0) (used : R InputUsed) (no_digit : R NotADigit) (no_room : R NoRoom) (full : R ListFull) (left : R RangeLeft) where
  held_stops : (y : Setting) (s : State) (h : ℕ) (o : Option ℕ) → EachStop R (held_plan y s h o)
  unfolding EachStop
  held_stops y s h (some b) = (no_room, stop_cancelled (given s) (given_matrix y.output s b) R full left)
  held_stops y s h none = stop_cancelled (absorbed s) (absorbed_matrix y.input s h) R full left

  plan_stops : (y : Setting) (s : State) (h : Held) → EachStop R (plan_by y s h)
  unfolding EachStop
  plan_stops y s None = (used, λ b. stop_test R (ltb b y.input.count) (loaded s b) NotADigit no_digit)
  plan_stops y s (Some h) = held_stops y s h (chosen y s h)

  pub stops_with : (y : Setting) (s : State) (r : Supply) → Halting R ((plain y).step s r)
  stops_with y s r = follow_halts R (plan y s) (plan_stops y s s.held) r

pub step_stops : (y : Setting) (s : State) (r : Supply) → Halting StepEnd ((plain y).step s r)
step_stops = stops_with StepEnd (step_end InputUsed refl) (step_end NotADigit refl) (step_end NoRoom refl) (step_end ListFull refl) (step_end RangeLeft refl)

pub lawful : (y : Setting) → Lawful (plain y)
lawful y = planned_lawful (λ s r. plan y s) held InputUsed (λ s r. cheap y s s.held refl)

pub steady : (y : Setting) (more : Supply) → Steady (plain y) more Always
steady y more = steady_always (plan y) held InputUsed more
