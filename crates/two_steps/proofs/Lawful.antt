-- The step over two words goes by plans, so it is lawful and steady (crates/runs): what is to be seen is that a plan pays for the digits that it holds.
use Rattle.whole.proofs.Laws.{ap, suc, ◌+◌, ◌≤◌, arith}
use Rattle.runs.proofs.Laws.{Supply, cost, Lawful, Steady, Always, planned_lawful, steady_always}
use Rattle.states.proofs.Laws.{InputUsed, held_count}
use Rattle.steps.proofs.Laws.{Setting}
use Rattle.two_states.proofs.Laws.{TwoState, held_two}
use Rattle.two_steps.specs.TwoStep.{two_plan, pairs}
use Rattle.two_steps.proofs.Ways.{Onward, each_way}

-- a byte is taken for the digit that is held more, or a digit is given out, or one is held less
costs : (y : Setting) (s : TwoState) → Onward y s (λ t d. suc (held_two t) ≤ cost d + held_two s)
costs y s = record {
  load_x_lem = λ a e k. omega (arith, ap held_count e);
  load_y_lem = λ b e k. omega (arith, ap held_count e);
  give = λ a b c e f k w. omega arith;
  absorb_x = λ a e w. omega (arith, ap held_count e);
  absorb_y = λ b e w. omega (arith, ap held_count e);
}

pub lawful : (y : Setting) → Lawful (pairs y)
lawful y = planned_lawful (λ s r. two_plan y s) held_two InputUsed (λ s r. each_way y s (λ t d. suc (held_two t) ≤ cost d + held_two s) (costs y s))

pub steady : (y : Setting) (more : Supply) → Steady (pairs y) more Always
steady y more = steady_always (two_plan y) held_two InputUsed more
