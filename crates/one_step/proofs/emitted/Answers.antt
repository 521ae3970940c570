-- `one_step::emitted` meets its contract, by the two cases of what was found.
use Rattle.whole.proofs.Laws.{subst}
use Rattle.fitting.proofs.Laws.{Fitting, fits}
use Rattle.steps.proofs.Laws.{WorksWhere}
use Rattle.one_step.proofs.emitted.Goals.{Start}
use Rattle.one_step.proofs.emitted.Goals as goal
use Rattle.digits.specs.Orders.{viewed}

pub give-requires : goal.give-requires
give-requires c = subst (λ (f : Fitting). WorksWhere c.args.r (viewed c.args.outputs) c.args.s (fits f)) c.in-Some.is c.requires.2

pub returns-in-Some : goal.returns-in-Some
returns-in-Some c = λ bytes. rw c.in-Some.is (c.give.ensures bytes)

pub returns-in-None : goal.returns-in-None
returns-in-None c = λ bytes. rw c.in-None.is (c.absorb.ensures bytes _)
