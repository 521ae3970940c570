-- `two_steps::loading::load` meets its contract, by the next byte.
use Rattle.whole.proofs.Laws.{sym, ◌∙◌}
use Rattle.two_steps.specs.Types.{Ok, Err}
use Rattle.two_steps.proofs.Plans.{loads}
use Rattle.two_steps.proofs.loading.load.Goals as goal

pub returns-in-Ok : goal.returns-in-Ok
returns-in-Ok c = λ count xs ys room e. rw c.loaded.ensures (loads count c.args.s xs ys room c.args.word (Ok _) (sym c.in-Ok.is ∙ e))

pub returns-in-Err : goal.returns-in-Err
returns-in-Err c = λ count xs ys room e. loads count c.args.s xs ys room c.args.word (Err _) (sym c.in-Err.is ∙ e)
