-- `digits::SystemView::interval` meets its contract: the four numbers behind those of the transformation.
use Rattle.whole.proofs.Laws.{◌∙◌, arith}
use Rattle.digits.specs.Orders.{interval_by}
use Rattle.digits.proofs.Places.{four_in_columns}
use Rattle.digits.proofs.SystemView.interval.Goals as goal

pub returns : goal.returns
unfolding interval_by
returns c = let a = c.args in c.four_from.ensures ∙ four_in_columns a.self.columns.now a.a 4 _ (omega arith)
