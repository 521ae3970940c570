-- `digits::SystemView::transformation` meets its contract: its first four numbers.
use Rattle.whole.proofs.Laws.{◌∙◌, arith}
use Rattle.digits.specs.Orders.{transformation_by}
use Rattle.digits.proofs.Places.{four_in_columns}
use Rattle.digits.proofs.SystemView.transformation.Goals as goal

pub returns : goal.returns
unfolding transformation_by
returns c = let a = c.args in c.four_from.ensures ∙ four_in_columns a.self.columns.now a.a 0 _ (omega arith)
