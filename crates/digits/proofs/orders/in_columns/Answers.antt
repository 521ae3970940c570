-- `digits::orders::in_columns` meets its contract. The invariant: the first p numbers of the columns are written.
use Rattle.whole.proofs.Laws.{◌≡◌, sym, ap, ◌∙◌, arith, at, element_16, copied, copy_one}
use mir.Facts.{to_z-of_z}
use Rattle.digits.proofs.Places.{columns_length, columns_at}
use Rattle.std.proofs.Common.{rules}
use Rattle.digits.proofs.orders.in_columns.Goals.{After-unwrap_or}
use Rattle.digits.proofs.orders.in_columns.Goals as goal

number : (c : After-unwrap_or) → c.unwrap_or.result ≡ at c.args.rows.now c.row_place.result
number c = search rules

pub loop-p-preserved : goal.loop-p-preserved
loop-p-preserved c =
    let l = c.loop-p in
    let rows = c.args.rows.now in
    let z = to_z-of_z (element_16 _ c.unwrap_or.type_inv) ∙ number c ∙ ap (at rows) c.row_place.ensures in
    copy_one l.invariant (omega arith) (omega (arith, columns_length rows)) (z ∙ sym (columns_at rows l.p (omega arith)))

pub returns : goal.returns
returns c = copied c.loop-p.invariant (omega (arith, c.requires.size)) (columns_length c.args.rows.now ∙ sym c.requires.size)
