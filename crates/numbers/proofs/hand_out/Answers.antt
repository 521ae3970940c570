-- `numbers::hand_out` meets its contract: a slice of the right length is written whole, and any other is left.
use Rattle.whole.proofs.Laws.{ap, arith, eq-eqb, ne_eqb, length}
use Rattle.numbers.specs.Numbers.{wrote, handed_out}
use Rattle.numbers.proofs.hand_out.Goals as goal

pub returns-then-columns-ne128 : goal.returns-then-columns-ne128
unfolding handed_out
returns-then-columns-ne128 c = rw (ne_eqb (length c.args.columns.now) 128 (λ e. omega arith))

pub returns : goal.returns
unfolding handed_out
returns c =
    let p = c.before in
    rw (eq-eqb (length p.args.columns.now) 128 (omega arith)) (ap (wrote 0) p.put_columns.ensures)
