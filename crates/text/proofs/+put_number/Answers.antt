-- `text::put_number` meets its contract: one digit, or what is written of n / 10 and the last digit behind it.
use Rattle.whole.proofs.Laws.{sym, ◌/◌, arith}
use Rattle.text.proofs.Written.{and_then_lem, wrote_as, at_most}
use Rattle.text.proofs.Decimals.{decimal_one, decimal_more, few_digits}
use Rattle.text.proofs.+put_number.Goals as goal

pub returns-then-n-lt10 : goal.returns-then-n-lt10
returns-then-n-lt10 t c = wrote_as (sym (decimal_one c.args.n c.if-n-lt10.true)) (at_most (omega arith) c.put.ensures)

-- the digits in front of the last are 19 at most
pub put-requires-2 : goal.put-requires-2
put-requires-2 t c =
    let l = few_digits (c.args.n / 10) 18 (omega (arith, c.ranges.n)) in
    omega arith

pub returns : goal.returns
returns t c =
    let w = wrote_as (sym (decimal_more c.args.n c.if-n-lt10.false)) (and_then_lem c.put_number-p.ensures c.put-2.ensures) in
    record { place = w.place; few = few_digits c.args.n 19 (omega (arith, c.ranges.n)); bytes = w.bytes }
