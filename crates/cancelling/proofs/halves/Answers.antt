-- `cancelling::halves` meets its contract: each shift is the half of an even number.
use Rattle.whole.proofs.Laws.{at, arith}
use Rattle.plane.proofs.Laws.{four_equal}
use Rattle.cancelling.proofs.EvenNumbers.{half}
use Rattle.cancelling.proofs.halves.Goals as goal

pub returns : goal.returns
returns c =
    let m = c.args.m in
    let v = c.requires in
    four_equal (half (at m 0) (omega arith) v.d0) (half (at m 1) (omega arith) v.d1) (half (at m 2) (omega arith) v.d2) (half (at m 3) (omega arith) v.d3)
