-- `cancelling::even` meets its contract: of each entry the test says whether 2 divides it.
use Rattle.whole.proofs.Laws.{both_true, true_both, at, arith}
use Rattle.cancelling.proofs.EvenNumbers.{rem_asks, is_even}
use Rattle.cancelling.proofs.even.Goals as goal

pub returns : goal.returns
returns c =
    let m = c.args.m in
    let e0 = is_even (at m 0) (omega arith) in
    let e1 = is_even (at m 1) (omega arith) in
    let e2 = is_even (at m 2) (omega arith) in
    let e3 = is_even (at m 3) (omega arith) in (
      λ e.
          let p = both_true _ _ e in
          let q = both_true _ _ p.0 in
          let r = both_true _ _ q.0 in
          record { d0 = e0.0 r.0; d1 = e1.0 r.1; d2 = e2.0 q.1; d3 = e3.0 p.1 },
      λ v. true_both (true_both (true_both (e0.1 v.d0) (e1.1 v.d1)) (e2.1 v.d2)) (e3.1 v.d3),
    )
