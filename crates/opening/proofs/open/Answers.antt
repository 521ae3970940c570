-- `opening::open` meets its contract: what refuses is passed on; where it opens, the matrix is cancelled.
use Rattle.whole.proofs.Laws.{sym, ap, subst, ◌∙◌, within_le}
use Rattle.std.proofs.lemmas.Result.{err_from_is_err_and}
use Rattle.plane.proofs.Laws.{divisor_above}
use Rattle.states.proofs.Laws.{State, opened as opened_state}
use Rattle.opening.specs.Types.{Opens, Err, Ok}
use Rattle.opening.specs.Opening.{OpeningCase, start_of, started, open_of}
use Rattle.opening.proofs.OpeningSays.{opening_says}
use Rattle.opening.proofs.open.Goals as goal

pub returns-in_err-opening_of : goal.returns-in_err-opening_of
unfolding open_of
returns-in_err-opening_of c =
    let p = err_from_is_err_and c.from_residual.result c.from_residual.ensures.1 in
    ap started (p.1 ∙ ap Err p.2) ∙ ap (start_of c.args.m) c.in_err-opening_of.ensures

pub cancel-cancelled-requires : goal.cancel-cancelled-requires
cancel-cancelled-requires c =
    let m = c.args.m in
    let o : OpeningCase m Opens = subst (OpeningCase m) (sym c.in_ok-opening_of.ensures) (opening_says m) in
    (within_le o.0 tt, divisor_above {m = m} (record { above = o.1 }))

pub returns : goal.returns
unfolding open_of
returns c =
    ap (λ (s : State). started (Ok s)) (c.opened.ensures ∙ ap opened_state c.cancel-cancelled.ensures.1) ∙ ap (start_of c.args.m) c.in_ok-opening_of.ensures
