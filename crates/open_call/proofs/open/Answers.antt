-- `open_call::open` meets its contract: slices of the wrong length, the two refusals, and the opened state, written as five numbers.
use Rattle.whole.proofs.Laws.{◌≡◌, sym, ap, ◌∙◌, List, ℤ, length, eq-eqb, ne_eqb, unless_refused}
use Rattle.plane.proofs.Laws.{entries}
use Rattle.opening.proofs.Laws.{Start, open_of}
use Rattle.numbers.proofs.Laws.{wrote, refused_by}
use Rattle.open_call.specs.OpenCall.{opened, open_call_of}
use Rattle.open_call.proofs.open.Goals.{then-matrix-ne4-via-then-matrix-ne4, then-matrix-ne4-via-else-matrix-ne4+then-state-ne5}
use Rattle.open_call.proofs.open.Goals as goal

pub returns-then-matrix-ne4 : goal.returns-then-matrix-ne4
unfolding open_call_of
returns-then-matrix-ne4 c = elim c.then-matrix-ne4.branch [
  | then-matrix-ne4-via-then-matrix-ne4 w ↦ rw (ne_eqb _ _ w.if-matrix-ne4.true)
  | then-matrix-ne4-via-else-matrix-ne4+then-state-ne5 w ↦ rw (eq-eqb _ _ w.if-matrix-ne4.false, ne_eqb _ _ w.if-state-ne5.true)
]

-- where the lengths are right, the opening decides
judged : (m old : List ℤ) {r : Start} {n : List ℤ} → length m ≡ 4 → length old ≡ 5 → n ≡ entries m → r ≡ open_of n → open_call_of m old ≡ opened r old
unfolding open_call_of
judged m old four five e p = rw (eq-eqb (length m) 4 four, eq-eqb (length old) 5 five) (sym (ap (λ (r : Start). opened r old) (p ∙ ap open_of e)))

pub returns-in-Err : goal.returns-in-Err
returns-in-Err c =
    sym (judged c.args.matrix.now c.args.state.now c.if-matrix-ne4.false c.if-state-ne5.false c.matrix_from.ensures c.in-Err.ensures
    ∙ refused_by c.in-Err.refusal _ _ (c.from.ensures ∙ c.number.ensures))

pub returns-in-Ok : goal.returns-in-Ok
unfolding unless_refused
returns-in-Ok c =
    ap (wrote 0) c.put_state.ensures ∙ sym (judged c.args.matrix.now c.args.state.now c.if-matrix-ne4.false c.if-state-ne5.false c.matrix_from.ensures c.in-Ok.ensures)
