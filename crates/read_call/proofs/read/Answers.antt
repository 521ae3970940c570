-- `read_call::read` meets its contract: slices of the wrong length are refused, then a file by its number and section, and else the job is written as numbers.
use Rattle.whole.proofs.Laws.{◌≡◌, sym, ap, ◌∙◌, List, ℕ, ◌+◌, ◌*◌, ℤ, arith, length, eq-eqb, ne_eqb, unless_refused, passed, decided}
use Rattle.refusals.specs.Numbers.{number_of}
use Rattle.refusals.proofs.Numbers.{numbered}
use Rattle.jobs.proofs.Laws.{Reading}
use Rattle.jobs.specs.Reading.{read_of}
use Rattle.read_call.specs.ReadCall.{call_number, after_read, job_numbers, reading_call, read_call_of}
use Rattle.read_call.proofs.read.Goals.{then-in_columns-ne128-via-then-in_columns-ne128, then-in_columns-ne128-via-else-in_columns-ne128+then-out_columns-ne128, then-in_columns-ne128-via-else-in_columns-ne128+else-out_columns-ne128+then-matrix-ne4, then-in_columns-ne128-via-else-in_columns-ne128+else-out_columns-ne128+else-matrix-ne4+then-found-ne4}
use Rattle.read_call.proofs.read.Goals as goal

pub returns-then-in_columns-ne128 : goal.returns-then-in_columns-ne128
unfolding read_call_of unless_refused
returns-then-in_columns-ne128 c = elim c.then-in_columns-ne128.branch [
  | then-in_columns-ne128-via-then-in_columns-ne128 w ↦ rw (ne_eqb _ _ w.if-in_columns-ne128.true)
  | then-in_columns-ne128-via-else-in_columns-ne128+then-out_columns-ne128 w ↦ rw (eq-eqb _ _ w.if-in_columns-ne128.false, ne_eqb _ _ w.if-out_columns-ne128.true)
  | then-in_columns-ne128-via-else-in_columns-ne128+else-out_columns-ne128+then-matrix-ne4 w ↦
      rw (eq-eqb _ _ w.if-in_columns-ne128.false, eq-eqb _ _ w.if-out_columns-ne128.false, ne_eqb _ _ w.if-matrix-ne4.true)
  | then-in_columns-ne128-via-else-in_columns-ne128+else-out_columns-ne128+else-matrix-ne4+then-found-ne4 w ↦
      rw (eq-eqb _ _ w.if-in_columns-ne128.false, eq-eqb _ _ w.if-out_columns-ne128.false, eq-eqb _ _ w.if-matrix-ne4.false, ne_eqb _ _ w.if-found-ne4.true)
]

-- where the lengths are right, what is read decides
judged : {r : Reading} (file : List ℕ) (input output m : List ℤ) (found : List ℕ) → length input ≡ 128 → length output ≡ 128 → length m ≡ 4 → length found ≡ 4 → r ≡ read_of file →
    read_call_of file input output m found ≡ unless_refused (call_number r.verdict) (λ n. after_read n input output m found) (job_numbers r.job)
unfolding read_call_of
judged file input output m found a b c d e =
    ap (λ (r : Reading). reading_call r input output m found) (sym e)
    ∙ rw (eq-eqb (length input) 128 a, eq-eqb (length output) 128 b, eq-eqb (length m) 4 c, eq-eqb (length found) 4 d)

pub returns-in-Err : goal.returns-in-Err
returns-in-Err c =
    let a = c.args in
    let f = c.in-Err.refused in
    let e = c.refusal_number.ensures in
    let put = λ (n : ℕ). after_read n a.in_columns.now a.out_columns.now a.matrix.now a.found.now in
    sym (judged a.file.now a.in_columns.now a.out_columns.now a.matrix.now a.found.now c.if-in_columns-ne128.false c.if-out_columns-ne128.false c.if-matrix-ne4.false c.if-found-ne4.false c.in-Err.ensures
    ∙ decided put _ (λ z. omega (arith, numbered f.refusal)) ∙ ap put (sym e))

pub returns-in-Ok : goal.returns-in-Ok
unfolding unless_refused
returns-in-Ok c =
    let a = c.args in
    c.put_job.ensures
    ∙ sym (judged a.file.now a.in_columns.now a.out_columns.now a.matrix.now a.found.now c.if-in_columns-ne128.false c.if-out_columns-ne128.false c.if-matrix-ne4.false c.if-found-ne4.false c.in-Ok.ensures)
