-- `write_call::write` meets its contract: slices of the wrong length are refused, and what writing answers is written back as numbers.
use Rattle.whole.proofs.Laws.{◌≡◌, ap, ◌∙◌, List, [], ◌∷◌, ℕ, ℤ, length, set, eq-eqb, ne_eqb}
use Rattle.plane.proofs.Laws.{entries}
use Rattle.digits.proofs.Laws.{StoredSystem}
use Rattle.job_writing.proofs.Laws.{Wrote, write_of}
use Rattle.job_writing.specs.Writing.{contents}
use Rattle.numbers.proofs.Laws.{known}
use Rattle.write_call.specs.WriteCall.{after_write, wrote_call, write_call_of}
use Rattle.write_call.proofs.write.Goals.{then-matrix-ne4-via-then-matrix-ne4, then-matrix-ne4-via-else-matrix-ne4+then-written-ne1}
use Rattle.write_call.proofs.write.Goals as goal

pub returns-in_default : goal.returns-in_default
unfolding write_call_of
returns-in_default c = rw (eq-eqb _ _ c.in_default.ensures.0, ne_eqb _ _ c.in_default.ensures')

pub returns-in_default-2 : goal.returns-in_default-2
unfolding write_call_of
returns-in_default-2 c = rw (ne_eqb _ _ (rw c.in_default.is-0 at c.system_from.ensures))

pub returns-then-matrix-ne4 : goal.returns-then-matrix-ne4
unfolding write_call_of
returns-then-matrix-ne4 c = let s = c.in-Some-Some in elim c.then-matrix-ne4.branch [
  | then-matrix-ne4-via-then-matrix-ne4 w ↦ rw (eq-eqb _ _ s.ensures.0, eq-eqb _ _ s.ensures'.0, ne_eqb _ _ w.if-matrix-ne4.true)
  | then-matrix-ne4-via-else-matrix-ne4+then-written-ne1 w ↦ rw (eq-eqb _ _ s.ensures.0, eq-eqb _ _ s.ensures'.0, eq-eqb _ _ w.if-matrix-ne4.false, ne_eqb _ _ w.if-written-ne1.true)
]

-- where the lengths are right, what writing answers is left (`w`)
left : {x y a b : StoredSystem} {m : List ℤ} {w : Wrote} (matrix : List ℤ) (word file old : List ℕ) → (length x.columns ≡ 128) × (a ≡ x) → (length y.columns ≡ 128) × (b ≡ y) → length matrix ≡ 4 →
    length old ≡ 1 → m ≡ entries matrix → w ≡ write_of (contents a b m word) file → wrote_call w old ≡ write_call_of x y matrix word file old
unfolding write_call_of
left {x} {y} matrix word file old (e, p) (f, q) four one r is =
    rw (eq-eqb (length x.columns) 128 e, eq-eqb (length y.columns) 128 f, eq-eqb (length matrix) 4 four, eq-eqb (length old) 1 one)
    (ap (λ (w : Wrote). wrote_call w old) (is ∙ (λ i. write_of (contents (p i) (q i) (r i) word) file)))

pub returns-in-Err : goal.returns-in-Err
returns-in-Err c =
    let a = c.args in
    let s = c.in-Some-Some in
    ap (λ (n : ℕ). after_write n c.write_lent.new.buffer a.written.now) c.refusal_number.ensures
    ∙ left a.matrix.now a.word.now a.file.now a.written.now s.ensures s.ensures' c.if-matrix-ne4.false c.if-written-ne1.false c.matrix_from.ensures c.in-Err.ensures

-- one number is lent
one : (old : List ℕ) {n : ℕ} → length old ≡ 1 → set old 0 n ≡ n ∷ []
one old e = rw (known 0 1 old e)

pub returns-in-Ok : goal.returns-in-Ok
returns-in-Ok c =
    let a = c.args in
    let s = c.in-Some-Some in
    ap (λ (l : List ℕ). after_write 0 c.write_lent.new.buffer l) (one a.written.now c.if-written-ne1.false)
    ∙ left a.matrix.now a.word.now a.file.now a.written.now s.ensures s.ensures' c.if-matrix-ne4.false c.if-written-ne1.false c.matrix_from.ensures c.in-Ok.ensures
