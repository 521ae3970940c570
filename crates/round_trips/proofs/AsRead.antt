-- The same job with unused digits as 0 (`as_read`): it has the same bytes, is judged alike, and keeps the rules exactly where the contents can be written.
use Rattle.whole.proofs.Laws.{◌≡◌, refl, sym, ap, ◌∙◌, subst, ◌++◌, ◌*◌, ◌≤◌, arith}
use Rattle.digits.proofs.Laws.{StoredSystem, system_of, rows_of, columns_of, by_column, as_written, rows_length, rows_again, number_in_rows, same_numbers, same_in_columns}
use Rattle.digits.specs.Orders.{by_row}
use Rattle.admission.proofs.Laws.{Admissible, Admitted, admission_of, same_judgement, admitted_says, admitted_only, SystemCase}
use Rattle.opening.proofs.Laws.{Opens}
use Rattle.sections.proofs.Laws.{Writable}
use Rattle.job_sections.proofs.Laws.{Contents, two_bytes, numbers_bytes, matrix_bytes, word_bytes, layout_of, SystemRules, Rules, written_job, parts_of, system, admitted}
use Rattle.job_writing.proofs.Laws.{passed_matrix}
use Rattle.round_trips.specs.Writes.{cleared, as_read, Handed}

-- the rows of its digits are the same
pub same_rows : (s : StoredSystem) → s.count ≤ 16 → rows_of (cleared s) ≡ rows_of s
same_rows s few = rows_again few (rows_of s) (rows_length (8 * s.count) s.columns)

pub same_layout_read : (c : Contents) → c.input.count ≤ 16 → c.output.count ≤ 16 → layout_of (as_read c) ≡ layout_of c
same_layout_read c i o = λ k.
    (two_bytes c.input.count ++ numbers_bytes (same_rows c.input i k)) ++
    ((two_bytes c.output.count ++ numbers_bytes (same_rows c.output o k)) ++ (matrix_bytes c.matrix ++ word_bytes c.word))

-- and so is what admission says
pub same_judged : (s : StoredSystem) → admission_of (system_of s) ≡ admission_of (system_of (cleared s))
same_judged s =
    same_judgement (system_of s) (as_written s.count (rows_of s)) (same_numbers by_column by_row s.columns (rows_of s) (λ few j a h k. sym (number_in_rows s.count s.columns j a h k))) ∙
    same_judgement (as_written s.count (rows_of s)) (system_of (cleared s)) (same_in_columns s.count (rows_of s))

admissible_if : (s t : StoredSystem) → admission_of (system_of s) ≡ admission_of (system_of t) → Admissible (system_of s) → Admissible (system_of t)
admissible_if s t e a = subst (SystemCase (system_of t)) (sym e ∙ sym (admitted_only (system_of s) Admitted a)) (admitted_says (system_of t))

-- ---- the rules

system_as_read : {s : StoredSystem} → Writable system s → SystemRules (cleared s)
system_as_read {s} w = record {
  admissible = admissible_if s (cleared s) (same_judged s) (admitted s w.kept);
  unused = ap columns_of (sym (same_rows s w.counted.few));
}

writable_system : {s : StoredSystem} → SystemRules (cleared s) → Writable system s
writable_system {s} h = record {
  counted = record { some = h.admissible.some_digits; few = h.admissible.few_digits };
  kept = record { answer = Admitted; numbered = refl; holds = admissible_if (cleared s) s (sym (same_judged s)) h.admissible };
}

pub rules_as_read : (c : Contents) → Handed c → written_job.Writes (parts_of c) → Rules (as_read c)
rules_as_read c h k = record {
  input = system_as_read k.0;
  output = system_as_read k.1.0;
  matrix = passed_matrix c h.four k;
  word = record { short = k.1.1.1.0.counted.few; bytes = h.bytes };
}

pub writes_as_read : (c : Contents) → Rules (as_read c) → written_job.Writes (parts_of c)
writes_as_read c h = (
  writable_system h.input,
  (
    writable_system h.output,
    (
      record {
        counted = record { some = omega arith; few = omega arith };
        kept = record { answer = Opens; numbered = refl; holds = (h.matrix.in_range, h.matrix.above) };
      },
      (record { counted = record { some = omega arith; few = h.word.short }; kept = refl }, tt),
    ),
  ),
)
