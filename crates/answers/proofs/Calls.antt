-- The range of what the C functions answer, and of what they leave in the lent numbers: of wrong lengths 40, and all as it was; else what the library's functions answer, as
-- numbers.
use Rattle.whole.proofs.Laws.{◌≡◌, refl, sym, ap, ◌∙◌, Bool, true, false, cond, ◌&&◌, List, inl, inr, ℕ, zero, suc, ◌+◌, ◌*◌, ◌≤◌, ◌/◌, arith, leb, length, ℤ, unless_refused, passed}
use Rattle.plane.proofs.Laws.{determinant_of, entries}
use Rattle.digits.proofs.Laws.{StoredSystem, system_of, columns_of, rows_of, rows_length, number_in_rows, one_in_columns}
use Rattle.admission.proofs.Laws.{admission_number}
use Rattle.opening.proofs.Laws.{open_of}
use Rattle.job_sections.proofs.Laws.{Bytes}
use Rattle.job_writing.proofs.Laws.{Writing, Written, NotWritten, Wrote as WroteFile, wrote as wroteFile, contents, write_of}
use Rattle.jobs.proofs.Laws.{Job, Reading, verdict_number, verdict_section}
use Rattle.numbers.proofs.Laws.{wrong_length, wrote, handed_out, four_lengths}
use Rattle.numbers.specs.Numbers.{Wrote, columns?, state_from}
use Rattle.columns_call.proofs.Laws.{columns_turned}
use Rattle.columns_call.specs.ColumnsCall.{turn_number, columns_lengths?, columns_call_of, rows_lengths?, rows_call}
use Rattle.open_call.specs.OpenCall.{opened, open_lengths?, open_call_of}
use Rattle.run_call.specs.RunCall.{after_run, ran_call, run_lengths?, run_call_of}
use Rattle.unary.proofs.Laws.{run_of}
use Rattle.read_call.specs.ReadCall.{call_number, read_lengths?, after_read, job_numbers, read_call_of}
use Rattle.write_call.specs.WriteCall.{after_write, wrote_call, write_lengths?, write_call_of}
use Rattle.plugin.specs.Calls.{admitted, admit_number}
use Rattle.answers.specs.Numbers.{SectionNumber, UnwrittenNumber, ZeroOr, OrLength}
use Rattle.answers.specs.Answers.{StartInRange, JobInRange, ReadingInRange, WritingInRange}
use Rattle.answers.specs.Calls.{AdmitInRange, SystemInRange, TurnNumber, ColumnsInRange, RowsInRange, OpenInRange, RunInRange, WithSection, FileNumber, job_from, ReadInRange, WriteInRange}
use Rattle.answers.proofs.Sections.{contents_above, contents_not_14}
use Rattle.answers.proofs.Answers.{open_in_range, read_in_range, write_in_range}
use Rattle.answers.proofs.Runs.{end_few, refusal_bounds, state_in_range, ran_in_range}

pub sled_admit_in_range : (s : StoredSystem) → AdmitInRange (admit_number s)
unfolding admit_number
sled_admit_in_range s = by (columns? s.columns)
  where
    by : (t : Bool) → AdmitInRange (cond t (admitted s) wrong_length)
    by true = inl (admission_number (system_of s))
    by false = inr refl

pub sled_system_in_range : (s : StoredSystem) (old : List ℤ) → SystemInRange s old (handed_out s old)
unfolding handed_out
sled_system_in_range s old = by (columns? old)
  where
    by : (t : Bool) → SystemInRange s old (cond t (wrote 0 s.columns) (wrote wrong_length old))
    by true = record { number = inl refl; columns = λ e. refl; untouched = λ h. absurd (omega (arith, h)) }
    by false = record { number = inr refl; columns = λ e. absurd (omega (arith, e)); untouched = λ h. refl }

-- what holds where the number is 0 and where it is not
either_way : {A : Type 0} (P : A → Type 0) {n : ℕ} (refuse : ℕ → A) (next : A) → (n ≡ 0 → P next) → (1 ≤ n → P (refuse n)) → P (unless_refused n refuse next)
unfolding unless_refused
either_way P {n = zero} refuse next p q = p refl
either_way P {n = suc n} refuse next p q = q (omega arith)

-- ---- turning a system from one order into the other

turn_number_lem : (lengths : Bool) (digits : ℕ) → TurnNumber (turn_number lengths digits)
turn_number_lem false digits = inr refl
turn_number_lem true digits = by (leb 1 digits && leb digits 16)
  where
    by : (t : Bool) → TurnNumber (cond t 0 3)
    by true = inl (inl refl)
    by false = inl (inr refl)

pub sled_columns_in_range : (rows old : List ℤ) → ColumnsInRange rows old (columns_call_of rows old)
unfolding columns_call_of
sled_columns_in_range rows old =
    either_way (ColumnsInRange rows old) (λ n. wrote n old) (wrote 0 (columns_of rows))
    (λ e. let t = columns_turned rows old (ap (λ (w : Wrote). w.number) (passed (λ n. wrote n old) (wrote 0 (columns_of rows)) e)) in
    record {
      number = inl (inl refl);
      columns = λ z. (one_in_columns (length rows / 8) t.few.few).has rows (record { size = t.whole });
      untouched = λ h. absurd (omega (arith, h));
    })
    (λ h. record { number = turn_number_lem (columns_lengths? rows old) (length rows / 8); columns = λ z. absurd (omega (arith, z, h)); untouched = λ l. refl })

pub sled_rows_in_range : (s : StoredSystem) (old : List ℤ) → RowsInRange s old (rows_call s old)
unfolding rows_call
sled_rows_in_range s old =
    either_way (RowsInRange s old) (λ n. wrote n old) (wrote 0 (rows_of s))
    (λ e. record {
      number = inl (inl refl);
      rows = λ z. record { size = rows_length (8 * s.count) s.columns };
      same = λ z j a h k. number_in_rows s.count s.columns j a h k;
      untouched = λ h. absurd (omega (arith, h));
    })
    (λ h. record { number = turn_number_lem (rows_lengths? s old) s.count; rows = λ z. absurd (omega (arith, z, h)); same = λ z. absurd (omega (arith, z, h)); untouched = λ l. refl })

-- ---- opening

pub sled_open_in_range : (m old : List ℤ) → OpenInRange old (open_call_of m old)
unfolding open_call_of
sled_open_in_range m old = by (open_lengths? m old)
  where
    k : StartInRange (open_of (entries m))
    k = open_in_range (entries m)

    by : (t : Bool) → OpenInRange old (cond t (opened (open_of (entries m)) old) (wrote wrong_length old))
    by true = either_way (OpenInRange old) (λ n. wrote n old) _
        (λ e. record { number = inl (inl refl); state = λ z. state_in_range (open_of (entries m)).state k.entries (k.opened e 0).held_digit; untouched = λ h. absurd (omega (arith, h)) })
        (λ h. record { number = inl k.number; state = λ z. absurd (omega (arith, z, h)); untouched = λ l. refl })
    by false = record { number = inr refl; state = λ z. absurd (omega (arith, z)); untouched = λ h. refl }

-- ---- a run

pub sled_run_in_range : (a b : StoredSystem) (input : List ℕ) (old : List ℤ) (output divisors counts : List ℕ) →
    RunInRange a.count b.count input old output divisors counts (run_call_of a b input old output divisors counts)
unfolding run_call_of
sled_run_in_range a b input old output divisors counts = by (run_lengths? a b old counts)
  where
    by : (t : Bool) → RunInRange a.count b.count input old output divisors counts
        (cond t (ran_call (run_of (system_of a) (system_of b) (state_from old) input output divisors) old) (after_run wrong_length old output divisors counts))
    by true = ran_in_range (system_of a) (system_of b) input old output divisors counts
    by false = record {
      number = inr refl;
      room = refl;
      list_room = refl;
      three = λ h. absurd (omega (arith, end_few h));
      digits = λ h. absurd (omega (arith, end_few h));
      divisors = λ h. absurd (omega (arith, end_few h));
      state = λ h. absurd (omega (arith, end_few h));
      refused = λ h. absurd (omega (arith, (refusal_bounds h).1));
      untouched = λ h. refl;
    }

-- ---- reading

-- the number of a reading, and 0 only where the file reads
number_says : {file : List ℕ} {r : Reading} → ReadingInRange file r → (t : Bool) →
    let n = cond t (call_number r.verdict) wrong_length in OrLength (ZeroOr FileNumber) n × (n ≡ 0 → verdict_number r.verdict ≡ 0)
number_says {r = r} k true = (inl (by k.number), λ e. omega (arith, e))
  where
    by : ZeroOr (SectionNumber (verdict_section r.verdict)) (verdict_number r.verdict) → ZeroOr FileNumber (call_number r.verdict)
    by (inl e) = inl (ap call_number (k.reads e))
    by (inr g) = inr (record { number = _; section = _; both = refl; given = g })
number_says k false = (inr refl, λ e. absurd (omega (arith, e)))

job_numbers_lem : {file : List ℕ} {j : Job} → JobInRange file j → JobInRange file (job_from (job_numbers j))
unfolding determinant_of
job_numbers_lem k =
    let w = k.matrix.in_range in
    record {
      input = k.input;
      output = k.output;
      matrix = record { four = refl; in_range = record { n0 = w.n0; n1 = w.n1; n2 = w.n2; n3 = w.n3 }; above = k.matrix.above };
      short = k.short;
      inside = k.inside;
    }

pub sled_read_in_range : (file : List ℕ) → Bytes file → (in_columns out_columns m : List ℤ) (found : List ℕ) →
    ReadInRange file in_columns out_columns m found (read_call_of file in_columns out_columns m found)
unfolding read_call_of
sled_read_in_range file b in_columns out_columns m found =
    let k = read_in_range file b in
    let says = number_says k (read_lengths? (length in_columns) (length out_columns) (length m) (length found)) in
    either_way (ReadInRange file in_columns out_columns m found) (λ n. after_read n in_columns out_columns m found) _
    (λ e. record { number = inl (inl refl); four = λ z. refl; job = λ z. job_numbers_lem (k.job (says.1 e)); untouched = λ h. absurd (omega (arith, h)) })
    (λ h. record { number = says.0; four = λ z. absurd (omega (arith, z, h)); job = λ z. absurd (omega (arith, z, h)); untouched = λ l. refl })

-- ---- writing

unwritten_above : {buffer : List ℕ} {section number : ℕ} → UnwrittenNumber buffer section number → 1 ≤ number
unwritten_above {section = section} {number = number} (inl g) = contents_above section number g
unwritten_above (inr s) = omega (arith, s.fourteen)

wrote_in_range : {file old : List ℕ} → length old ≡ 1 → (a : Writing) {new : List ℕ} → WritingInRange file (wroteFile a new) → WriteInRange file old (wrote_call (wroteFile a new) old)
wrote_in_range one (Written n) k = record { number = inl (inl refl); room = k.room; kept = sym one; one = λ z. refl; size = λ z. k.answer; untouched = λ h. absurd (omega (arith, h)) }
wrote_in_range {old = old} one (NotWritten number section) k =
    let above = unwritten_above k.answer in
    record {
      number = inl (inr (record { number = number; section = section; both = refl; given = k.answer }));
      room = k.room;
      kept = refl;
      one = λ z. absurd (omega (arith, z, above));
      size = λ z. absurd (omega (arith, z, above));
      untouched = λ h. ap (λ (l : List ℕ). after_write (number + 256 * section) l old) (k.untouched above);
    }

module _ (a b : StoredSystem) (m : List ℤ) (word file old : List ℕ) where
  one_lent : write_lengths? a b m old ≡ true → length old ≡ 1
  one_lent e = let l : (length a.columns ≡ 128) × (length b.columns ≡ 128) × (length m ≡ 4) × (length old ≡ 1) = four_lengths e in l.3

  pub sled_write_in_range : WriteInRange file old (write_call_of a b m word file old)
  unfolding write_call_of
  sled_write_in_range = by (write_lengths? a b m old) refl
    where
      w : WroteFile
      w = write_of (contents a b (entries m) word) file

      by : (t : Bool) → write_lengths? a b m old ≡ t → WriteInRange file old (cond t (wrote_call w old) (after_write wrong_length file old))
      by true e = wrote_in_range (one_lent e) w.answer (write_in_range (contents a b (entries m) word) file refl)
      by false e = record { number = inr refl; room = refl; kept = refl; one = λ z. absurd (omega (arith, z)); size = λ z. absurd (omega (arith, z)); untouched = λ h. refl }

  -- a buffer with room for the largest file is never too short
  pub sled_write_room : 4624 ≤ length file → (write_call_of a b m word file old).number ≡ 14 → ⊥
  sled_write_room h e = by sled_write_in_range.number e
    where
      given : {section number : ℕ} → UnwrittenNumber file section number → number + 256 * section ≡ 14 → ⊥
      given {section} {number} (inl g) z = contents_not_14 section number g z
      given (inr s) z = omega (arith, s.short, h)

      by : {n : ℕ} → OrLength (ZeroOr (WithSection (UnwrittenNumber file))) n → n ≡ 14 → ⊥
      by (inl (inl z)) e = omega (arith, z, e)
      by (inl (inr g)) e = given g.given (sym g.both ∙ e)
      by (inr z) e = omega (arith, z, e)
