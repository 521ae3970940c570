-- Job files through the C functions: what sled_write has written, sled_read reads as the same job (`sled_written_reads`); and what sled_read has read, sled_write writes again
-- byte for byte (`sled_read_again`).
use Rattle.whole.proofs.Laws.{◌≡◌, refl, ap, ◌∙◌, Bool, true, false, cond, List, [], ◌∷◌, ℕ, ◌≤◌, arith, eq-eqb, length, get_or, take, drop, ℤ, pos, front_written, written}
use Rattle.plane.proofs.Laws.{entries}
use Rattle.digits.proofs.Laws.{StoredSystem}
use Rattle.job_sections.proofs.Laws.{Bytes, Contents, layout_of, Rules}
use Rattle.job_writing.proofs.Laws.{Wrote, contents, write_of}
use Rattle.jobs.proofs.Laws.{Reading, Reads, read_of, reading_of, verdict_number, layout_reads}
use Rattle.round_trips.proofs.Laws.{Outcome, WriteRefuses, as_read, refuses, saves, too_short, unwritable, write_says, read_again}
use Rattle.numbers.proofs.Laws.{wrong_length, known}
use Rattle.read_call.specs.ReadCall.{AfterRead, after_read, read_lengths?, read_number, reading_call, read_call_of}
use Rattle.write_call.specs.WriteCall.{AfterWrite, after_write, wrote_call, write_lengths?, write_call_of}
use Rattle.answers.specs.Calls.{job_from}
use Rattle.answers.proofs.Laws.{contents_number, contents_above, read_in_range}
use Rattle.plugin_sessions.proofs.Shared.{answers_0, next_0, columns_128}

-- ---- written, and read

module _ (a b : StoredSystem) (m : List ℤ) (word file old : List ℕ) (bytes : Bytes word) where
  -- what is saved, as it is read
  abbrev job : Contents
  job = as_read (contents a b (entries m) word)

  refused_above : {number section : ℕ} → WriteRefuses (contents a b (entries m) word) file number section → 1 ≤ number
  refused_above {number} {section} (unwritable u) = contents_above section number (contents_number (contents a b (entries m) word) number section u)
  refused_above (too_short rules less) = omega arith

  called : (t : Bool) (w : Wrote) → (cond t (wrote_call w old) (after_write wrong_length file old)).number ≡ 0 → Outcome (contents a b (entries m) word) file w →
      (cond t (wrote_call w old) (after_write wrong_length file old) ≡ after_write 0 (written (layout_of job) file) (length (layout_of job) ∷ [])) × Rules job
  called true w e (saves rules room) = (refl, rules)
  called true w e (refuses r) = absurd (omega (arith, e, refused_above r))
  called false w e o = absurd (omega (arith, e))

  pub sled_written_reads : let r = write_call_of a b m word file old in r.number ≡ 0 → (in_columns out_columns n : List ℤ) (found : List ℕ) →
      read_call_of (take (get_or r.written 0 0) r.file) in_columns out_columns n found ≡ reading_call (reading_of job) in_columns out_columns n found
  unfolding write_call_of read_call_of
  sled_written_reads e in_columns out_columns n found =
      let s = called (write_lengths? a b m old) (write_of (contents a b (entries m) word) file) e (write_says (contents a b (entries m) word) file (record { four = refl; bytes = bytes })) in
      let file = ap (λ (r : AfterWrite). take (get_or r.written 0 0) r.file) s.0 ∙ front_written (layout_of job) file in
      ap (λ (l : List ℕ). reading_call (read_of l) in_columns out_columns n found) file ∙
      ap (λ (r : Reading). reading_call r in_columns out_columns n found) (layout_reads job s.1).answer

-- ---- read, and written again

-- a job's numbers, written again
job_again : (file : List ℕ) → Bytes file → (read_of file).verdict ≡ Reads → (buffer old : List ℕ) → length file ≤ length buffer → length old ≡ 1 → let j = (read_of file).job in
    write_call_of j.input j.output (entries j.matrix) (take j.word.length (drop j.word.start file)) buffer old ≡ after_write 0 (written file buffer) (length file ∷ [])
unfolding write_call_of
job_again file b v buffer old room one =
    let j = (read_of file).job in
    let k = (read_in_range file b).job (ap verdict_number v) in
    let w = take j.word.length (drop j.word.start file) in
    let four : entries (entries j.matrix) ≡ j.matrix = rw (known (pos 0) 4 j.matrix k.matrix.four) in
    rw (eq-eqb (length j.input.columns) 128 (columns_128 k.input), eq-eqb (length j.output.columns) 128 (columns_128 k.output), eq-eqb (length old) 1 one)
    (ap (λ (w : Wrote). wrote_call w old) (ap (λ (l : List ℤ). write_of (contents j.input j.output l w) buffer) four ∙ read_again file b v buffer room))

pub sled_read_again : (file : List ℕ) → Bytes file → (in_columns out_columns m : List ℤ) (found : List ℕ) → let r = read_call_of file in_columns out_columns m found in
    r.number ≡ 0 → (buffer old : List ℕ) → length file ≤ length buffer → length old ≡ 1 → let j = job_from r in
    write_call_of j.input j.output j.matrix (take j.word.length (drop j.word.start file)) buffer old ≡ after_write 0 (written file buffer) (length file ∷ [])
unfolding read_call_of
sled_read_again file b in_columns out_columns m found e buffer old room one =
    let r = next_0 (λ (r : AfterRead). r.number) {refuse = λ k. after_read k in_columns out_columns m found} (λ k. refl)
    (read_number (length in_columns) (length out_columns) (length m) (length found) (read_of file).verdict) e in
    let right = answers_0 (λ (n : ℕ). n) refl (read_lengths? (length in_columns) (length out_columns) (length m) (length found)) r.0 in
    ap (λ (q : AfterRead). let j = job_from q in write_call_of j.input j.output j.matrix (take j.word.length (drop j.word.start file)) buffer old) r.1 ∙
    job_again file b ((read_in_range file b).reads (omega (arith, right.1, r.0))) buffer old room one
