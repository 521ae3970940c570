-- "What is written reads back as the same job, unused digits as 0, and a file that reads is written again byte for byte. Refusals: those of the reader for the same contents".
use Rattle.whole.proofs.Laws.{◌≡◌, refl, sym, ap, ap₂, ◌∙◌, subst, List, ◌++◌, ℕ, ◌≤◌, length, take, front_written, written, ℤ}
use Rattle.digits.proofs.Laws.{StoredSystem, rows_of, columns_of}
use Rattle.admission.proofs.Laws.{refusal_number}
use Rattle.sections.proofs.Laws.{ExactOf, writes, refuses_value, Counted, Told}
use Rattle.job_sections.proofs.Laws.{Contents, Bytes, two_bytes, numbers_bytes, layout_of, Rules, Sixteen, Parts, job, parts_of, contents_of, system, written_job, written_job_lawful}
use Rattle.job_writing.proofs.Laws.{Writing, Written, NotWritten, wrote, judged_of, write_of, Says, judged_says, said_judged, written_not_refused}
use Rattle.jobs.proofs.Laws.{Reading, Reads, read_of, reading_of, refused, ReadsAs, reads_exactly, layout_reads, reads_laid, same_layout}
use Rattle.round_trips.specs.Again.{read_contents, read_by}
use Rattle.round_trips.proofs.AsRead.{same_rows, same_judged, writes_as_read}
use Rattle.round_trips.proofs.Outcomes.{said_written, written_is_layout}
use Rattle.round_trips.specs.Writes.{Handed, InBytes, as_read, cleared, saves}

-- ---- "What is written reads back as the same job, unused digits as 0"

pub written_reads : (c : Contents) (buffer : List ℕ) → Handed c → {n : ℕ} → (write_of c buffer).answer ≡ Written n → ReadsAs (take n (write_of c buffer).buffer) (as_read c)
written_reads c buffer h e =
    let w = written_is_layout c buffer h e in
    subst (λ (file : List ℕ). ReadsAs file (as_read c)) (sym (ap₂ (λ (n : ℕ) (l : List ℕ). take n l) w.size w.bytes ∙ front_written (layout_of (as_read c)) buffer)) (layout_reads (as_read c) w.rules)

-- ---- "a file that reads is written again byte for byte"

-- what keeps the rules has 0 in unused places already
as_it_is : (c : Contents) → Rules c → as_read c ≡ c
as_it_is c h = λ i. record {
  input = record { count = c.input.count; columns = sym h.input.unused i };
  output = record { count = c.output.count; columns = sym h.output.unused i };
  matrix = c.matrix;
  word = c.word;
}

rules_write : (c : Contents) (buffer : List ℕ) → Rules c → length (layout_of c) ≤ length buffer → write_of c buffer ≡ wrote (Written (length (layout_of c))) (written (layout_of c) buffer)
rules_write c buffer h room =
    let e = as_it_is c h in
    said_written c buffer _ (saves (subst Rules (sym e) h) (subst (λ (d : Contents). length (layout_of d) ≤ length buffer) (sym e) room)) ∙
    ap (λ (d : Contents). wrote (Written (length (layout_of d))) (written (layout_of d) buffer)) e

pub read_writes : (file : List ℕ) → Bytes file → (c : Contents) → ReadsAs file c → (buffer : List ℕ) → length file ≤ length buffer →
    write_of c buffer ≡ wrote (Written (length file)) (written file buffer)
read_writes file b c r buffer room =
    let k = (reads_exactly file b c).0 r in
    rules_write c buffer k.0 (subst (λ (l : List ℕ). length l ≤ length buffer) k.1 room) ∙ ap (λ (l : List ℕ). wrote (Written (length l)) (written l buffer)) (sym k.1)

-- the same of what `read` answers
pub read_again : (file : List ℕ) → Bytes file → (read_of file).verdict ≡ Reads → (buffer : List ℕ) → length file ≤ length buffer →
    write_of (read_contents file (read_of file).job) buffer ≡ wrote (Written (length file)) (written file buffer)
unfolding reading_of
read_again file b e buffer room =
    let w = reads_laid file b e in
    let c = w.contents in
    let there : ReadsAs file c = subst (λ (l : List ℕ). ReadsAs l c) (sym w.layout) (layout_reads c w.rules) in
    let same : read_contents file (read_of file).job ≡ c = ap (λ (a : Reading). read_contents file a.job) w.answer ∙ (λ i. record { input = c.input; output = c.output; matrix = c.matrix; word = there.word i }) in
    ap (λ (d : Contents). write_of d buffer) same ∙ read_writes file b c there buffer room

-- ---- "Refusals: those of the reader for the same contents"

told_system : (s : StoredSystem) → Sixteen (rows_of s) → Counted system s → Told system s (cleared s)
told_system s h c = record {
  sayable = record {
    some_digits = c.some;
    few_digits = c.few;
    numbers = subst Sixteen (sym (same_rows s c.few)) h;
    unused = ap columns_of (sym (same_rows s c.few));
  };
  bytes = ap (λ (l : List ℤ). two_bytes s.count ++ numbers_bytes l) (sym (same_rows s c.few));
  number = ap refusal_number (same_judged s);
}

abbrev answer : Parts → Reading
answer p = reading_of (contents_of p)

exact : ExactOf {A = Parts} written_job answer refused
exact = written_job_lawful Reading answer refused

-- the file that would be written of contents whose numbers bytes can say is read, or refused, as the writer judges
pub refused_as_read : (c : Contents) → InBytes c → read_of (layout_of c) ≡ read_by c (judged_of c)
unfolding read_of
refused_as_read c h =
    ap (job.read answer refused 0) (sym (same_layout c)) ∙
    exact.read_as_judged (parts_of c) (parts_of (as_read c)) 0
    (told_system c.input h.input, (told_system c.output h.output, ((λ k. record { sayable = h.matrix; bytes = refl; number = refl }), ((λ k. record { sayable = record { short = k.few; bytes = h.word }; bytes = refl; number = refl }), tt)))) ∙
    by (judged_of c) (judged_says c)
  where
    by : (r : Writing) → Says c r → written_job.judge refused (answer (parts_of (as_read c))) 0 (parts_of c) ≡ read_by c r
    by r (writes k) = exact.said_of _ (parts_of c) 0 _ (writes k)
    by r (refuses_value number section u) = exact.said_of _ (parts_of c) 0 _ (refuses_value number section u)

-- no file with contents that are refused reads, whatever its bytes
pub refused_never_reads : (c : Contents) {number section : ℕ} → judged_of c ≡ NotWritten number section → (file : List ℕ) → Bytes file → ReadsAs file (as_read c) → ⊥
refused_never_reads c e file b r = written_not_refused (sym (said_judged c _ (writes (writes_as_read c ((reads_exactly file b (as_read c)).0 r).0))) ∙ e)
