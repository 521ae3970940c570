-- A job file is read exactly by its layout. `reads_exactly`: a file reads as a job exactly if it is that job's layout and the contents keep the rules. `refuses_exactly`: a
-- file is refused by a number in a section exactly if document 01's sentence for that number holds there and every section before keeps the rules. `read_says`: one of the
-- two is the case for every file. Each is what holds of every file of sections.
use Rattle.whole.proofs.Laws.{◌≡◌, refl, sym, ap, ap₂, ◌∙◌, subst, List, ◌++◌, append-nil, append_assoc, ◌↔◌, ℕ, ◌+◌, ◌≤◌, arith, length, take, drop, length-append, drop_at}
use Rattle.digits.proofs.Laws.{StoredSystem}
use Rattle.admission.proofs.Laws.{Admitted}
use Rattle.opening.proofs.Laws.{Opens}
use Rattle.sections.proofs.Laws.{Exact, reads, refuses}
use lib.Seq.{take-length}
use Rattle.sections.specs.Section.{Rules as Kept}
use Rattle.sections.specs.File.{Says as FileSays}
use Rattle.jobs.specs.Types.{Verdict, Reads, Refused, Reading}
use Rattle.job_sections.proofs.Laws.{Contents, two_bytes, system_bytes, matrix_bytes, word_bytes, layout_of, Bytes, SystemRules, Rules, system, admitted, opened, system_16, matrix_16, system_lawful, matrix_lawful, job_lawful, layout_size}
use Rattle.jobs.specs.Reading.{verdict_number, verdict_section, word_start, reading_of, refused, Parts, job, contents_of, parts_of, read_of}
use Rattle.jobs.specs.Reads.{ReadsAs}
use Rattle.jobs.specs.Refuses.{Refuses}

abbrev answer : Parts → Reading
answer p = reading_of (contents_of p)

exact : Exact job answer refused
exact = job_lawful Reading answer refused

-- ---- the file of sections has the layout, and the rules of its sections are the rules

pub same_layout : (c : Contents) → job.layout (parts_of c) ≡ layout_of c
same_layout c = ap (λ (l : List ℕ). system_bytes c.input ++ (system_bytes c.output ++ (matrix_bytes c.matrix ++ l))) (append-nil (word_bytes c.word))

kept_rules : (p : Parts) → job.Keeps p → Rules (contents_of p)
kept_rules p k = record {
  input = record { admissible = admitted p.0 k.0.kept; unused = k.0.sayable.unused };
  output = record { admissible = admitted p.1.0 k.1.0.kept; unused = k.1.0.sayable.unused };
  matrix = let m = k.1.1.0 in record { four = m.sayable.four; in_range = (opened m.kept).0; above = (opened m.kept).1 };
  word = k.1.1.1.0.sayable;
}

system_kept : (s : StoredSystem) → SystemRules s → Kept system s
system_kept s h = record {
  sayable = record { some_digits = h.admissible.some_digits; few_digits = h.admissible.few_digits; numbers = system_16 h; unused = h.unused };
  kept = record { answer = Admitted; numbered = refl; holds = h.admissible };
}

pub rules_kept : (c : Contents) → Rules c → job.Keeps (parts_of c)
rules_kept c h = (
  system_kept c.input h.input,
  (
    system_kept c.output h.output,
    (
      record { sayable = record { four = h.matrix.four; numbers = matrix_16 h.matrix }; kept = record { answer = Opens; numbered = refl; holds = (h.matrix.in_range, h.matrix.above) } },
      (record { sayable = h.word; kept = refl }, tt),
    ),
  ),
)

-- ---- what is answered is so

-- the file is a job's layout, or it is refused
abbrev pub Says : List ℕ → Verdict → Type 0
Says file Reads = (c : Contents) × Rules c × (file ≡ layout_of c)
Says file (Refused number section) = Refuses file number section

pub read_says : (file : List ℕ) → Bytes file → Says file (read_of file).verdict
unfolding read_of reading_of
read_says file b = by (read_of file) (exact.says file 0 b)
  where
    by : (r : Reading) → FileSays job answer refused file 0 r → Says file r.verdict
    by r (reads p k e) = (contents_of p, kept_rules p k, e ∙ same_layout (contents_of p))
    by r (refuses number section w) = w

-- and what is so is answered
pub refuses_read : (file : List ℕ) (number section : ℕ) → Refuses file number section → read_of file ≡ refused number section
unfolding read_of
refuses_read file number section r = exact.said file 0 _ (refuses number section r)

-- ---- exactly

pub refuses_exactly : (file : List ℕ) → Bytes file → (number section : ℕ) → ((read_of file).verdict ≡ Refused number section) ↔ Refuses file number section
refuses_exactly file b number section = (
  λ e. subst (Says file) e (read_says file b),
  λ r. ap (λ (a : Reading). a.verdict) (refuses_read file number section r),
)

-- the same by the answer's number and section: no refusal has the number 0
pub number_exactly : (file : List ℕ) → Bytes file → (number section : ℕ) → 1 ≤ number →
    ((verdict_number (read_of file).verdict ≡ number) × (verdict_section (read_of file).verdict ≡ section)) ↔ Refuses file number section
number_exactly file b number section above = (
  λ e. (refuses_exactly file b number section).0 (by (read_of file).verdict e.0 e.1),
  λ r. let e = (refuses_exactly file b number section).1 r in (ap verdict_number e, ap verdict_section e),
)
  where
    by : (v : Verdict) → verdict_number v ≡ number → verdict_section v ≡ section → v ≡ Refused number section
    by Reads e f = absurd (omega (arith, e, above))
    by (Refused n s) e f = ap₂ Refused e f

-- "A refused reading .. hands back its number (reading also the section), no job"
pub refused_no_job : (file : List ℕ) → Bytes file → (number section : ℕ) → (read_of file).verdict ≡ Refused number section → read_of file ≡ refused number section
refused_no_job file b number section e = refuses_read file number section ((refuses_exactly file b number section).0 e)

module _ (c : Contents) (h : Rules c) where
  -- all that stands before the word's bytes
  abbrev front : List ℕ
  front = system_bytes c.input ++ (system_bytes c.output ++ (matrix_bytes c.matrix ++ two_bytes (length c.word)))

  layout_is : layout_of c ≡ front ++ c.word
  layout_is =
      let m = matrix_bytes c.matrix in
      let o = system_bytes c.output in
      let t = two_bytes (length c.word) in
      sym (append_assoc (system_bytes c.input) (o ++ (m ++ t)) c.word ∙
      ap (λ (l : List ℕ). system_bytes c.input ++ l) (append_assoc o (m ++ t) c.word ∙ ap (λ (l : List ℕ). o ++ l) (append_assoc m t c.word)))

  front_length : length front ≡ word_start c
  front_length =
      let k = rules_kept c h in
      let m = matrix_bytes c.matrix in
      let o = system_bytes c.output in
      omega (
        arith,
        length-append (system_bytes c.input) (o ++ (m ++ two_bytes (length c.word))),
        length-append o (m ++ two_bytes (length c.word)),
        length-append m (two_bytes (length c.word)),
        (system_lawful.said c.input k.0.sayable).0.size,
        (system_lawful.said c.output k.1.0.sayable).0.size,
        (matrix_lawful.said c.matrix k.1.1.0.sayable).0.size,
      )

  pub layout_length : length (layout_of c) ≡ word_start c + length c.word
  layout_length = layout_size c h.matrix.four

  pub layout_reads : ReadsAs (layout_of c) c
  unfolding read_of
  layout_reads = record {
    answer = exact.said (layout_of c) 0 _ (reads (parts_of c) (rules_kept c h) (sym (same_layout c)));
    word = ap (λ (l : List ℕ). take (length c.word) (drop (word_start c) l)) layout_is ∙
        ap (take (length c.word)) (drop_at front c.word (word_start c) front_length) ∙ take-length c.word;
  }

-- two contents with one answer and one word are the same
one_contents : (file : List ℕ) {c d : Contents} → ReadsAs file c → ReadsAs file d → c ≡ d
unfolding reading_of
one_contents file {c} {d} p q = λ i. record {
  input = (e i).job.input;
  output = (e i).job.output;
  matrix = (e i).job.matrix;
  word = (sym p.word ∙ (λ j. take (e j).job.word.length (drop (e j).job.word.start file)) ∙ q.word) i;
}
  where
    e : reading_of c ≡ reading_of d
    e = sym p.answer ∙ q.answer

pub reads_exactly : (file : List ℕ) → Bytes file → (c : Contents) → ReadsAs file c ↔ (Rules c × (file ≡ layout_of c))
unfolding reading_of
reads_exactly file b c = (
  λ r. let w = subst (Says file) (ap (λ (a : Reading). a.verdict) r.answer) (read_says file b) in
      let there : ReadsAs file w.0 = subst (λ (f : List ℕ). ReadsAs f w.0) (sym w.2) (layout_reads w.0 w.1) in
      subst (λ (d : Contents). Rules d × (file ≡ layout_of d)) (one_contents file there r) (w.1, w.2),
  λ k. subst (λ (f : List ℕ). ReadsAs f c) (sym k.1) (layout_reads c k.0),
)

-- a file that reads is a job's layout, and the job is what is answered
pub record Laid (file : List ℕ) : Type 0 where
  pub contents : Contents
  pub rules : Rules contents
  pub layout : file ≡ layout_of contents
  pub answer : read_of file ≡ reading_of contents

pub reads_laid : (file : List ℕ) → Bytes file → (read_of file).verdict ≡ Reads → Laid file
reads_laid file b e =
    let w = subst (Says file) e (read_says file b) in
    record { contents = w.0; rules = w.1; layout = w.2; answer = ap read_of w.2 ∙ (layout_reads w.0 w.1).answer }

-- ---- how long a job file is

-- "The largest file is 4,624 bytes."
pub largest : (c : Contents) → Rules c → length (layout_of c) ≤ 4624
largest c h = omega (arith, exact.fits (parts_of c) (rules_kept c h), ap length (same_layout c))

-- 4,625 bytes settle every file: a program that reads no more gives the right answer, however long its input is
pub settled : (file : List ℕ) → read_of (take 4625 file) ≡ read_of file
unfolding read_of
settled file = exact.settled file 0 4625 (omega arith)

-- the word of a file that reads lies inside the file
pub word_inside : (file : List ℕ) → Bytes file → (read_of file).verdict ≡ Reads → (read_of file).job.word.start + (read_of file).job.word.length ≤ length file
unfolding reading_of
word_inside file b e =
    let w = reads_laid file b e in
    subst (λ (a : Reading). a.job.word.start + a.job.word.length ≤ length file) (sym w.answer) (omega (arith, ap length w.layout, layout_length w.contents w.rules))
