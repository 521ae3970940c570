-- `jobs::read` meets its contract: the first section that is refused decides, or 2, or the job. Behind each section that passes, the rest of the file decides (`Reached`).
use Rattle.whole.proofs.Laws.{◌≡◌, refl, sym, ap, ◌∙◌, subst, List, ℕ, ◌+◌, ◌*◌, arith, length, drop, length-drop, length-take-le}
use Rattle.refusals.specs.Types.{CutOff, WordCount, Refusal, Result, Ok, Err}
use Rattle.refusals.specs.Numbers.{number_of}
use Rattle.digits.proofs.Laws.{StoredSystem}
use Rattle.sections.specs.Section.{Section}
use Rattle.sections.specs.Section.{count_or}
use Rattle.sections.proofs.Laws.{count_says, Part, count_of, size_of, presence, Present, value_of, nothing, ◌then◌, Taken, Answered, present, not_there, answered, Reached, at_0, left, start, stops, goes, ended, followed}
use Rattle.jobs.specs.Types.{Reads, Reading}
use Rattle.job_sections.proofs.Laws.{FileRefusal, system, matrix, word, in_section, passes_section, refuses_section}
use Rattle.jobs.specs.Reading.{bytes_of, reading_of, refused, Parts, job, contents_of, read_as, read_of}
use Rattle.std.proofs.Common.{rules}
use Rattle.jobs.proofs.read.Goals.{In_ok-first, In_ok-second, In_ok-third, In_ok-length}
use Rattle.jobs.proofs.read.Goals as goal

abbrev answer : Parts → Reading
answer p = reading_of (contents_of p)

-- ---- what was answered about a section

module _ {A : Type 0} {s : Section A} {bytes : List ℕ} {o : Result (Part A) Refusal} (a : Answered s bytes o) (section : ℕ) {r : Result (Part A) FileRefusal} (is : r ≡ in_section o section) where
  passed : {p : Part A} → r ≡ Ok p → Answered s bytes (Ok p)
  passed e = subst (Answered s bytes) (passes_section section (sym is ∙ e)) a

  stopped : {f : FileRefusal} → r ≡ Err f → Answered s bytes (Err f.refusal)
  stopped e = subst (Answered s bytes) (refuses_section (sym is ∙ e)).0 a

-- a word is refused by its presence alone
word_there : {bytes : List ℕ} → 0 ≡ presence word.limits bytes → Answered word bytes (Ok (record { size = size_of word.limits bytes; value = value_of word bytes }))
word_there {bytes} e = answered word (present word.limits bytes (omega arith) e) refl refl refl

-- and has as many bytes as its count says
word_length : {bytes : List ℕ} → Present word.limits bytes → length (value_of word bytes) ≡ count_of bytes
word_length {bytes} p = omega (arith, length-take-le (1 * count_of bytes) (drop 2 bytes) (omega (arith, p.fits, length-drop 2 bytes)))

-- ---- how far the file has been read

-- behind the first system; behind the second; behind the matrix
behind_first : (file : List ℕ) {p : Part StoredSystem} → Answered system file (Ok p) →
    Reached (read_of file) file (system then (matrix then (word then nothing))) (λ b. answer (p.value, b)) refused 1 p.size
unfolding read_of
behind_first file a = goes (start job answer refused file) (at_0 file a) (omega arith)

first : (c : In_ok-first) → let p = c.in_ok-first.first in
    Reached (read_of c.args.file.now) c.args.file.now (system then (matrix then (word then nothing))) (λ b. answer (p.value, b)) refused 1 p.size
first c = behind_first c.args.file.now (passed c.system_section.ensures 0 c.in_section.ensures c.in_ok-first.was)

second : (c : In_ok-second) → let p = c.in_ok-first.first in let q = c.in_ok-second.second in
    Reached (read_of c.args.file.now) c.args.file.now (matrix then (word then nothing)) (λ b. answer (p.value, (q.value, b))) refused 2 (p.size + q.size)
second c =
    let f = behind_first c.args.file.now (passed c.system_section.ensures 0 c.in_section.ensures c.in_ok-first.was) in
    goes f (passed c.system_section-2.ensures 1 c.in_section-2.ensures c.in_ok-second.was) refl

third : (c : In_ok-third) → let p = c.in_ok-first.first in let q = c.in_ok-second.second in let m = c.in_ok-third.third in
    Reached (read_of c.args.file.now) c.args.file.now (word then nothing) (λ b. answer (p.value, (q.value, (m.value, b)))) refused 3 (p.size + q.size + m.size)
third c =
    let f = behind_first c.args.file.now (passed c.system_section.ensures 0 c.in_section.ensures c.in_ok-first.was) in
    let s = goes f (passed c.system_section-2.ensures 1 c.in_section-2.ensures c.in_ok-second.was) refl in
    goes s (passed c.matrix_section.ensures 2 c.in_section-3.ensures c.in_ok-third.was) refl

-- ---- a section that is refused

refuses_at : (f : FileRefusal) {r : Reading} {section : ℕ} → section ≡ f.section → refused (number_of f.refusal) section ≡ r → read_as (Err f) ≡ r
refuses_at f e h = ap (refused (number_of f.refusal)) (sym e) ∙ h

pub returns-in_err-first : goal.returns-in_err-first
unfolding read_of
returns-in_err-first c =
    let file = c.args.file.now in
    let f = c.in_err-first.field-0.0 in
    let e : c.from_residual.result ≡ Err f = search rules in
    let k = refuses_section (sym c.in_section.ensures ∙ c.in_err-first.was) in
    ap read_as e ∙ refuses_at f k.1 (stops (start job answer refused file) (at_0 file (stopped c.system_section.ensures 0 c.in_section.ensures c.in_err-first.was)))

pub returns-in_err-second : goal.returns-in_err-second
returns-in_err-second c =
    let p = goal.at.returns-in_err-second c in
    let f = c.in_err-second.field-0.0 in
    let e : c.from_residual-in_err-second.result ≡ Err f = search rules in
    let k = refuses_section (sym c.in_section-2.ensures ∙ c.in_err-second.was) in
    ap read_as e ∙ refuses_at f k.1 (stops (first p.In_ok-first) (stopped c.system_section-2.ensures 1 c.in_section-2.ensures c.in_err-second.was))

pub returns-in_err-third : goal.returns-in_err-third
returns-in_err-third c =
    let p = goal.at.returns-in_err-third c in
    let f = c.in_err-third.field-0.0 in
    let e : c.from_residual-in_err-third.result ≡ Err f = search rules in
    let k = refuses_section (sym c.in_section-3.ensures ∙ c.in_err-third.was) in
    ap read_as e ∙ refuses_at f k.1 (stops (second p.In_ok-second) (stopped c.matrix_section.ensures 2 c.in_section-3.ensures c.in_err-third.was))

-- a word's presence, where it is refused and where not
word_refused : {bytes : List ℕ} {o : Result ℕ Refusal} {r : Refusal} → o ≡ count_or CutOff WordCount 0 4096 1 bytes → o ≡ Err r → Answered word bytes (Err r)
word_refused is e = not_there word (count_says WordCount (sym e ∙ is)).number

record IsThere (bytes : List ℕ) (n : ℕ) : Type 0 where
  present : 0 ≡ presence word.limits bytes
  count : n ≡ count_of bytes

word_passed : {bytes : List ℕ} {o : Result ℕ Refusal} {n : ℕ} → o ≡ count_or CutOff WordCount 0 4096 1 bytes → o ≡ Ok n → IsThere bytes n
word_passed is e = let w = count_says WordCount (sym e ∙ is) in record { present = w.number; count = w.count }

pub overflow_add-length : goal.overflow_add-length
overflow_add-length c =
    let w = word_passed c.presence-length.ensures (passes_section 3 (sym c.in_section-4.ensures ∙ c.in_ok-length.was)) in
    omega (arith, w.count, (word_there w.present).taken.present.few)

pub returns-in_err-length : goal.returns-in_err-length
returns-in_err-length c =
    let p = goal.at.returns-in_err-length c in
    let f = c.in_err-length.field-0.0 in
    let e : c.from_residual-in_err-length.result ≡ Err f = search rules in
    let k = refuses_section (sym c.in_section-4.ensures ∙ c.in_err-length.was) in
    ap read_as e ∙ refuses_at f k.1 (stops (third p.In_ok-third) (word_refused c.presence-length.ensures k.0))

pub returns-then-length-rest : goal.returns-then-length-rest
returns-then-length-rest c =
    let t = third (goal.at.returns-then-length-rest c).In_ok-third in
    let w = word_passed c.presence-length.ensures (passes_section 3 (sym c.in_section-4.ensures ∙ c.in_ok-length.was)) in
    ap read_as c.in_section-then-length-rest.ensures ∙ followed (goes t (word_there w.present) refl) (omega (arith, left t, w.count, c.if-length-rest.true))

system_size : {bytes : List ℕ} {n : ℕ} {s : StoredSystem} → Taken system bytes n s → n ≡ bytes_of s
system_size t = t.size ∙ ap bytes_of (sym t.value)

pub returns : goal.returns
unfolding reading_of
returns c =
    let t = third (goal.at.returns c).In_ok-third in
    let n = word_passed c.presence-length.ensures (passes_section 3 (sym c.in_section-4.ensures ∙ c.in_ok-length.was)) in
    let w = word_there n.present in
    let p = c.in_ok-first.first in
    let q = c.in_ok-second.second in
    let m = (passed c.matrix_section.ensures 2 c.in_section-3.ensures c.in_ok-third.was).taken in
    let input = system_size (passed c.system_section.ensures 0 c.in_section.ensures c.in_ok-first.was).taken in
    let output = system_size (passed c.system_section-2.ensures 1 c.in_section-2.ensures c.in_ok-second.was).taken in
    let start : p.size + q.size + c.in_ok-third.third.size + 2 ≡ bytes_of p.value + bytes_of q.value + 10 + 2 = omega (arith, input, output, m.size, m.present.some, m.present.few) in
    let size = n.count ∙ sym (word_length w.taken.present) in
    (λ i. record {
      verdict = Reads;
      job = record { input = p.value; output = q.value; matrix = c.in_ok-third.third.value; word = record { start = start i; length = size i } };
    }) ∙ ended (goes t w refl) (omega (arith, left t, n.count, c.if-length-rest.false))
