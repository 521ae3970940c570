-- `printed::respond` meets its contract: the file's refusal, or the run of the job that was read. The matrix of that job opens, the word lies inside the file, and what the
-- run has written inside the room.
use Rattle.whole.proofs.Laws.{◌≡◌, refl, sym, ap, ap₂, ◌∙◌, subst, List, ℕ, ◌+◌, ◌-◌, ◌≤◌, arith, length, take, drop, length-append, length-take-le}
use Rattle.std.specs.Prelude.{IsOk}
use Rattle.refusals.specs.Types.{Refusal, Result, Ok, Err}
use Rattle.refusals.specs.Numbers.{number_of, outcome_number}
use Rattle.refusals.proofs.Numbers.{numbered}
use Rattle.digits.proofs.Laws.{system_of}
use Rattle.states.proofs.Laws.{State}
use Rattle.unary.proofs.Laws.{Ran, run_of, in_range}
use Rattle.opening.specs.Opening.{started}
use Rattle.opening.proofs.Laws.{open_of, Start, Opens}
use Rattle.job_sections.proofs.Laws.{Bytes, FileRefusal}
use Rattle.jobs.specs.Reading.{read_as}
use Rattle.jobs.proofs.Laws.{read_of, refused, Job, Reads, Reading, word_inside, read_never_refused}
use Rattle.text.proofs.Laws.{Wrote, wrote_as, from_front}
use Rattle.lines.specs.Lines.{refused_text}
use Rattle.printed.specs.Responds.{Responds}
use Rattle.printed.specs.Text.{program_list, run_in, ran_text, printed_by, printed, filled_on, filled_by}
use Rattle.printed.proofs.respond.Goals as goal

-- what is written from the front on, by what was read
answered : {new : List ℕ} {n : ℕ} {file room room' old : List ℕ} (r : Reading) → r ≡ read_of file → 40000 ≤ length old →
    Wrote old 0 (printed_by file r.job room r.verdict) 40000 new n → room' ≡ filled_on file r.job room r.verdict → Responds file room room' old new n
unfolding printed filled_by
answered {new} {n} {file} {room} r e h w d =
    let p = wrote_as (ap (λ (a : Reading). printed_by file a.job room a.verdict) e) w in
    let t = from_front p h in
    let l : n ≤ length new = omega (arith, simp length-append at (ap length t), p.place) in
    record {
      size = omega (arith, p.place);
      text = t;
      digits = d ∙ ap (λ (a : Reading). filled_on file a.job room a.verdict) e;
      inside = l;
      front = sym (length-take-le n new l);
    }

-- a job that was read, or the refusal
job_read : (file : List ℕ) {r : Result Job FileRefusal} {j : Job} → read_as r ≡ read_of file → r ≡ Ok j → record { verdict = Reads; job = j } ≡ read_of file
job_read file e is = sym (ap read_as is) ∙ e

refused_so : (file : List ℕ) {r : Result Job FileRefusal} {f : FileRefusal} → read_as r ≡ read_of file → r ≡ Err f → refused (number_of f.refusal) f.section ≡ read_of file
refused_so file e is = sym (ap read_as is) ∙ e

module _ (file : List ℕ) {j : Job} (e : record { verdict = Reads; job = j } ≡ read_of file) where
  -- its word lies inside the file
  inside : Bytes file → j.word.start + j.word.length ≤ length file
  inside bytes = subst (λ (a : Reading). a.job.word.start + a.job.word.length ≤ length file) (sym e) (word_inside file bytes (sym (ap (λ (a : Reading). a.verdict) e)))

  -- its matrix opens
  opened : Bytes file → (open_of j.matrix).opening ≡ Opens
  opened bytes = subst (λ (a : Reading). (open_of a.job.matrix).opening ≡ Opens) (sym e) (read_never_refused file bytes (sym (ap (λ (a : Reading). a.verdict) e))).opening

  -- the run that was made is the job's
  made : (digits : List ℕ) {o : Result State Refusal} {s : State} {x : Ran} → started o ≡ open_of j.matrix → o ≡ Ok s →
      x ≡ run_of (system_of j.input) (system_of j.output) s (take (j.word.start + j.word.length - j.word.start) (drop j.word.start file)) digits program_list →
      x ≡ run_in file j digits
  made digits o-is is h =
      let n : j.word.start + j.word.length - j.word.start ≡ j.word.length = omega arith in
      h ∙
      ap₂ (λ (st : State) (k : ℕ). run_of (system_of j.input) (system_of j.output) st (take k (drop j.word.start file)) digits program_list)
      (ap (λ (a : Start). a.state) (sym (ap started is) ∙ o-is)) n

is_open : (o : Result State Refusal) → (started o).opening ≡ Opens → IsOk o
is_open (Ok s) e = refl
is_open (Err r) e = absurd (omega (arith, numbered r, ap outcome_number e))

pub returns-in-Err : goal.returns-in-Err
returns-in-Err c =
    let f = c.in-Err.refused in
    answered (refused (number_of f.refusal) f.section) (refused_so _ c.read.ensures c.in-Err.is) c.requires.1
    (wrote_as (ap (λ (k : ℕ). refused_text k f.section) c.number.ensures) c.put_refusal.ensures) refl

pub unwrap-state-requires : goal.unwrap-state-requires
unwrap-state-requires c =
    let bytes : Bytes c.args.file.now = record { byte = λ i. omega (arith, c.type_inv.file i) } in
    is_open _ (ap (λ (a : Start). a.opening) c.open.ensures ∙ opened _ (job_read _ c.read.ensures c.in-Ok.is) bytes)

pub put_answer-requires : goal.put_answer-requires
put_answer-requires c =
    let file = c.args.file.now in
    let digits = c.args.digits.now in
    let j = c.in-Ok.job in
    let i = in_range (system_of j.input) (system_of j.output) (open_of j.matrix).state (take j.word.length (drop j.word.start file)) digits program_list in
    subst (λ (a : Ran). (40000 ≤ length c.args.out.now) × (length a.output ≤ 8192) × (a.answer.written.0 ≤ length a.output))
    (sym (made _ (job_read _ c.read.ensures c.in-Ok.is) digits c.open.ensures c.unwrap-state.ensures c.run-answer.ensures))
    (c.requires.1, omega (arith, i.room, c.requires), omega (arith, i.room, i.written))

pub returns : goal.returns
returns c =
    let e = job_read _ c.read.ensures c.in-Ok.is in
    let m = made _ e c.args.digits.now c.open.ensures c.unwrap-state.ensures c.run-answer.ensures in
    answered _ e c.requires.1 (wrote_as (ap ran_text m) c.put_answer.ensures) (ap (λ (a : Ran). a.output) m)

pub overflow_add-end : goal.overflow_add-end
overflow_add-end c =
    let bytes : Bytes c.args.file.now = record { byte = λ i. omega (arith, c.type_inv.file i) } in
    omega (arith, inside _ (job_read _ c.read.ensures c.in-Ok.is) bytes)

pub slice_bounds-run-end : goal.slice_bounds-run-end
slice_bounds-run-end c =
    let bytes : Bytes c.args.file.now = record { byte = λ i. omega (arith, c.type_inv.file i) } in
    inside _ (job_read _ c.read.ensures c.in-Ok.is) bytes
