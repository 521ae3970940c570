-- A job that is read opens a session: of `jobs::read` (`read_opens`), and of sled_read and then sled_open (`sled_read_opens`), whose numbers are lent to sled_run as the
-- header says: found[0] and the input system's columns, found[1] and the output system's.
-- The argument: what reads keeps the rules of document 01 (crates/jobs, crates/answers), so both systems are admitted and the matrix opens.
use Rattle.whole.proofs.Laws.{◌≡◌, List, ℕ, length, ℤ, pos, eq-eqb, unless_refused}
use Rattle.plane.proofs.Laws.{entries}
use Rattle.digits.proofs.Laws.{StoredSystem, system_of}
use Rattle.admission.proofs.Laws.{Admitted, admitted_exactly}
use Rattle.runs.proofs.Laws.{nothing}
use Rattle.steps.proofs.Laws.{setting}
use Rattle.opening.proofs.Laws.{Opens, open_of, opens}
use Rattle.judging.proofs.Laws.{accepted}
use Rattle.job_sections.proofs.Laws.{Bytes, SystemRules, MatrixRules}
use Rattle.jobs.proofs.Laws.{Reads, read_of, read_never_refused}
use Rattle.meaning.proofs.Laws.{newly_opened}
use Rattle.meaning.specs.Session.{Session}
use Rattle.numbers.proofs.Laws.{known}
use Rattle.open_call.proofs.Laws.{open_call_of}
use Rattle.read_call.proofs.Laws.{read_call_of}
use Rattle.plugin.specs.Calls.{admit_number}
use Rattle.answers.specs.Calls.{job_from}
use Rattle.answers.proofs.Laws.{sled_read_in_range}
use Rattle.plugin_sessions.specs.PluginSession.{PluginSession, opened}
use Rattle.plugin_sessions.proofs.Shared.{columns_128}

-- ---- read

pub read_opens : (file : List ℕ) → Bytes file → (read_of file).verdict ≡ Reads →
    let j = (read_of file).job in Session (system_of j.input) (system_of j.output) j.matrix nothing (open_of j.matrix).state
read_opens file b e =
    let j = (read_of file).job in
    let r = read_never_refused file b e in
    let a = (accepted (setting (system_of j.input) (system_of j.output)) (open_of j.matrix).state).0 r.judged in
    newly_opened ((admitted_exactly (system_of j.input) Admitted).0 a.input) ((admitted_exactly (system_of j.output) Admitted).0 a.output) r.opening

-- ---- sled_read

-- a system that was read is admitted by its columns
admits_read : (s : StoredSystem) → SystemRules s → admit_number s ≡ 0
unfolding admit_number
admits_read s h = rw (eq-eqb (length s.columns) 128 (columns_128 h), (admitted_exactly (system_of s) Admitted).1 h.admissible)

opens_matrix : (m old : List ℤ) → MatrixRules m → length old ≡ 5 → (open_call_of m old).number ≡ 0
unfolding open_call_of unless_refused
opens_matrix m old h five =
    let same : entries m ≡ m = rw (known (pos 0) 4 m h.four) in
    rw (eq-eqb (length m) 4 h.four, eq-eqb (length old) 5 five, same, (opens m Opens).1 (h.in_range, h.above))

pub sled_read_opens : (file : List ℕ) → Bytes file → (in_columns out_columns m : List ℤ) (found : List ℕ) →
    let r = read_call_of file in_columns out_columns m found in
    r.number ≡ 0 → (old : List ℤ) → length old ≡ 5 → PluginSession (job_from r).input (job_from r).output r.matrix nothing (open_call_of r.matrix old).numbers
sled_read_opens file b in_columns out_columns m found e old five =
    let r = read_call_of file in_columns out_columns m found in
    let job = (sled_read_in_range file b in_columns out_columns m found).job e in
    opened (admits_read (job_from r).input job.input) (admits_read (job_from r).output job.output) old (opens_matrix r.matrix old job.matrix five)
