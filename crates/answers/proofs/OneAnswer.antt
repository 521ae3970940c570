-- "That no second answer fits is itself proved": whatever two answers keep a function's promise, with whatever they leave in what they were lent, they are the same.
-- Each promise is an equation with one value, which both answers then are (`one`). First the library's functions, then the C functions; a function of ours that is lent
-- systems promises the same of them as one that is handed them (`admission_of`, `run_lent`), so it is the same theorem.
-- What answers a `Result` promises what that stands for: a number (`outcome_number`), a start (`started`), a reading (`read_as`), what is written (`written_as`). No two results
-- stand for the same (`outcome_one`, `started_one`, `read_as_one`, `written_as_one`), since no two refusals have one number and none has 0; so no second result fits either.
use Rattle.whole.proofs.Laws.{◌≡◌, refl, sym, ap, ◌∙◌, true, List, ◌++◌, ℕ, arith, ℤ, drop}
use Rattle.refusals.specs.Types.{Refusal, Result, Ok, Err}
use Rattle.refusals.specs.Numbers.{Judgement, number_of, outcome_number}
use Rattle.refusals.proofs.Numbers.{one_refusal as same_refusal, numbered}
use Rattle.digits.proofs.Laws.{StoredSystem, System, stored}
use Rattle.admission.specs.Types.{Admission}
use Rattle.admission.proofs.Laws.{admission_of, refusal_number}
use Rattle.states.proofs.Laws.{State, Stop, end_number}
use Rattle.steps.proofs.Laws.{Setting}
use Rattle.opening.proofs.Laws.{Opening, Start, opening_number, opening_of, open_of, started}
use Rattle.judging.proofs.Laws.{refusal_by, refusal_of}
use Rattle.unary.proofs.Laws.{Answer, ran, run_of}
use Rattle.job_sections.proofs.Laws.{Contents}
use Rattle.job_sections.specs.Types.{FileRefusal}
use Rattle.job_writing.proofs.Laws.{Writing, Wrote, wrote as wroteFile, write_of}
use Rattle.job_writing.specs.Writing.{written_as, writing_number, writing_section, written_bytes}
use Rattle.jobs.proofs.Laws.{Job, Reading, read_of}
use Rattle.jobs.specs.Reading.{read_as, verdict_number, verdict_section}
use Rattle.printed.specs.Text.{printed}
use Rattle.printed.specs.Responds.{Responds}
use Rattle.numbers.proofs.Laws.{wrote, handed_out}
use Rattle.open_call.proofs.Laws.{open_call_of}
use Rattle.columns_call.proofs.Laws.{columns_call_of, rows_call}
use Rattle.run_call.proofs.Laws.{AfterRun, run_call_of}
use Rattle.read_call.proofs.Laws.{AfterRead, read_call_of}
use Rattle.write_call.proofs.Laws.{AfterWrite, write_call_of}
use Rattle.two_states.proofs.Laws.{TwoState}
use Rattle.binary.proofs.Laws.{TwoAnswer, two_ran, two_run}
use Rattle.two_call.proofs.Laws.{AfterTwo, two_opened, two_call_of}
use Rattle.plugin.specs.Calls.{admit_number}

one : {A : Type 0} {value r r' : A} → r ≡ value → r' ≡ value → r ≡ r'
one p q = p ∙ sym q

-- ---- no two results stand for the same

one_of_file : (f g : FileRefusal) → number_of f.refusal ≡ number_of g.refusal → f.section ≡ g.section → f ≡ g
one_of_file f g e s = λ i. record { refusal = same_refusal e i; section = s i }

pub outcome_one : (v w : Judgement) → outcome_number v ≡ outcome_number w → v ≡ w
outcome_one (Ok u) (Ok v) e = refl
outcome_one (Ok u) (Err r) e = absurd (omega (arith, e, numbered r))
outcome_one (Err r) (Ok u) e = absurd (omega (arith, e, numbered r))
outcome_one (Err r) (Err q) e = ap Err (same_refusal e)

pub started_one : (v w : Result State Refusal) → started v ≡ started w → v ≡ w
started_one (Ok s) (Ok t) e = ap (λ (x : Start). Ok x.state) e
started_one (Ok s) (Err r) e = let n = ap (λ (x : Start). opening_number x.opening) e in absurd (omega (arith, n, numbered r))
started_one (Err r) (Ok s) e = let n = ap (λ (x : Start). opening_number x.opening) e in absurd (omega (arith, n, numbered r))
started_one (Err r) (Err q) e = ap Err (same_refusal (ap (λ (x : Start). opening_number x.opening) e))

pub read_as_one : (v w : Result Job FileRefusal) → read_as v ≡ read_as w → v ≡ w
read_as_one (Ok j) (Ok k) e = ap (λ (x : Reading). Ok x.job) e
read_as_one (Ok j) (Err f) e = let n = ap (λ (x : Reading). verdict_number x.verdict) e in absurd (omega (arith, n, numbered f.refusal))
read_as_one (Err f) (Ok j) e = let n = ap (λ (x : Reading). verdict_number x.verdict) e in absurd (omega (arith, n, numbered f.refusal))
read_as_one (Err f) (Err g) e = ap Err (one_of_file f g (ap (λ (x : Reading). verdict_number x.verdict) e) (ap (λ (x : Reading). verdict_section x.verdict) e))

pub written_as_one : (v w : Result ℕ FileRefusal) → written_as v ≡ written_as w → v ≡ w
written_as_one (Ok n) (Ok m) e = ap (λ (x : Writing). Ok (written_bytes x)) e
written_as_one (Ok n) (Err f) e = let z = ap writing_number e in absurd (omega (arith, z, numbered f.refusal))
written_as_one (Err f) (Ok n) e = let z = ap writing_number e in absurd (omega (arith, z, numbered f.refusal))
written_as_one (Err f) (Err g) e = ap Err (one_of_file f g (ap writing_number e) (ap writing_section e))

-- ---- the library's functions

-- system_r, system_b, system_d
pub one_system : (table : List (List ℤ)) (s s' : StoredSystem) → s ≡ stored table → s' ≡ stored table → s ≡ s'
one_system table s s' = one

-- admit, admission_of
pub one_admission : (s : System) (r r' : Admission) → r ≡ admission_of s → r' ≡ admission_of s → r ≡ r'
one_admission s r r' = one

-- number; outcome_number, of what a system and of what a matrix is judged as; end_number
pub one_number : (r : Refusal) (n n' : ℕ) → n ≡ number_of r → n' ≡ number_of r → n ≡ n'
one_number r n n' = one

pub one_refusal_number : (v : Admission) (r r' : ℕ) → r ≡ refusal_number v → r' ≡ refusal_number v → r ≡ r'
one_refusal_number v r r' = one

pub one_opening_number : (v : Opening) (r r' : ℕ) → r ≡ opening_number v → r' ≡ opening_number v → r ≡ r'
one_opening_number v r r' = one

pub one_end_number : (e : Stop) (r r' : ℕ) → r ≡ end_number e → r' ≡ end_number e → r ≡ r'
one_end_number e r r' = one

-- opening_of, open
pub one_judgement : (m : List ℤ) (r r' : Opening) → r ≡ opening_of m → r' ≡ opening_of m → r ≡ r'
one_judgement m r r' = one

pub one_opening : (m : List ℤ) (r r' : Start) → r ≡ open_of m → r' ≡ open_of m → r ≡ r'
one_opening m r r' = one

pub one_opened : (m : List ℤ) (r r' : Result State Refusal) → started r ≡ open_of m → started r' ≡ open_of m → r ≡ r'
one_opened m r r' p q = started_one r r' (one p q)

-- judging::refusal, judging::systems_refusal
pub one_refusal : (y : Setting) (s : State) (r r' : ℕ) → r ≡ refusal_of y s → r' ≡ refusal_of y s → r ≡ r'
one_refusal y s r r' = one

pub one_refused : (y : Setting) (s : State) (r r' : Judgement) → outcome_number r ≡ refusal_of y s → outcome_number r' ≡ refusal_of y s → r ≡ r'
one_refused y s r r' p q = outcome_one r r' (one p q)

pub one_systems_refused : (y : Setting) (r r' : Judgement) → outcome_number r ≡ refusal_by y true → outcome_number r' ≡ refusal_by y true → r ≡ r'
one_systems_refused y r r' p q = outcome_one r r' (one p q)

-- run, run_lent: the answer, and the output and the list afterwards
pub one_run : (a b : System) (s : State) (input output divisors : List ℕ) (r r' : Answer) (new new' list list' : List ℕ) →
    ran r new list ≡ run_of a b s input output divisors → ran r' new' list' ≡ run_of a b s input output divisors → ran r new list ≡ ran r' new' list'
one_run a b s input output divisors r r' new new' list list' = one

-- the same over two words; and its openings
pub one_two_run : (a b : System) (s : TwoState) (xs ys output : List ℕ) (r r' : TwoAnswer) (new new' : List ℕ) →
    two_ran r new ≡ two_run a b s xs ys output → two_ran r' new' ≡ two_run a b s xs ys output → two_ran r new ≡ two_ran r' new'
one_two_run a b s xs ys output r r' new new' = one

pub one_two_opening : (s r r' : TwoState) → r ≡ s → r' ≡ s → r ≡ r'
one_two_opening s r r' = one

-- read
pub one_reading : (file : List ℕ) (r r' : Reading) → r ≡ read_of file → r' ≡ read_of file → r ≡ r'
one_reading file r r' = one

pub one_read : (file : List ℕ) (r r' : Result Job FileRefusal) → read_as r ≡ read_of file → read_as r' ≡ read_of file → r ≡ r'
one_read file r r' p q = read_as_one r r' (one p q)

-- write, write_lent: the answer, and the buffer afterwards
pub one_write : (c : Contents) (buffer : List ℕ) (x y : Wrote) → x ≡ write_of c buffer → y ≡ write_of c buffer → x ≡ y
one_write c buffer x y = one

pub one_written : (c : Contents) (buffer : List ℕ) (r r' : Result ℕ FileRefusal) (new new' : List ℕ) →
    wroteFile (written_as r) new ≡ write_of c buffer → wroteFile (written_as r') new' ≡ write_of c buffer → (r ≡ r') × (new ≡ new')
one_written c buffer r r' new new' p q = let e = one p q in (written_as_one r r' (ap (λ (w : Wrote). w.answer) e), ap (λ (w : Wrote). w.buffer) e)

-- respond: how many bytes, the buffer afterwards, and the room for the digits afterwards
pub one_response : (file room old room₁ room₂ new₁ new₂ : List ℕ) (r₁ r₂ : ℕ) →
    Responds file room room₁ old new₁ r₁ → Responds file room room₂ old new₂ r₂ → (r₁ ≡ r₂) × (new₁ ≡ new₂) × (room₁ ≡ room₂)
one_response file room old room₁ room₂ new₁ new₂ r₁ r₂ p q =
    let size = one p.size q.size in
    (size, p.text ∙ ap (λ (n : ℕ). printed file room ++ drop n old) size ∙ sym q.text, one p.digits q.digits)

-- ---- the C functions: the number, and whatever is written

pub one_sled_admit : (s : StoredSystem) (r r' : ℕ) → r ≡ admit_number s → r' ≡ admit_number s → r ≡ r'
one_sled_admit s r r' = one

-- sled_system_r, sled_system_b, sled_system_d
pub one_sled_system : (s : StoredSystem) (old : List ℤ) (r r' : ℕ) (new new' : List ℤ) →
    wrote r new ≡ handed_out s old → wrote r' new' ≡ handed_out s old → wrote r new ≡ wrote r' new'
one_sled_system s old r r' new new' = one

pub one_sled_columns : (rows old : List ℤ) (r r' : ℕ) (new new' : List ℤ) →
    wrote r new ≡ columns_call_of rows old → wrote r' new' ≡ columns_call_of rows old → wrote r new ≡ wrote r' new'
one_sled_columns rows old r r' new new' = one

pub one_sled_rows : (s : StoredSystem) (old : List ℤ) (r r' : ℕ) (new new' : List ℤ) →
    wrote r new ≡ rows_call s old → wrote r' new' ≡ rows_call s old → wrote r new ≡ wrote r' new'
one_sled_rows s old r r' new new' = one

pub one_sled_open : (m old : List ℤ) (r r' : ℕ) (new new' : List ℤ) →
    wrote r new ≡ open_call_of m old → wrote r' new' ≡ open_call_of m old → wrote r new ≡ wrote r' new'
one_sled_open m old r r' new new' = one

pub one_sled_run : (a b : StoredSystem) (input : List ℕ) (old : List ℤ) (output divisors counts : List ℕ) (x y : AfterRun) →
    x ≡ run_call_of a b input old output divisors counts → y ≡ run_call_of a b input old output divisors counts → x ≡ y
one_sled_run a b input old output divisors counts x y = one

pub one_sled_read : (file : List ℕ) (in_columns out_columns m : List ℤ) (found : List ℕ) (x y : AfterRead) →
    x ≡ read_call_of file in_columns out_columns m found → y ≡ read_call_of file in_columns out_columns m found → x ≡ y
one_sled_read file in_columns out_columns m found x y = one

pub one_sled_write : (a b : StoredSystem) (m : List ℤ) (word file old : List ℕ) (x y : AfterWrite) →
    x ≡ write_call_of a b m word file old → y ≡ write_call_of a b m word file old → x ≡ y
one_sled_write a b m word file old x y = one

-- sled_open_sum, sled_open_difference, sled_open_product
pub one_sled_open_two : (s : TwoState) (old : List ℤ) (r r' : ℕ) (new new' : List ℤ) →
    wrote r new ≡ two_opened s old → wrote r' new' ≡ two_opened s old → wrote r new ≡ wrote r' new'
one_sled_open_two s old r r' new new' = one

pub one_sled_run_two : (a b : StoredSystem) (xs ys : List ℕ) (old : List ℤ) (output counts : List ℕ) (x y : AfterTwo) →
    x ≡ two_call_of a b xs ys old output counts → y ≡ two_call_of a b xs ys old output counts → x ≡ y
one_sled_run_two a b xs ys old output counts x y = one
