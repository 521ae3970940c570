-- What a worked example can claim, and what each claim says. There are eight kinds: an interval is included in another; it is not, though both its ends lie
-- there; a matrix opens, or is refused; a system is admitted, or is refused; a digit has a stated rate at a point inside its interval; a job ends in a stated
-- way; it listed stated divisors; its file has so many bytes and prints a stated text. Where document 01 has a sentence for an answer, the
-- claim says that too.
use Rattle.std.specs.Prelude.{◌≡◌, List, [], ◌∷◌, ◌⊎◌, ℕ, length, take, replicate, ℤ, pos}
use Prim.Native.String.{String}
use Rattle.plane.specs.Plane.{Pair, left, right, Interval, Inside, Closed}
use Rattle.inclusion.specs.Inclusion.{Included}
use Rattle.expanding.specs.Expanding.{stretched, sent}
use Rattle.admission.specs.Admission.{refusal_number, admission_of}
use Rattle.admission.specs.Admitted.{SystemCase}
use Rattle.digits.specs.Orders.{system_of}
use Rattle.digits.specs.BuiltIn.{stored}
use Rattle.admission.specs.Types.{Admission}
use Rattle.states.specs.Types.{Held, None}
use Rattle.opening.specs.Types.{Opens}
use Rattle.states.specs.State.{end_number}
use Rattle.opening.specs.Opening.{opening_number, open_of, OpeningCase}
use Rattle.unary.specs.Run.{Ran, run_of}
use Rattle.job_sections.specs.Layout.{layout_of}
use Rattle.text.specs.Text.{bytes_of}
use Rattle.printed.specs.Text.{printed}

-- a job: two systems as tables of rows, a matrix, a word, the room that is given for the output, and the places of the list
pub record Job : Type 0 where
  pub input : List (List ℤ)
  pub output : List (List ℤ)
  pub matrix : List ℤ
  pub word : List ℕ
  pub room : ℕ
  pub list : ℕ

-- how it ends: the end's number, the bytes taken, the digits written, and the state
pub record Ending : Type 0 where
  pub number : ℕ
  pub taken : ℕ
  pub digits : List ℕ
  pub matrix : List ℤ
  pub held : Held

-- the system that a table of rows is laid out as, judged
abbrev pub judged_of : List (List ℤ) → Admission
judged_of rows = admission_of (system_of (stored rows))

-- the run of a job, from the state that its matrix opens as
abbrev pub ran_of : Job → Ran
ran_of j =
    run_of (system_of (stored j.input)) (system_of (stored j.output)) (open_of j.matrix).state j.word (replicate j.room 0) (replicate j.list 0)

-- the job's file
abbrev pub file_of : Job → List ℕ
file_of j = layout_of (record { input = stored j.input; output = stored j.output; matrix = j.matrix; word = j.word })

-- ---- what each claim says

-- "I is included in J": every point inside I is inside J
pub record IsIncluded (i j : List ℤ) : Type 0 where
  pub interval_i : Interval i
  pub interval_j : Interval j
  pub included : Included i j

-- "isn't in J, though both ends lie there"
pub record EndsOnly (i j : List ℤ) : Type 0 where
  pub interval_i : Interval i
  pub interval_j : Interval j
  pub left_end : Closed j (left i)
  pub right_end : Closed j (right i)
  pub not_included : Included i j → ⊥

-- opening m answers this number, 0 or a refusal's, for the reason that document 01 gives; and this matrix, with nothing held
pub record IsOpened (m : List ℤ) (number : ℕ) (x : List ℤ) : Type 0 where
  pub answer : opening_number (open_of m).opening ≡ number
  pub reason : OpeningCase m (open_of m).opening
  pub matrix : (open_of m).state.matrix ≡ x
  pub held : (open_of m).state.held ≡ None

-- the judgement of a system answers this number, 0 or a refusal's, for the reason that document 01 gives
pub record IsJudged (rows : List (List ℤ)) (number : ℕ) : Type 0 where
  pub answer : refusal_number (judged_of rows) ≡ number
  pub reason : SystemCase (system_of (stored rows)) (judged_of rows)

-- a digit's rate at a point inside its interval: what det F·(z0² + z1²) is, over the squared length of pseudoinverse(F)·z
pub record IsRated (rows : List (List ℤ)) (digit : ℕ) (z : Pair) (over under : ℕ) : Type 0 where
  pub inside : Inside ((system_of (stored rows)).interval digit) z
  pub over_is : stretched ((system_of (stored rows)).transformation digit) z ≡ pos over
  pub under_is : sent ((system_of (stored rows)).transformation digit) z ≡ pos under

-- the job's matrix opens, and its run ends so
pub record IsEnded (j : Job) (e : Ending) : Type 0 where
  pub opens : (open_of j.matrix).opening ≡ Opens
  pub number : end_number (ran_of j).answer.stop ≡ e.number
  pub taken : (ran_of j).answer.taken.0 ≡ e.taken
  pub written : (ran_of j).answer.written.0 ≡ length e.digits
  pub digits : take (ran_of j).answer.written.0 (ran_of j).output ≡ e.digits
  pub matrix : (ran_of j).answer.state.matrix ≡ e.matrix
  pub held : (ran_of j).answer.state.held ≡ e.held

-- the job's run listed these divisors, one for each step 4 or 5
pub record IsCancelled (j : Job) (ds : List ℕ) : Type 0 where
  pub listed : (ran_of j).answer.listed.0 ≡ length ds
  pub divisors : take (ran_of j).answer.listed.0 (ran_of j).divisors ≡ ds

-- the job's file has so many bytes, and the program prints this text of it, with the job's room
pub record IsPrinted (j : Job) (bytes : ℕ) (lines : String) : Type 0 where
  pub size : length (file_of j) ≡ bytes
  pub text : printed (file_of j) (replicate j.room 0) ≡ bytes_of lines

-- ---- a row of the table

pub data Claim : Type 0 where
  included : List ℤ → List ℤ → Claim
  ends_only : List ℤ → List ℤ → Claim
  opening : List ℤ → ℕ → List ℤ → Claim
  judged : List (List ℤ) → ℕ → Claim
  rated : List (List ℤ) → ℕ → Pair → ℕ → ℕ → Claim
  ended : Job → Ending → Claim
  cancelled : Job → List ℕ → Claim
  prints : Job → ℕ → String → Claim

abbrev pub Says : Claim → Type 0
Says (included i j) = IsIncluded i j
Says (ends_only i j) = EndsOnly i j
Says (opening m number x) = IsOpened m number x
Says (judged rows number) = IsJudged rows number
Says (rated rows digit z over under) = IsRated rows digit z over under
Says (ended j e) = IsEnded j e
Says (cancelled j ds) = IsCancelled j ds
Says (prints j bytes lines) = IsPrinted j bytes lines

-- a row of a table
abbrev pub Member : Claim → List Claim → Type 0
Member c [] = ⊥
Member c (d ∷ ds) = (c ≡ d) ⊎ Member c ds
