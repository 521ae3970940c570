-- What a run over lent numbers answers, and what every lent number and byte is afterwards, for all inputs.
use Rattle.std.specs.Prelude.{Bool, cond, ◌&&◌, List, [], ◌∷◌, ℕ, eqb, length, ℤ}
use Rattle.states.specs.State.{end_number}
use Rattle.unary.specs.Run.{Ran, run_of}
use Rattle.digits.specs.Types.{StoredSystem}
use Rattle.digits.specs.Orders.{system_of}
use Rattle.numbers.specs.Numbers.{wrong_length, columns?, state_from, state_after}

-- a run: its answer, the state's five numbers, the bytes of the output, the list of divisors, and the three counts, taken, written and listed
pub record AfterRun : Type 0 where
  pub number : ℕ
  pub state : List ℤ
  pub output : List ℕ
  pub divisors : List ℕ
  pub counts : List ℕ

abbrev pub after_run : ℕ → List ℤ → List ℕ → List ℕ → List ℕ → AfterRun
after_run n s out divisors c = record { number = n; state = s; output = out; divisors = divisors; counts = c }

abbrev pub ran_call : Ran → List ℤ → AfterRun
ran_call r old =
    after_run (end_number r.answer.stop) (state_after r.answer.stop r.answer.state old) r.output r.divisors
    (r.answer.taken.0 ∷ r.answer.written.0 ∷ r.answer.listed.0 ∷ [])

abbrev pub run_lengths? : StoredSystem → StoredSystem → List ℤ → List ℕ → Bool
run_lengths? a b old counts = columns? a.columns && columns? b.columns && eqb (length old) 5 && eqb (length counts) 3

-- of the two systems, the input, and then what is written over: the state, the output, the list and the counts
unfoldable pub run_call_of : StoredSystem → StoredSystem → List ℕ → List ℤ → List ℕ → List ℕ → List ℕ → AfterRun
run_call_of a b input old output divisors counts =
    cond (run_lengths? a b old counts)
    (ran_call (run_of (system_of a) (system_of b) (state_from old) input output divisors) old)
    (after_run wrong_length old output divisors counts)
