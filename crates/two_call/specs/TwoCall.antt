-- What opening and a run over lent numbers answer, and what every lent number and byte is afterwards, for all inputs.
use Rattle.std.specs.Prelude.{Bool, cond, ◌&&◌, List, [], ◌∷◌, ℕ, eqb, length, ℤ}
use Rattle.states.specs.State.{end_number}
use Rattle.digits.specs.Types.{StoredSystem}
use Rattle.digits.specs.Orders.{system_of}
use Rattle.numbers.specs.Numbers.{wrong_length, columns?, Wrote, wrote}
use Rattle.two_states.specs.Types.{TwoState}
use Rattle.binary.specs.TwoRun.{TwoRan, two_run}
use Rattle.two_call.specs.TwoNumbers.{two_numbers, two_from, two_after}

-- opening: the eleven numbers of the opened state, into a slice of exactly as many
unfoldable pub two_opened : TwoState → List ℤ → Wrote
two_opened s old = cond (eqb (length old) 11) (wrote 0 (two_numbers s)) (wrote wrong_length old)

-- a run: its answer, the state's eleven numbers, the bytes of the output, and the three counts, taken of x, taken of y and written
pub record AfterTwo : Type 0 where
  pub number : ℕ
  pub state : List ℤ
  pub output : List ℕ
  pub counts : List ℕ

abbrev pub after_two : ℕ → List ℤ → List ℕ → List ℕ → AfterTwo
after_two n s out c = record { number = n; state = s; output = out; counts = c }

abbrev pub ran_two : TwoRan → List ℤ → AfterTwo
ran_two r old =
    after_two (end_number r.answer.stop) (two_after r.answer.stop r.answer.state old) r.output
    (r.answer.x.0 ∷ r.answer.y.0 ∷ r.answer.written.0 ∷ [])

abbrev pub two_lengths? : StoredSystem → StoredSystem → List ℤ → List ℕ → Bool
two_lengths? a b old counts = columns? a.columns && columns? b.columns && eqb (length old) 11 && eqb (length counts) 3

-- of the two systems, the two words, and then what is written over: the state, the output and the counts
unfoldable pub two_call_of : StoredSystem → StoredSystem → List ℕ → List ℕ → List ℤ → List ℕ → List ℕ → AfterTwo
two_call_of a b xs ys old output counts =
    cond (two_lengths? a b old counts)
    (ran_two (two_run (system_of a) (system_of b) (two_from old) xs ys output) old)
    (after_two wrong_length old output counts)
