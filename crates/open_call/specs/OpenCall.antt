-- What opening over lent numbers answers, and what every lent number is afterwards, for all inputs.
use Rattle.std.specs.Prelude.{Bool, cond, ◌&&◌, List, eqb, length, ℤ}
use Rattle.whole.specs.Refusal.{unless_refused}
use Rattle.plane.specs.Scale.{entries}
use Rattle.opening.specs.Types.{Start}
use Rattle.opening.specs.Opening.{opening_number, open_of}
use Rattle.numbers.specs.Numbers.{wrong_length, state_numbers, Wrote, wrote}

-- the state is written where it opens, and only there
abbrev pub opened : Start → List ℤ → Wrote
opened r old = unless_refused (opening_number r.opening) (λ n. wrote n old) (wrote 0 (state_numbers r.state))

abbrev pub open_lengths? : List ℤ → List ℤ → Bool
open_lengths? m old = eqb (length m) 4 && eqb (length old) 5

unfoldable pub open_call_of : List ℤ → List ℤ → Wrote
open_call_of m old = cond (open_lengths? m old) (opened (open_of (entries m)) old) (wrote wrong_length old)
