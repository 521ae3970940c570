-- What `respond` promises: the program's text stands at the front of the buffer, and the bytes for the output digits hold what the run left there.
use Rattle.std.specs.Prelude.{◌≡◌, List, ◌++◌, ℕ, ◌≤◌, length, take, drop}
use Rattle.printed.specs.Text.{printed, filled_by}

pub record Responds (file room room' old new : List ℕ) (r : ℕ) : Type 0 where
  pub size : r ≡ length (printed file room)
  pub text : new ≡ printed file room ++ drop r old
  pub digits : room' ≡ filled_by file room
  -- so many bytes are there, which is what a program has to know to write them
  pub inside : r ≤ length new
  pub front : r ≡ length (take r new)
