-- A session over two words by the C functions: two systems of which sled_admit answers 0, and sled_open_sum, sled_open_difference or sled_open_product; then
-- sled_run_two as often as one likes, each time with the numbers that the last call left. (A call that answers 40, for a slice of the wrong length, leaves
-- everything as it was, and is no call here.)
use Rattle.std.specs.Prelude.{◌≡◌, List, [], ℕ, take, get_or, ℤ}
use Rattle.bilinear.specs.Types.{Form}
use Rattle.digits.specs.Types.{StoredSystem}
use Rattle.digits.specs.Orders.{system_of}
use Rattle.runs.specs.Supply.{Deed, nothing, and_then}
use Rattle.numbers.specs.Numbers.{wrong_length}
use Rattle.two_states.specs.Types.{TwoState}
use Rattle.two_states.specs.TwoState.{opened_two}
use Rattle.two_call.specs.TwoNumbers.{two_numbers, two_from}
use Rattle.two_call.specs.TwoCall.{AfterTwo, two_opened, two_call_of}
use Rattle.two_meaning.specs.TwoSession.{Operation, TwoSession}
use Rattle.plugin.specs.Calls.{admit_number}

-- what a call of sled_run_two did: the bytes that it took of each word and the digits that it wrote, counts[0], counts[1] and counts[2] of them
abbrev pub did_two : List ℕ → List ℕ → AfterTwo → Deed
did_two xs ys r = record {
  x = take (get_or r.counts 0 0) xs;
  y = take (get_or r.counts 1 0) ys;
  digits = take (get_or r.counts 2 0) r.output;
  divisors = [];
}

-- on these two systems, opened for an operation, this was done in all, and these numbers are kept
pub data TwoPluginSession (a b : StoredSystem) (op : Form) : Deed → List ℤ → Type 0 where
  opened : admit_number a ≡ 0 → admit_number b ≡ 0 → Operation op → (old : List ℤ) → (two_opened (opened_two op) old).number ≡ 0 →
      TwoPluginSession a b op nothing (two_opened (opened_two op) old).numbers
  called : {done : Deed} {kept : List ℤ} → TwoPluginSession a b op done kept → (xs ys output counts : List ℕ) →
      ((two_call_of a b xs ys kept output counts).number ≡ wrong_length → ⊥) →
      TwoPluginSession a b op (and_then done (did_two xs ys (two_call_of a b xs ys kept output counts))) (two_call_of a b xs ys kept output counts).state

-- it is a session (crates/two_meaning), and the numbers are those of its state, which is read back from them as it was
pub record IsTwoSession (a b : StoredSystem) (op : Form) (done : Deed) (kept : List ℤ) : Type 0 where
  pub state : TwoState
  pub session : TwoSession (system_of a) (system_of b) op done state
  pub numbers : kept ≡ two_numbers state
  pub read_back : two_from kept ≡ state
