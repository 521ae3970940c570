-- A session by the C functions: two systems of which sled_admit answers 0, and a matrix of which sled_open does; then sled_run as often as one likes, each
-- time with the numbers that the last call left. (A call that answers 40, for a slice of the wrong length, leaves everything as it was, and is no call here.)
use Rattle.std.specs.Prelude.{◌≡◌, List, [], ℕ, take, get_or, ℤ}
use Rattle.digits.specs.Types.{StoredSystem}
use Rattle.digits.specs.Orders.{system_of}
use Rattle.runs.specs.Supply.{Deed, nothing, and_then}
use Rattle.meaning.specs.Session.{Session}
use Rattle.states.specs.Types.{State}
use Rattle.numbers.specs.Numbers.{wrong_length, state_numbers, state_from}
use Rattle.open_call.specs.OpenCall.{open_call_of}
use Rattle.run_call.specs.RunCall.{AfterRun, run_call_of}
use Rattle.plugin.specs.Calls.{admit_number}

-- what a call of sled_run did: the bytes that it took, the digits that it wrote and the divisors that it listed, counts[0], counts[1] and counts[2] of them
abbrev pub did_call : List ℕ → AfterRun → Deed
did_call input r = record {
  x = take (get_or r.counts 0 0) input;
  y = [];
  digits = take (get_or r.counts 1 0) r.output;
  divisors = take (get_or r.counts 2 0) r.divisors;
}

-- `PluginSession a b m done numbers`: on these two systems, opened for m, this was done in all, and these numbers are kept
pub data PluginSession (a b : StoredSystem) (m : List ℤ) : Deed → List ℤ → Type 0 where
  opened : admit_number a ≡ 0 → admit_number b ≡ 0 → (old : List ℤ) → (open_call_of m old).number ≡ 0 → PluginSession a b m nothing (open_call_of m old).numbers
  called : {done : Deed} {kept : List ℤ} → PluginSession a b m done kept → (input output divisors counts : List ℕ) →
      ((run_call_of a b input kept output divisors counts).number ≡ wrong_length → ⊥) →
      PluginSession a b m (and_then done (did_call input (run_call_of a b input kept output divisors counts)))
      (run_call_of a b input kept output divisors counts).state

-- it is a session (crates/meaning), and the numbers are those of its state, which is read back from them as it was
pub record IsSession (a b : StoredSystem) (m : List ℤ) (done : Deed) (kept : List ℤ) : Type 0 where
  pub state : State
  pub session : Session (system_of a) (system_of b) m done state
  pub numbers : kept ≡ state_numbers state
  pub read_back : state_from kept ≡ state
