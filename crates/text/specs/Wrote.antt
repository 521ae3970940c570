-- A text is written into a buffer from a place on.
use Rattle.std.specs.Prelude.{◌≡◌, List, ℕ, ◌+◌, ◌≤◌, length}
use Rattle.std.proofs.lemmas.List.Edits.{sets}

-- the text, which has so many bytes at most, stands from the place `at` on and up to the place r, and every other byte is as it was: `sets` puts one
-- byte of it after the other. The law `from_front` says the same as what stands in front and what stands behind
pub record Wrote (old : List ℕ) (at : ℕ) (text : List ℕ) (most : ℕ) (new : List ℕ) (r : ℕ) : Type 0 where
  pub place : r ≡ at + length text
  pub few : length text ≤ most
  pub bytes : new ≡ sets old at text
