-- A lent list afterwards: what was written, and behind it what stood there. "Bytes of the output beyond the written ones are unchanged." "Bytes past the
-- file stay."
use Rattle.std.specs.Prelude.{List, ◌++◌, ℕ, length, drop}

abbrev pub written : List ℕ → List ℕ → List ℕ
written new out = new ++ drop (length new) out
