-- What lies before a run, and what it does. A run reads the bytes of a word, or of two, and writes digits, and the divisors of its steps, into lists
-- that are lent.
use Rattle.std.specs.Prelude.{List, [], ◌++◌, ℕ, ◌-◌, length, drop}
-- a lent list afterwards: what was written, and behind it what stood there
pub use Rattle.whole.specs.Written.{written}

-- what lies before a run: the bytes of each word that are not taken (a run over one word has none in y), and the places that are free for digits and for
-- divisors
pub record Supply : Type 0 where
  pub x : List ℕ
  pub y : List ℕ
  pub room : ℕ
  pub list : ℕ

-- what is done: the bytes taken of each word, the digits given out, the divisors listed
pub record Deed : Type 0 where
  pub x : List ℕ
  pub y : List ℕ
  pub digits : List ℕ
  pub divisors : List ℕ

abbrev pub nothing : Deed
nothing = record { x = []; y = []; digits = []; divisors = [] }

abbrev pub and_then : Deed → Deed → Deed
and_then d e = record { x = d.x ++ e.x; y = d.y ++ e.y; digits = d.digits ++ e.digits; divisors = d.divisors ++ e.divisors }

-- what a deed leaves
abbrev pub spend : Deed → Supply → Supply
spend d r = record {
  x = drop (length d.x) r.x;
  y = drop (length d.y) r.y;
  room = r.room - length d.digits;
  list = r.list - length d.divisors;
}
