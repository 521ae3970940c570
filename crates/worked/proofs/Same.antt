-- What the tests of equality say, of whole numbers, of lists of them and of what is held; and of several tests, that each passes where all do.
use Rattle.whole.proofs.Laws.{◌≡◌, refl, ap, Bool, true, ◌&&◌, false≢true, List, [], ◌∷◌, ℕ, eqb-true, eqb, ℤ, both_true}
use Rattle.states.proofs.Laws.{Held, None, Some}
use Rattle.std.specs.Ordering.{int_eq}
use Rattle.std.specs.Option.{option_eq}
use Rattle.std.proofs.lemmas.Bool.Decides.{Decides-int_eq}
use lib.Pointwise.{pointwise, pointwise_decides, bytes_decides}

pub same_number : (x y : ℤ) → int_eq x y ≡ true → x ≡ y
same_number x y = (Decides-int_eq x y).0

pub same_matrix : (m n : List ℤ) → pointwise int_eq m n ≡ true → m ≡ n
same_matrix m n = (pointwise_decides Decides-int_eq m n).0

pub same_digits : (xs ys : List ℕ) → pointwise eqb xs ys ≡ true → xs ≡ ys
same_digits xs ys = (bytes_decides xs ys).0

pub same_held : (h k : Held) → option_eq eqb h k ≡ true → h ≡ k
same_held None None e = refl
same_held None (Some d) e = absurd (false≢true e)
same_held (Some d) None e = absurd (false≢true e)
same_held (Some d) (Some b) e = ap Some (eqb-true d b e)

-- all of several tests, and each of them
abbrev pub all? : List Bool → Bool
all? [] = true
all? (b ∷ bs) = b && all? bs

abbrev pub Each : List Bool → Type 0
Each [] = Unit {0}
Each (b ∷ bs) = (b ≡ true) × Each bs

pub each : (bs : List Bool) → all? bs ≡ true → Each bs
each [] e = tt
each (b ∷ bs) e = let p = both_true b (all? bs) e in (p.0, each bs p.1)
