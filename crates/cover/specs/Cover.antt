-- "every point lies in the closed interval of some digit", as it stands, and the test that refusal 10 makes. The theorem `cover_says`
-- (proofs/CoverSays.antt) proves that the test says exactly this.
use Rattle.std.specs.Prelude.{Bool, not, ◌&&◌, List, ℕ, ◌<◌, ℤ}
use Rattle.whole.specs.First.{some_below?, every_below?}
use Rattle.plane.specs.Plane.{Pair, Closed, right}
use Rattle.inclusion.specs.Inclusion.{closed?, same?}
use Rattle.digits.specs.System.{System, interval}

-- the point z "lies in the closed interval of some digit"
abbrev pub Covers : System → Pair → Type 0
Covers s z = (a : ℕ) × (a < s.count) × Closed (interval s a) z

-- the test: the intervals leave no gap. Behind the right end of each goes on another, which holds that end and does not end there too.
abbrev pub goes_on_behind? : List ℤ → List ℤ → Bool
goes_on_behind? v w = closed? w (right v) && not (same? (right v) (right w))

abbrev pub some_goes_on? : System → List ℤ → Bool
some_goes_on? s v = some_below? (λ b. goes_on_behind? v (interval s b)) s.count

abbrev pub covered? : System → Bool
covered? s = every_below? (λ a. some_goes_on? s (interval s a)) s.count
