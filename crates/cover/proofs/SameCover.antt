-- Two systems with the same intervals are covered alike (`same_covered`): the two searches of the test agree on every number that they pass.
use Rattle.whole.proofs.Laws.{◌≡◌, ap₂, ℕ, ◌<◌, some_same, every_same}
use Rattle.digits.proofs.Laws.{System, interval}
use Rattle.cover.specs.Cover.{goes_on_behind?, some_goes_on?, covered?}

module _ (s other : System) (same : (a : ℕ) → a < s.count → interval s a ≡ interval other a) where
  -- the other one, of as many digits
  abbrev t : System
  t = record { count = s.count; transformation = other.transformation; interval = other.interval }

  same_goes_on : (a : ℕ) → a < s.count → some_goes_on? s (interval s a) ≡ some_goes_on? t (interval t a)
  same_goes_on a h =
      some_same (λ b. goes_on_behind? (interval s a) (interval s b)) (λ b. goes_on_behind? (interval t a) (interval t b)) s.count (λ b k. ap₂ goes_on_behind? (same a h) (same b k))

  pub same_covered : covered? s ≡ covered? t
  same_covered = every_same (λ a. some_goes_on? s (interval s a)) (λ a. some_goes_on? t (interval t a)) s.count same_goes_on
