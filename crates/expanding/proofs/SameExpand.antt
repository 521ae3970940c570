-- Two systems with the same rows expand alike (`same_expand`).
use Rattle.whole.proofs.Laws.{◌≡◌, ap₂, ℕ, ◌<◌, every_same}
use Rattle.digits.proofs.Laws.{System, transformation, interval}
use Rattle.expanding.specs.Expanding.{expands?, all_expand?}

module _ (s other : System) (same-f : (a : ℕ) → a < s.count → transformation s a ≡ transformation other a) (same_w : (a : ℕ) → a < s.count → interval s a ≡ interval other a) where
  -- the other one, of as many digits
  abbrev t : System
  t = record { count = s.count; transformation = other.transformation; interval = other.interval }

  pub same_expand : all_expand? s ≡ all_expand? t
  same_expand =
      every_same (λ a. expands? (transformation s a) (interval s a)) (λ a. expands? (transformation t a) (interval t a)) s.count (λ a h. ap₂ expands? (same-f a h) (same_w a h))
