-- What the tests of the cover say. `covered?` is made of searches and signs; here it becomes two sentences on intervals:
-- if it is true, behind every digit's right end some digit goes on (`gap_free`); if it is false, there is a digit behind whose right end none does (`gap_found`).
use Rattle.whole.proofs.Laws.{◌≡◌, refl, sym, ◌∙◌, Bool, true, false, not, ◌&&◌, true≢false, List, ℕ, ◌<◌, not-true, not-false, ℤ, pos, ◌*ℤ◌, ◌<ℤ◌, both_true, some_passes, none_passes, every_passes, one_fails}
use Rattle.plane.proofs.Laws.{det, left, right, Interval, Closed}
use Rattle.inclusion.proofs.Laws.{closed?, same?, closed_says, not_closed_says, same_zero, zero_same}
use Rattle.digits.proofs.Laws.{System, interval}
use Rattle.cover.specs.Cover.{goes_on_behind?, some_goes_on?, covered?}

-- ---- two intervals: w goes on behind v's right end, or it doesn't

-- w holds v's right end, and does not end there too
pub record GoesOn (v w : List ℤ) : Type 0 where
  pub holds : Closed w (right v)
  pub further : det (right v) (right w) ≡ pos 0 → ⊥

-- w does not hold v's right end, or it ends there too
pub data Stops (v w : List ℤ) : Type 0 where
  apart : (det (left w) (right v) *ℤ det (right v) (right w)) <ℤ pos 0 → Stops v w
  together : det (right v) (right w) ≡ pos 0 → Stops v w

goes_on : (v w : List ℤ) → goes_on_behind? v w ≡ true → GoesOn v w
goes_on v w e =
    let p = both_true (closed? w (right v)) (not (same? (right v) (right w))) e in
    record { holds = closed_says p.0; further = λ d. true≢false (sym (zero_same (right v) (right w) d) ∙ not-true (same? (right v) (right w)) p.1) }

stops : (v w : List ℤ) → goes_on_behind? v w ≡ false → Stops v w
stops v w e = by (closed? w (right v)) refl e
  where
    by : (t : Bool) → closed? w (right v) ≡ t → (t && not (same? (right v) (right w))) ≡ false → Stops v w
    by true p e = together (same_zero (right v) (right w) (not-false (same? (right v) (right w)) e))
    by false p e = apart (not_closed_says w (right v) p)

-- ---- the digits of a system

-- the four numbers kept for each digit's interval are an interval: "a left end x and a right end y with det(x, y) < 0"
abbrev pub Intervals : System → Type 0
Intervals s = (a : ℕ) → a < s.count → Interval (interval s a)

-- behind digit a's right end goes on some digit
pub record NextDigit (s : System) (a : ℕ) : Type 0 where
  pub next : ℕ
  pub below : next < s.count
  pub goes : GoesOn (interval s a) (interval s next)

-- there is a digit behind whose right end none goes on
pub record LastDigit (s : System) : Type 0 where
  pub last : ℕ
  pub below : last < s.count
  pub stop : (b : ℕ) → b < s.count → Stops (interval s last) (interval s b)

-- the two searches of `covered?`: for a digit b that goes on behind v, and for a digit a behind which none does
abbrev next? : System → List ℤ → ℕ → Bool
next? s v b = goes_on_behind? v (interval s b)

abbrev followed? : System → ℕ → Bool
followed? s a = some_goes_on? s (interval s a)

pub gap_free : (s : System) → covered? s ≡ true → (a : ℕ) → a < s.count → NextDigit s a
gap_free s e a h =
    let v = interval s a in
    let p = some_passes (next? s v) s.count (every_passes (followed? s) s.count e a h) in
    record { next = p.number; below = p.below; goes = goes_on v (interval s p.number) p.passes }

pub gap_found : (s : System) → covered? s ≡ false → LastDigit s
gap_found s e =
    let p = one_fails (followed? s) s.count e in
    let v = interval s p.number in
    let no-next = none_passes (next? s v) s.count (not-true (followed? s p.number) p.passes) in
    record { last = p.number; below = p.below; stop = λ b h. stops v (interval s b) (no-next b h) }
