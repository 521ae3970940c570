-- Document 01's last demand on an admitted system, "every point lies in the closed interval of some digit", and refusal 10, "some point is in no closed interval":
-- the test `covered?` says exactly this. It looks at right ends only: behind each, another interval has to go on, which holds that end and does not end there too.
-- (A system with no digits passes it, so there has to be one: refusal 3 comes before.)
-- `covered` (CoverFull.antt) shows that then no point is left out; `uncovered` (CoverGap.antt) hands over a point that is left out if the test fails.
use Rattle.whole.proofs.Laws.{◌≡◌, subst, true, false, ◌↔◌, ℕ, ◌≤◌, arith, true_by, false_by}
use Rattle.plane.proofs.Laws.{Pair, Point, right, det_self}
use Rattle.digits.proofs.Laws.{System, interval, Small}
use Rattle.cover.specs.Cover.{covered?, Covers}
use Rattle.cover.proofs.CoverTests.{GoesOn, Intervals, NextDigit, gap_free}
use Rattle.cover.proofs.CoverFull.{covered}
use Rattle.cover.proofs.CoverGap.{uncovered}

-- what the test answers, and the sentence that it stands for
pub record CoverSays (s : System) : Type 0 where
  pub full : covered? s ≡ true ↔ ((z : Pair) → Point z → Covers s z)
  pub gap : covered? s ≡ false ↔ ((z : Pair) × Point z × (Covers s z → ⊥))

pub cover_says : (s : System) → 1 ≤ s.count → Small s → Intervals s → CoverSays s
cover_says s some-digit small intervals = record {
  full = (covered s some-digit intervals, λ f. true_by (covered? s) (λ e. let u = uncovered s small intervals e in u.2 (f u.0 u.1)));
  gap = (uncovered s small intervals, λ u. false_by (covered? s) (λ e. u.2 (covered s some-digit intervals e u.0 u.1)));
}

-- One digit never covers: the only interval that could go on behind its right end ends there too.
pub one_digit : (s : System) → s.count ≡ 1 → covered? s ≡ false
one_digit s one = false_by (covered? s) (λ e. alone (gap_free s e 0 (omega arith)))
  where
    alone : NextDigit s 0 → ⊥
    alone d =
        let itself : d.next ≡ 0 = omega (arith, d.below) in
        (subst (λ (b : ℕ). GoesOn (interval s 0) (interval s b)) itself d.goes).further (det_self (right (interval s 0)))
