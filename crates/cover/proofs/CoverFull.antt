-- If behind every digit's right end some digit goes on, every point lies in the closed interval of some digit (`covered`).
-- How the argument goes. Whether a digit's interval holds a point z is looked up. Suppose that none does. Then z sees the two ends x and y of each interval on one side:
-- det(z, x) and det(z, y) have one sign. Cut at z, the circle of all points is a line, and on it the right ends have an order: p lies at q or behind it exactly if
-- det(z, p)·det(z, q)·det(p, q) ≥ 0. Of two ends one always does, and the order passes on, so there is a digit a whose right end y_a lies behind all the others.
-- Behind it goes on some digit b, which holds y_a and doesn't end there. But b's right end lies before y_a, so b's interval could hold y_a only by running through z.
use Rattle.whole.proofs.Laws.{◌≡◌, refl, Bool, true, false, List, ◌⊎◌, inl, inr, ℕ, ◌≤◌, ◌<◌, ℤ, pos, neg_ℤ, ◌+ℤ◌, ◌*ℤ◌, ◌≤ℤ◌, ◌<ℤ◌, ◌⊕◌, ◌⊗◌, ⊝◌, #, <-or-≥, ◌≦◌, ◌≺◌, ◌≈◌, never, h, sq, ◌⊠◌, ◌⊡◌, linear, ◌&◌, ◌⇒◌, ◌from◌, claim, some_below?, some_passes, none_passes}
use Rattle.plane.proofs.Laws.{Pair, Point, det, left, right, Interval, det_turned, three_terms, square_above}
use Rattle.inclusion.proofs.Laws.{closed?, closed_says, not_closed_says}
use Rattle.digits.proofs.Laws.{System, interval}
use Rattle.cover.specs.Cover.{covered?, Covers}
use Rattle.cover.proofs.Greatest.{greatest}
use Rattle.cover.proofs.CoverTests.{GoesOn, Intervals, gap_free}

-- ---- the order of the points, cut at z

-- p lies at q or behind it. Products of signs stand for the signs themselves, so it does not matter by which of its two pairs, p or −p, a point is given.
record Behind (z p q : Pair) : Type 0 where
  behind : pos 0 ≤ℤ (det z p *ℤ det z q *ℤ det p q)

turned_sign : (s t d e : ℤ) → e ≡ neg_ℤ d → (s *ℤ t *ℤ d) <ℤ pos 0 → pos 0 ≤ℤ (t *ℤ s *ℤ e)
turned_sign = claim 4 (λ s t d e. e ≈ ⊝ d ⇒ s ⊗ t ⊗ d ≺ # 0 ⇒ # 0 ≦ t ⊗ s ⊗ e from linear & (s ⊗ t) ⊡ h 1) tt

behind_total : (z p q : Pair) → Behind z p q ⊎ Behind z q p
behind_total z p q = elim (<-or-≥ (det z p *ℤ det z q *ℤ det p q) (pos 0)) [
  | inl l ↦ inr (record { behind = turned_sign (det z p) (det z q) (det p q) (det q p) (det_turned q p) l })
  | inr l ↦ inl (record { behind = l })
]

-- ---- an interval that does not hold z

one_side : (t s u : ℤ) → t ≡ neg_ℤ s → (t *ℤ u) <ℤ pos 0 → pos 0 <ℤ (s *ℤ u)
one_side = claim 3 (λ t s u. t ≈ ⊝ s ⇒ t ⊗ u ≺ # 0 ⇒ # 0 ≺ s ⊗ u from linear & u ⊡ h 1) tt

-- z sees both its ends on one side
record Missed (w : List ℤ) (z : Pair) : Type 0 where
  sides : pos 0 <ℤ (det z (left w) *ℤ det z (right w))

missed : (w : List ℤ) (z : Pair) → closed? w z ≡ false → Missed w z
missed w z e = record { sides = one_side (det (left w) z) (det z (left w)) (det z (right w)) (det_turned (left w) z) (not_closed_says w z e) }

-- the order passes on over the right end q of such an interval: s, t, u are the sides on which z sees p, q and r, and x is that of the interval's left end
passes_on : (s t u x pq qr pr : ℤ) →
    t *ℤ pr ≡ pq *ℤ u +ℤ s *ℤ qr → pos 0 <ℤ (x *ℤ t) → pos 0 ≤ℤ (s *ℤ t *ℤ pq) → pos 0 ≤ℤ (t *ℤ u *ℤ qr) → pos 0 ≤ℤ (s *ℤ u *ℤ pr)
passes_on =
    claim 7 (λ s t u x pq qr pr. t ⊗ pr ≈ pq ⊗ u ⊕ s ⊗ qr ⇒ # 0 ≺ x ⊗ t ⇒ # 0 ≦ s ⊗ t ⊗ pq ⇒ # 0 ≦ t ⊗ u ⊗ qr ⇒ # 0 ≦ s ⊗ u ⊗ pr
    from linear & (x ⊗ x ⊗ s ⊗ t ⊗ u) ⊡ h 1 & h 0 ⊠ h 2 ⊠ h 2 & sq (x ⊗ u) ⊠ h 3 & sq (x ⊗ s) ⊠ h 4) tt

behind_trans : {w : List ℤ} {z p r : Pair} → Missed w z → Behind z p (right w) → Behind z (right w) r → Behind z p r
behind_trans {w} {z} {p} {r} m a b = let q = right w in record {
  behind = passes_on (det z p) (det z q) (det z r) (det z (left w)) (det p q) (det q r) (det p r) (three_terms z q p r) m.sides a.behind b.behind;
}

-- v's right end p lies at w's or behind it, so w can't go on behind p: s, t, x are the sides on which z sees p and w's right and left end
no_further : (s t x δ d e : ℤ) →
    s *ℤ δ ≡ e *ℤ t +ℤ x *ℤ d → pos 0 ≤ℤ (s *ℤ t *ℤ d) → δ <ℤ pos 0 → pos 0 <ℤ (x *ℤ t) → pos 0 ≤ℤ (e *ℤ d) → pos 0 <ℤ (d *ℤ d) → ⊥
no_further =
    claim 6 (λ s t x δ d e. s ⊗ δ ≈ e ⊗ t ⊕ x ⊗ d ⇒ # 0 ≦ s ⊗ t ⊗ d ⇒ δ ≺ # 0 ⇒ # 0 ≺ x ⊗ t ⇒ # 0 ≦ e ⊗ d ⇒ # 0 ≺ d ⊗ d ⇒ never
    from linear & (t ⊗ d) ⊡ h 1 & h 2 ⊠ h 3 & h 4 ⊠ h 6 & sq t ⊠ h 5) tt

last_stops : {v w : List ℤ} {z : Pair} → Interval w → Missed w z → Behind z (right v) (right w) → GoesOn v w → ⊥
last_stops {v} {w} {z} i m b g =
    let p = right v in let x = left w in let y = right w in
    no_further (det z p) (det z y) (det z x) (det x y) (det p y) (det x p) (three_terms z p x y) b.behind i.below m.sides g.holds.not_below
    (square_above (det p y) g.further)

-- ---- the digits

abbrev end_of : System → ℕ → Pair
end_of s a = right (interval s a)

abbrev holds? : System → Pair → ℕ → Bool
holds? s z a = closed? (interval s a) z

module _ (s : System) (some-digit : 1 ≤ s.count) (intervals : Intervals s) (full : covered? s ≡ true) (z : Pair) where
  not_all_missed : ((a : ℕ) → a < s.count → Missed (interval s a) z) → ⊥
  not_all_missed m =
      let g = greatest (λ a b. Behind z (end_of s a) (end_of s b)) s.count (λ a b. behind_total z (end_of s a) (end_of s b)) (λ a b c l. behind_trans (m b l)) some-digit in
      let d = gap_free s full g.top g.below in
      last_stops (intervals d.next d.below) (m d.next d.below) (g.beyond d.next d.below) d.goes

  found_or_missed : (t : Bool) → some_below? (holds? s z) s.count ≡ t → Covers s z
  found_or_missed true e = let p = some_passes (holds? s z) s.count e in (p.number, p.below, closed_says p.passes)
  found_or_missed false e = absurd (not_all_missed (λ a l. missed (interval s a) z (none_passes (holds? s z) s.count e a l)))

pub covered : (s : System) → 1 ≤ s.count → Intervals s → covered? s ≡ true → (z : Pair) → Point z → Covers s z
covered s some-digit intervals full z p = found_or_missed s some-digit intervals full z (some_below? (holds? s z) s.count) refl
