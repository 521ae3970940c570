-- The test in three numbers only: p and q, the growth at the ends x and y of an interval, and b, that of the two mixed. At α·x + β·y the growth is
-- α²·p + 2·α·β·b + β²·q (`sum`), and the points inside are those with α·β > 0.
--  * Where the test holds (`Grows`), the sum is above 0 wherever α·β is (`grows`).
--  * Where it fails, some α, β with α·β > 0 make the sum 0 or less (`Shrinks`). If p < 0, take α = n, β = 1 with n large (`shrinks_left`), and likewise from the other end.
--    If b < 0 and p > 0, take α = −b, β = p: the sum is p·(p·q − b²), and p·q ≤ b² is known of the form (`shrinks_between`). If b < 0 and p = 0, take α = n, β = 1 again
--    (`shrinks_along`). If all three are 0, take α = β = 1 (`shrinks_flat`).
use Rattle.whole.proofs.Laws.{◌≡◌, refl, subst, Bool, true, false, ◌&&◌, true≢false, ℤ, pos, neg_ℤ, ◌+ℤ◌, ◌*ℤ◌, *ℤ_comm, ◌≤ℤ◌, ◌<ℤ◌, le_z, lt_z, clash_ℤ, E, ◌⊕◌, ◌⊗◌, ⊝◌, ◌⊖◌, #, ◌≦◌, ◌≺◌, ◌≈◌, h, sq, dec, ◌⊞◌, ◌⊠◌, ◌⊡◌, linear, ◌&◌, ◌⇒◌, ◌by◌, ◌from◌, claim, tri, less, same, more, le_true, le_false, lt_true, lt_false, false≢true}
use Rattle.expanding.specs.Expanding.{grows?}

abbrev pub sum : ℤ → ℤ → ℤ → ℤ → ℤ → ℤ
sum α β p b q = α *ℤ α *ℤ p +ℤ pos 2 *ℤ (α *ℤ β *ℤ b) +ℤ β *ℤ β *ℤ q

abbrev sum_e : E → E → E → E → E → E
sum_e α β p b q = α ⊗ α ⊗ p ⊕ # 2 ⊗ (α ⊗ β ⊗ b) ⊕ β ⊗ β ⊗ q

-- ---- it grows

pub record Grows (p b q : ℤ) : Type 0 where
  pub left : pos 0 ≤ℤ p
  pub mixed : pos 0 ≤ℤ b
  pub right : pos 0 ≤ℤ q
  pub not_all_0 : pos 0 <ℤ (p +ℤ b +ℤ q)

-- of a product above 0, neither factor is 0
square : (α β : ℤ) → pos 0 <ℤ (β *ℤ α) → pos 0 <ℤ (α *ℤ α)
square = claim 2 (λ α β. # 0 ≺ β ⊗ α ⇒ # 0 ≺ α ⊗ α by h 0 ⊠ sq β ⊞ h 1 ⊠ h 1) tt

pub grows : {p b q : ℤ} (α β : ℤ) → Grows p b q → pos 0 <ℤ (β *ℤ α) → pos 0 <ℤ sum α β p b q
grows {p} {b} {q} α β k o =
    claim 5 (λ α β p b q. # 0 ≦ p ⇒ # 0 ≦ b ⇒ # 0 ≦ q ⇒ # 0 ≺ p ⊕ b ⊕ q ⇒ # 0 ≺ α ⊗ α ⇒ # 0 ≺ β ⊗ α ⇒ # 0 ≺ β ⊗ β ⇒ # 0 ≺ sum_e α β p b q
    from linear & h 1 ⊠ dec (h 5) & h 2 ⊠ dec (h 6) & h 3 ⊠ dec (h 7)) tt
    α β p b q k.left k.mixed k.right k.not_all_0 (square α β o) o (square β α (subst (λ (n : ℤ). pos 0 <ℤ n) (*ℤ_comm β α) o))

-- ---- it does not

pub record Shrinks (p b q : ℤ) : Type 0 where
  pub α : ℤ
  pub β : ℤ
  pub one_sign : pos 0 <ℤ (β *ℤ α)
  pub not_above : sum α β p b q ≤ℤ pos 0

-- n = 4·b² + q² + 1 is above 0, and at least 2·b + q²
abbrev far : ℤ → ℤ → ℤ
far b q = pos 4 *ℤ (b *ℤ b) +ℤ q *ℤ q +ℤ pos 1

abbrev far_e : E → E → E
far_e b q = # 4 ⊗ (b ⊗ b) ⊕ q ⊗ q ⊕ # 1

far_above : (b q : ℤ) → pos 0 <ℤ (pos 1 *ℤ far b q)
far_above = claim 2 (λ b q. # 0 ≺ # 1 ⊗ far_e b q from linear & sq b & sq q) tt

-- n·x + y, for any n above 0
along : {p b q : ℤ} (n : ℤ) → pos 0 <ℤ (pos 1 *ℤ n) → sum n (pos 1) p b q ≤ℤ pos 0 → Shrinks p b q
along n l s = record { α = n; β = pos 1; one_sign = l; not_above = s }

shrinks_left : {p b q : ℤ} → p <ℤ pos 0 → Shrinks p b q
shrinks_left {p} {b} {q} l = along (far b q) (far_above b q)
    (claim 4 (λ n p b q. p ≺ # 0 ⇒ # 0 ≺ # 1 ⊗ n ⇒ # 2 ⊗ b ⊕ q ⊗ q ≦ n ⇒ sum_e n (# 1) p b q ≦ # 0
    from linear & h 2 ⊠ h 2 ⊠ dec (h 1) & h 2 ⊠ h 3 & dec (h 2) ⊠ sq q & sq q & sq (q ⊖ # 1)) tt
    (far b q) p b q l (far_above b q) (claim 2 (λ b q. # 2 ⊗ b ⊕ q ⊗ q ≦ far_e b q from linear & sq b & sq (# 2 ⊗ b ⊖ # 1)) tt b q))

-- the ends changed over
from_other_end : {p b q : ℤ} → Shrinks q b p → Shrinks p b q
from_other_end {p} {b} {q} s = record {
  α = s.β;
  β = s.α;
  one_sign = claim 2 (λ α β. # 0 ≺ β ⊗ α ⇒ # 0 ≺ α ⊗ β from linear) tt s.α s.β s.one_sign;
  not_above = claim 5 (λ α β p b q. sum_e α β q b p ≦ # 0 ⇒ sum_e β α p b q ≦ # 0 from linear) tt s.α s.β p b q s.not_above;
}

shrinks_between : {p b q : ℤ} → pos 0 <ℤ p → b <ℤ pos 0 → (p *ℤ q) ≤ℤ (b *ℤ b) → Shrinks p b q
shrinks_between {p} {b} {q} l m d = record {
  α = neg_ℤ b;
  β = p;
  one_sign = claim 2 (λ p b. # 0 ≺ p ⇒ b ≺ # 0 ⇒ # 0 ≺ p ⊗ (⊝ b) from linear & h 1 ⊠ h 2) tt p b l m;
  not_above = claim 3 (λ p b q. # 0 ≺ p ⇒ p ⊗ q ≦ b ⊗ b ⇒ sum_e (⊝ b) p p b q ≦ # 0 by h 0 ⊞ h 1 ⊠ h 2) tt p b q l d;
}

shrinks_along : {p b q : ℤ} → p ≡ pos 0 → b <ℤ pos 0 → Shrinks p b q
shrinks_along {p} {b} {q} l m = along (far b q) (far_above b q)
    (claim 3 (λ p b q. p ≈ # 0 ⇒ b ≺ # 0 ⇒ sum_e (far_e b q) (# 1) p b q ≦ # 0
    from linear & (far_e b q ⊗ far_e b q) ⊡ h 1 & sq b ⊠ h 2 & sq q ⊠ dec (h 2) & sq q & sq (q ⊖ # 1)) tt p b q l m)

shrinks_flat : {p b q : ℤ} → pos 0 ≤ℤ b → (p +ℤ b +ℤ q) ≤ℤ pos 0 → pos 0 ≤ℤ p → pos 0 ≤ℤ q → Shrinks p b q
shrinks_flat {p} {b} {q} m a l r = along (pos 1) (claim 0 (# 0 ≺ # 1 ⊗ # 1 from linear) tt)
    (claim 3 (λ p b q. # 0 ≦ b ⇒ p ⊕ b ⊕ q ≦ # 0 ⇒ # 0 ≦ p ⇒ # 0 ≦ q ⇒ sum_e (# 1) (# 1) p b q ≦ # 0 from linear) tt p b q m a l r)

-- b < 0, and p is not
shrinks_mixed : {p b q : ℤ} → pos 0 ≤ℤ p → b <ℤ pos 0 → (p *ℤ q) ≤ℤ (b *ℤ b) → Shrinks p b q
shrinks_mixed {p} l m d = elim (tri p (pos 0)) [ less k ↦ absurd (clash_ℤ k l) | same k ↦ shrinks_along k m | more k ↦ shrinks_between k m d ]

-- ---- the test holds, or it fails

pub data Tested (p b q : ℤ) : Bool → Type 0 where
  holds : Grows p b q → Tested p b q true
  fails : ((p *ℤ q) ≤ℤ (b *ℤ b) → Shrinks p b q) → Tested p b q false

pub tested : (p b q : ℤ) → Tested p b q (grows? p b q)
tested p b q = go (le_z (pos 0) p) (le_z (pos 0) b) (le_z (pos 0) q) (lt_z (pos 0) (p +ℤ b +ℤ q)) refl refl refl refl
  where
    go : (l m r a : Bool) → le_z (pos 0) p ≡ l → le_z (pos 0) b ≡ m → le_z (pos 0) q ≡ r → lt_z (pos 0) (p +ℤ b +ℤ q) ≡ a → Tested p b q (l && m && r && a)
    go false m r a e f g k = fails (λ d. shrinks_left (le_false (pos 0) p e))
    go true false r a e f g k = fails (shrinks_mixed (le_true (pos 0) p e) (le_false (pos 0) b f))
    go true true false a e f g k = fails (λ d. from_other_end (shrinks_left (le_false (pos 0) q g)))
    go true true true false e f g k = fails (λ d. shrinks_flat (le_true (pos 0) b f) (lt_false (pos 0) (p +ℤ b +ℤ q) k) (le_true (pos 0) p e) (le_true (pos 0) q g))
    go true true true true e f g k =
        holds record { left = le_true (pos 0) p e; mixed = le_true (pos 0) b f; right = le_true (pos 0) q g; not_all_0 = lt_true (pos 0) (p +ℤ b +ℤ q) k }

pub grows_says : {p b q : ℤ} {t : Bool} → Tested p b q t → t ≡ true → Grows p b q
grows_says (holds k) e = k
grows_says (fails s) e = absurd (false≢true e)

pub shrinks_says : {p b q : ℤ} {t : Bool} → Tested p b q t → t ≡ false → (p *ℤ q) ≤ℤ (b *ℤ b) → Shrinks p b q
shrinks_says (holds k) e = absurd (true≢false e)
shrinks_says (fails s) e = s
