-- Inclusion of I = (x, y) in J = (u, v), in four numbers only: a = det(x, v), b = det(u, x), c = det(y, v), d = det(u, y).
-- Up to one factor, x is a·u + b·v and y is c·u + d·v: (a, b) and (c, d) are the coordinates of I's ends in the ends of J. A point with the coordinates s, t
-- is in closed J exactly if s·t ≥ 0. That I and J are intervals says a·d − c·b > 0. Nothing else of the intervals is needed.
--
-- A point of I is α·x + β·y with α·β ≥ 0, so its product of coordinates is α²·(a·b) + α·β·(a·d + c·b) + β²·(c·d).
--  * If the test holds then a·b ≥ 0, c·d ≥ 0 and a·d + c·b > 0 (`Kept`). So the sum is not below 0, and above 0 if α·β is (`kept_closed`, `kept_inside`).
--  * If the test fails then some α, β with α·β > 0 make the sum negative (`Off`). If a·b < 0, take α = n, β = 1 with n large (`off_left`; the same from the
--    other end, `off_right`). If both ends of I are in closed J, take α = c + d, β = −(a + b): this is the point u − v, opposite to J (`off_round`).
use Rattle.whole.proofs.Laws.{◌≡◌, ℤ, pos, neg_ℤ, ◌+ℤ◌, ◌*ℤ◌, ◌-ℤ◌, *ℤ_comm, ◌≤ℤ◌, ◌<ℤ◌, E, ◌⊕◌, ◌⊖◌, ◌⊗◌, ⊝◌, #, ◌≦◌, ◌≺◌, ◌≈◌, never, Cert, h, sq, dec, ◌⊞◌, ◌⊠◌, ◌⊡◌, linear, ◌&◌, Seq, ◌⇒◌, ◌by◌, ◌from◌, claim, less, same, more, tri}

-- both ends of I are in closed J
pub record EndsIn (a b c d : ℤ) : Type 0 where
  pub turn : pos 0 <ℤ (a *ℤ d -ℤ c *ℤ b)
  pub left_in : pos 0 ≤ℤ (b *ℤ a)
  pub right_in : pos 0 ≤ℤ (d *ℤ c)

-- ---- the test holds

pub record Kept (a b c d : ℤ) : Type 0 where
  pub left_in : pos 0 ≤ℤ (b *ℤ a)
  pub right_in : pos 0 ≤ℤ (d *ℤ c)
  pub across : pos 0 <ℤ (a *ℤ d +ℤ c *ℤ b)

-- all that is wanted besides is that c·b is not below 0
keep : {a b c d : ℤ} → EndsIn a b c d → pos 0 ≤ℤ (c *ℤ b) → Kept a b c d
keep {a} {b} {c} {d} k o = record {
  left_in = k.left_in;
  right_in = k.right_in;
  across = claim 4 (λ a b c d. # 0 ≺ a ⊗ d ⊖ c ⊗ b ⇒ # 0 ≦ c ⊗ b ⇒ # 0 ≺ a ⊗ d ⊕ c ⊗ b from linear) tt a b c d k.turn o;
}

-- I and J have one and the same left end
pub keep_equal : {a b c d : ℤ} → EndsIn a b c d → b ≡ pos 0 → Kept a b c d
keep_equal {b = b} {c = c} k e = keep k (claim 2 (λ b c. b ≈ # 0 ⇒ # 0 ≦ c ⊗ b from linear & c ⊡ h 1) tt b c e)

-- where p and q are on one side, what is on p's side or 0 is on q's side or 0
same_side : (n p q : ℤ) → pos 0 ≤ℤ (n *ℤ p) → (p *ℤ neg_ℤ q) <ℤ pos 0 → pos 0 ≤ℤ (n *ℤ q)
same_side = claim 3 (λ n p q. # 0 ≦ n ⊗ p ⇒ p ⊗ ⊝ q ≺ # 0 ⇒ # 0 ≦ n ⊗ q by h 0 ⊠ h 2 ⊞ h 1 ⊠ sq q) tt

-- u is not in closed I
pub keep_u : {a b c d : ℤ} → EndsIn a b c d → (neg_ℤ b *ℤ d) <ℤ pos 0 → Kept a b c d
keep_u {a} {b} {c} {d} k o = keep k (same_side c d b (rw (*ℤ_comm c d) k.right_in) (rw (*ℤ_comm d (neg_ℤ b)) o))

-- v is not in closed I
pub keep_v : {a b c d : ℤ} → EndsIn a b c d → (a *ℤ neg_ℤ c) <ℤ pos 0 → Kept a b c d
keep_v {a} {b} {c} {d} k o = keep k (rw (*ℤ_comm c b) (same_side b a c k.left_in o))

-- A point z with δ·z = α·x + β·y has coordinates s, t with δ·s = α·a + β·c and δ·t = α·b + β·d.
pub record Mixture (δ α β a b c d s t : ℤ) : Type 0 where
  pub below : δ <ℤ pos 0
  pub first : δ *ℤ s ≡ α *ℤ a +ℤ β *ℤ c
  pub second : δ *ℤ t ≡ α *ℤ b +ℤ β *ℤ d
  pub ends : Kept a b c d

-- The sum of this file's head is δ²·(t·s): its three terms, and −δ²·(t·s) from the negated goal, add up to nothing.
abbrev three_terms : E → E → E → E → E → E → Cert
three_terms δ α β b d s = h 0 ⊠ h 1 ⊠ h 1 ⊞ h 4 ⊠ sq α ⊞ h 5 ⊠ sq β ⊞ h 6 ⊠ h 7 ⊞ (⊝ (α ⊗ b ⊕ β ⊗ d)) ⊡ h 2 ⊞ (⊝ (δ ⊗ s)) ⊡ h 3

-- what holds of a mixture, and then a statement on α, β and s, t
abbrev of_mixture : E → E → E → E → E → E → E → E → E → Seq → Seq
of_mixture δ α β a b c d s t rest =
    δ ≺ # 0 ⇒ δ ⊗ s ≈ α ⊗ a ⊕ β ⊗ c ⇒ δ ⊗ t ≈ α ⊗ b ⊕ β ⊗ d ⇒ # 0 ≦ b ⊗ a ⇒ # 0 ≦ d ⊗ c ⇒ # 0 ≺ a ⊗ d ⊕ c ⊗ b ⇒ rest

module _ {δ α β a b c d s t : ℤ} (m : Mixture δ α β a b c d s t) where
  pub kept_closed : pos 0 ≤ℤ (β *ℤ α) → pos 0 ≤ℤ (t *ℤ s)
  kept_closed =
      claim 9 (λ δ α β a b c d s t. of_mixture δ α β a b c d s t (# 0 ≦ β ⊗ α ⇒ # 0 ≦ t ⊗ s by three_terms δ α β b d s)) tt
      δ α β a b c d s t m.below m.first m.second m.ends.left_in m.ends.right_in m.ends.across

  pub kept_inside : pos 0 <ℤ (β *ℤ α) → pos 0 <ℤ (t *ℤ s)
  kept_inside =
      claim 9 (λ δ α β a b c d s t. of_mixture δ α β a b c d s t (# 0 ≺ β ⊗ α ⇒ # 0 ≺ t ⊗ s by three_terms δ α β b d s)) tt
      δ α β a b c d s t m.below m.first m.second m.ends.left_in m.ends.right_in m.ends.across

-- ---- the test fails

pub record Off (a b c d : ℤ) : Type 0 where
  pub α : ℤ
  pub β : ℤ
  pub one_sign : pos 0 <ℤ (β *ℤ α)
  pub outside : ((α *ℤ b +ℤ β *ℤ d) *ℤ (α *ℤ a +ℤ β *ℤ c)) <ℤ pos 0

-- the ends of I changed over
from_other_end : {a b c d : ℤ} → Off c d a b → Off a b c d
from_other_end {a} {b} {c} {d} o = record {
  α = o.β;
  β = o.α;
  one_sign = rw *ℤ_comm o.one_sign;
  outside =
      claim 6 (λ a b c d α β. (α ⊗ d ⊕ β ⊗ b) ⊗ (α ⊗ c ⊕ β ⊗ a) ≺ # 0 ⇒ (β ⊗ b ⊕ α ⊗ d) ⊗ (β ⊗ a ⊕ α ⊗ c) ≺ # 0 from linear) tt
      a b c d o.α o.β o.outside;
}

-- n·x + y is near enough to x if n is above a·d + c·b + (d·c)²: since b·a ≤ −1, its product is at most −n² + n·(a·d + c·b) + d·c
near_enough : (n a b c d : ℤ) → (b *ℤ a) <ℤ pos 0 → pos 0 <ℤ n → (a *ℤ d +ℤ c *ℤ b +ℤ (d *ℤ c) *ℤ (d *ℤ c)) <ℤ n →
    ((n *ℤ b +ℤ pos 1 *ℤ d) *ℤ (n *ℤ a +ℤ pos 1 *ℤ c)) <ℤ pos 0
near_enough = claim 5 (λ n a b c d. b ⊗ a ≺ # 0 ⇒ # 0 ≺ n ⇒ a ⊗ d ⊕ c ⊗ b ⊕ (d ⊗ c) ⊗ (d ⊗ c) ≺ n ⇒ (n ⊗ b ⊕ # 1 ⊗ d) ⊗ (n ⊗ a ⊕ # 1 ⊗ c) ≺ # 0
    from linear & h 2 ⊠ h 2 ⊠ dec (h 1) & h 2 ⊠ dec (h 3) & dec (h 2) ⊠ sq (d ⊗ c) & sq (d ⊗ c) & sq (d ⊗ c ⊖ # 1)) tt

above : (s q : ℤ) → (s +ℤ q *ℤ q) <ℤ (s *ℤ s +ℤ q *ℤ q +ℤ pos 1)
above = claim 2 (λ s q. s ⊕ q ⊗ q ≺ s ⊗ s ⊕ q ⊗ q ⊕ # 1 from linear & sq s & sq (s ⊖ # 1)) tt

positive : (s q : ℤ) → pos 0 <ℤ (s *ℤ s +ℤ q *ℤ q +ℤ pos 1)
positive = claim 2 (λ s q. # 0 ≺ s ⊗ s ⊕ q ⊗ q ⊕ # 1 from linear & sq s & sq q) tt

pub off_left : {a b c d : ℤ} → (b *ℤ a) <ℤ pos 0 → Off a b c d
off_left {a} {b} {c} {d} l =
    let s = a *ℤ d +ℤ c *ℤ b in
    let q = d *ℤ c in
    let n = s *ℤ s +ℤ q *ℤ q +ℤ pos 1 in
    record {
      α = n;
      β = pos 1;
      one_sign = claim 1 (λ n. # 0 ≺ n ⇒ # 0 ≺ # 1 ⊗ n from linear) tt n (positive s q);
      outside = near_enough n a b c d l (positive s q) (above s q);
    }

pub off_right : {a b c d : ℤ} → (d *ℤ c) <ℤ pos 0 → Off a b c d
off_right r = from_other_end (off_left r)

-- both ends of J are in closed I, and not x = u and y = v
pub record Round (a b c d : ℤ) : Type 0 where
  pub u_in : pos 0 ≤ℤ (neg_ℤ b *ℤ d)
  pub v_in : pos 0 ≤ℤ (a *ℤ neg_ℤ c)
  pub not_equal : b ≡ pos 0 → c ≡ pos 0 → ⊥

-- where p and q are on one side, a number on p's side or 0 and on the other side of q or 0 is 0
no_side : (n p q : ℤ) → pos 0 <ℤ (p *ℤ q) → pos 0 ≤ℤ (n *ℤ p) → pos 0 ≤ℤ (neg_ℤ n *ℤ q) → n ≡ pos 0
no_side = claim 3 (λ n p q. # 0 ≺ p ⊗ q ⇒ # 0 ≦ n ⊗ p ⇒ # 0 ≦ (⊝ n) ⊗ q ⇒ n ≈ # 0 from linear & h 0 ⊠ h 0 ⊠ h 1 & h 2 ⊠ h 3) tt

-- c·b > 0 would make a = 0, and a·d − c·b negative
not_more : (a b c d : ℤ) → pos 0 <ℤ (a *ℤ d -ℤ c *ℤ b) → pos 0 ≤ℤ (b *ℤ a) → pos 0 ≤ℤ (a *ℤ neg_ℤ c) → pos 0 <ℤ (c *ℤ b) → ⊥
not_more = claim 4 (λ a b c d. # 0 ≺ a ⊗ d ⊖ c ⊗ b ⇒ # 0 ≦ b ⊗ a ⇒ # 0 ≦ a ⊗ ⊝ c ⇒ # 0 ≺ c ⊗ b ⇒ never
    by (h 1 ⊞ h 4) ⊠ (h 1 ⊞ h 4) ⊠ h 4 ⊞ h 2 ⊠ h 3 ⊠ sq d) tt

module _ {a b c d : ℤ} (k : EndsIn a b c d) (r : Round a b c d) where
  -- c·b = 0 would make a·d > 0, and then b = 0 and c = 0
  not_same : c *ℤ b ≡ pos 0 → ⊥
  not_same e =
      let f : pos 0 <ℤ (a *ℤ d) = claim 4 (λ a b c d. # 0 ≺ a ⊗ d ⊖ c ⊗ b ⇒ c ⊗ b ≈ # 0 ⇒ # 0 ≺ a ⊗ d from linear) tt a b c d k.turn e in
      r.not_equal (no_side b a d f k.left_in r.u_in) (no_side c d a (rw (*ℤ_comm d a) f) (rw (*ℤ_comm c d) k.right_in) (rw (*ℤ_comm (neg_ℤ c) a) r.v_in))

  -- c and b are opposed
  opposed : (c *ℤ b) <ℤ pos 0
  opposed = elim (tri (c *ℤ b) (pos 0)) [ less p ↦ p | same p ↦ absurd (not_same p) | more p ↦ absurd (not_more a b c d k.turn k.left_in r.v_in p) ]

  -- b and a are not, nor are d and c: so a and d are, or one is 0
  opposed_too : (a *ℤ d) ≤ℤ pos 0
  opposed_too = claim 4 (λ a b c d. # 0 ≦ b ⊗ a ⇒ # 0 ≦ d ⊗ c ⇒ c ⊗ b ≺ # 0 ⇒ a ⊗ d ≦ # 0 by h 0 ⊠ h 3 ⊞ h 1 ⊠ h 2) tt a b c d k.left_in k.right_in opposed

  -- α·β = −(a·c + a·d + b·c + b·d), and the two coordinates are a·d − c·b and its negative
  pub off_round : Off a b c d
  off_round = record {
    α = c +ℤ d;
    β = neg_ℤ (a +ℤ b);
    one_sign =
        claim 4 (λ a b c d. # 0 ≦ (⊝ b) ⊗ d ⇒ # 0 ≦ a ⊗ ⊝ c ⇒ c ⊗ b ≺ # 0 ⇒ a ⊗ d ≦ # 0 ⇒ # 0 ≺ (⊝ (a ⊕ b)) ⊗ (c ⊕ d) from linear) tt
        a b c d r.u_in r.v_in opposed opposed_too;
    outside =
        claim 4 (λ a b c d. # 0 ≺ a ⊗ d ⊖ c ⊗ b ⇒ ((c ⊕ d) ⊗ b ⊕ (⊝ (a ⊕ b)) ⊗ d) ⊗ ((c ⊕ d) ⊗ a ⊕ (⊝ (a ⊕ b)) ⊗ c) ≺ # 0 by h 0 ⊞ h 1 ⊠ h 1) tt
        a b c d k.turn;
  }
