-- The order of ℤ, from the ground: what proofs/Certificate.antt needs to be sound, and a few laws that others cite.
--
-- `◌≤ℤ◌` and `◌<ℤ◌` are the kit's (`lib.Signed`): records over tests that compute. Three views of them are linked here:
--   a ≤ b exactly when b = a + n for a natural n       `gap`, `le_of_gap`
--   a ≤ b exactly when 0 ≤ b − a, and so for <         `sub_of_le`, `le_of_sub`, `sub_of_lt`, `lt_of_sub`
--   a < b or b ≤ a                                     `<-or-≥`, and from it the proofs by contradiction, `≤-by` and `<-by`
-- Names: `nn` is "not negative", `ps` is "positive". Write `a ≤ℤ (b +ℤ c)` with brackets: the order binds tighter than the sum.
-- Private: the names with ', each the law of the same name on the tests, by the cases of two numbers. Laws that follow by a claim are in proofs/Cases.antt.
use Rattle.whole.proofs.Base.{◌≡◌, sym, ◌∙◌, ap, subst, Bool, true, false, not, cond, ◌⊎◌, inl, inr, ℕ, zero-le, zero, suc, ◌+◌, ◌*◌, ◌-◌, ◌≤◌, ◌<◌, arith, T, ltb, ltb→lt, lt→ltb, le→leb, leb→le, pos, negsuc, ◌+ℤ◌, ◌*ℤ◌, ◌-ℤ◌, +ℤ_idl, +ℤ_idr, +ℤ_assoc, +ℤ_invl, le_z, lt_z, ◌≤ℤ◌, ◌<ℤ◌, lt_z_yes, lt_z_no, clash_ℤ}
use native.Mathlib.Nat as N
use lib.IntN.{ℤ, -ℤ_one}
use lib.Signed.{<ℤ_irrefl}
use Rattle.whole.proofs.Polynomial.{con, ◌⊕◌, ◌⊖◌}
use Rattle.whole.proofs.Law.{◌≗◌, law}

cond_ind : (c : Bool) (x y : ℤ) (P : ℤ → Type 0) → (T c → P x) → (T (not c) → P y) → P (cond c x y)
cond_ind true x y P f g = f tt
cond_ind false x y P f g = g tt

-- ---- a ≤ b exactly when b = a + n for a natural n

neg_diff : (b k : ℕ) → negsuc (b + k) +ℤ pos k ≡ negsuc b
neg_diff b zero = +ℤ_idr (negsuc (b + zero)) ∙ ap negsuc (N.add-zero b)
neg_diff b (suc k) =
    ap (λ w. w +ℤ pos (suc k)) (ap negsuc (N.add-suc b k)) ∙ +ℤ_assoc (negsuc b) (negsuc k) (pos (suc k))
    ∙ ap (λ w. negsuc b +ℤ w) (+ℤ_invl (pos (suc k))) ∙ +ℤ_idr (negsuc b)

gap' : (a b : ℤ) → T (le_z a b) → (n : ℕ) × (b ≡ a +ℤ pos n)
gap' (pos a) (pos b) t = (b - a, ap pos (e a b (leb→le a b t)))
  where
    e : (a b : ℕ) → a ≤ b → b ≡ a + (b - a)
    e a b h = omega arith
gap' (pos a) (negsuc b) t = absurd t
gap' (negsuc a) (pos b) t = (suc a + b, sym (sym (+ℤ_assoc (negsuc a) (pos (suc a)) (pos b)) ∙ ap (λ w. w +ℤ pos b) (+ℤ_invl (pos (suc a))) ∙ +ℤ_idl (pos b)))
gap' (negsuc a) (negsuc b) t = (a - b, sym (ap (λ (n : ℕ). negsuc n +ℤ pos (a - b)) (e a b (leb→le b a t)) ∙ neg_diff b (a - b)))
  where
    e : (a b : ℕ) → b ≤ a → a ≡ b + (a - b)
    e a b h = omega arith

pub gap : {a b : ℤ} → a ≤ℤ b → (n : ℕ) × (b ≡ a +ℤ pos n)
gap {a} {b} h = gap' a b h.le

up' : (a : ℤ) (n : ℕ) → T (le_z a (a +ℤ pos n))
up' (pos a) n = le→leb a (a + n) (e a n)
  where
    e : (a n : ℕ) → a ≤ a + n
    e a n = omega arith
up' (negsuc a) n = cond_ind (ltb n (suc a)) (negsuc (suc a - suc n)) (pos (n - suc a)) (λ z. T (le_z (negsuc a) z)) (λ t. le→leb (suc a - suc n) a (e a n)) (λ t. tt)
  where
    e : (a n : ℕ) → suc a - suc n ≤ a
    e a n = omega arith

pub le_up : (a : ℤ) (n : ℕ) → a ≤ℤ (a +ℤ pos n)
le_up a n = record { le = up' a n }

pub le_of_gap : {a b : ℤ} (n : ℕ) → b ≡ a +ℤ pos n → a ≤ℤ b
le_of_gap {a} {b} n e = subst (λ z. a ≤ℤ z) (sym e) (le_up a n)

-- ---- a ≤ b exactly when 0 ≤ b − a

pub sub_of_le : {a b : ℤ} → a ≤ℤ b → pos 0 ≤ℤ (b -ℤ a)
sub_of_le {a} {b} h = let g = gap h in le_of_gap g.0 (ap (λ w. w -ℤ a) g.1 ∙ law 2 (λ a n. a ⊕ n ⊖ a ≗ con (pos 0) ⊕ n) tt a (pos g.0))

pub le_of_sub : {a b : ℤ} → pos 0 ≤ℤ (b -ℤ a) → a ≤ℤ b
le_of_sub {a} {b} h = let g = gap h in le_of_gap g.0 (law 2 (λ a b. b ≗ a ⊕ (b ⊖ a)) tt a b ∙ ap (λ w. a +ℤ w) (g.1 ∙ +ℤ_idl (pos g.0)))

-- ---- sums, products and squares of numbers that are not negative, or positive

nn_mul' : (a b : ℤ) → T (le_z (pos 0) a) → T (le_z (pos 0) b) → T (le_z (pos 0) (a *ℤ b))
nn_mul' (pos a) (pos b) s t = le→leb 0 (a * b) zero-le
nn_mul' (pos a) (negsuc b) s t = absurd t
nn_mul' (negsuc a) b s t = absurd s

nn_add' : (a b : ℤ) → T (le_z (pos 0) a) → T (le_z (pos 0) b) → T (le_z (pos 0) (a +ℤ b))
nn_add' (pos a) (pos b) s t = le→leb 0 (a + b) zero-le
nn_add' (pos a) (negsuc b) s t = absurd t
nn_add' (negsuc a) b s t = absurd s

ps_mul' : (a b : ℤ) → T (lt_z (pos 0) a) → T (lt_z (pos 0) b) → T (lt_z (pos 0) (a *ℤ b))
ps_mul' (pos a) (pos b) s t = lt→ltb 0 (a * b) (N.mul-pos (ltb→lt 0 a s) (ltb→lt 0 b t))
ps_mul' (pos a) (negsuc b) s t = absurd t
ps_mul' (negsuc a) b s t = absurd s

ps_add' : (a b : ℤ) → T (lt_z (pos 0) a) → T (le_z (pos 0) b) → T (lt_z (pos 0) (a +ℤ b))
ps_add' (pos a) (pos b) s t = lt→ltb 0 (a + b) (e a b (ltb→lt 0 a s))
  where
    e : (x y : ℕ) → 0 < x → 0 < x + y
    e x y h = omega arith
ps_add' (pos a) (negsuc b) s t = absurd t
ps_add' (negsuc a) b s t = absurd s

sq' : (a : ℤ) → T (le_z (pos 0) (a *ℤ a))
sq' (pos a) = le→leb 0 (a * a) zero-le
sq' (negsuc a) = le→leb 0 (suc a * suc a) zero-le

-- 0 ≤ z − 1 from 0 < z
dec' : (z : ℤ) → T (lt_z (pos 0) z) → T (le_z (pos 0) (z -ℤ pos 1))
dec' (pos zero) t = absurd t
dec' (pos (suc n)) t = subst (λ z. T (le_z (pos 0) z)) (sym (-ℤ_one (pos (suc n)))) (le→leb 0 n zero-le)
dec' (negsuc n) t = absurd t

pub nn_mul : {a b : ℤ} → pos 0 ≤ℤ a → pos 0 ≤ℤ b → pos 0 ≤ℤ (a *ℤ b)
nn_mul {a} {b} h k = record { le = nn_mul' a b h.le k.le }

pub nn_add : {a b : ℤ} → pos 0 ≤ℤ a → pos 0 ≤ℤ b → pos 0 ≤ℤ (a +ℤ b)
nn_add {a} {b} h k = record { le = nn_add' a b h.le k.le }

pub ps_mul : {a b : ℤ} → pos 0 <ℤ a → pos 0 <ℤ b → pos 0 <ℤ (a *ℤ b)
ps_mul {a} {b} h k = record { lt = ps_mul' a b h.lt k.lt }

pub ps_add : {a b : ℤ} → pos 0 <ℤ a → pos 0 ≤ℤ b → pos 0 <ℤ (a +ℤ b)
ps_add {a} {b} h k = record { lt = ps_add' a b h.lt k.le }

pub nn_sq : (a : ℤ) → pos 0 ≤ℤ (a *ℤ a)
nn_sq a = record { le = sq' a }

pub ps_dec : {a : ℤ} → pos 0 <ℤ a → pos 0 ≤ℤ (a -ℤ pos 1)
ps_dec {a} h = record { le = dec' a h.lt }

-- ---- two orders, and proofs by contradiction

le_of_lt' : (a b : ℤ) → T (lt_z a b) → T (le_z a b)
le_of_lt' (pos a) (pos b) t = le→leb a b (N.le_of_lt (ltb→lt a b t))
le_of_lt' (pos a) (negsuc b) t = t
le_of_lt' (negsuc a) (pos b) t = t
le_of_lt' (negsuc a) (negsuc b) t = le→leb b a (N.le_of_lt (ltb→lt b a t))

pub ≤-of-< : {a b : ℤ} → a <ℤ b → a ≤ℤ b
≤-of-< {a} {b} h = record { le = le_of_lt' a b h.lt }

split : (b : Bool) → T b ⊎ T (not b)
split true = inl tt
split false = inr tt

-- one of the two holds
pub <-or-≥ : (a b : ℤ) → (a <ℤ b) ⊎ (b ≤ℤ a)
<-or-≥ a b = elim (split (lt_z a b)) [ inl t ↦ inl (lt_z_yes t) | inr t ↦ inr (lt_z_no t) ]

-- a proof by contradiction
pub ≤-by : {a b : ℤ} → (b <ℤ a → ⊥) → a ≤ℤ b
≤-by {a} {b} f = elim (<-or-≥ b a) [ inl h ↦ absurd (f h) | inr h ↦ h ]

pub <-by : {a b : ℤ} → (b ≤ℤ a → ⊥) → a <ℤ b
<-by {a} {b} f = elim (<-or-≥ a b) [ inl h ↦ h | inr h ↦ absurd (f h) ]

-- ---- a < b exactly when 0 < b − a

pub sub_of_lt : {a b : ℤ} → a <ℤ b → pos 0 <ℤ (b -ℤ a)
sub_of_lt {a} {b} h = <-by (λ k. clash_ℤ h (le_of_sub (subst (λ z. pos 0 ≤ℤ z) (e a b) (sub_of_le k))))
  where
    e : (a b : ℤ) → pos 0 -ℤ (b -ℤ a) ≡ a -ℤ b
    e = law 2 (λ a b. con (pos 0) ⊖ (b ⊖ a) ≗ a ⊖ b) tt

pub lt_of_sub : {a b : ℤ} → pos 0 <ℤ (b -ℤ a) → a <ℤ b
lt_of_sub {a} {b} h = <-by (λ k. <ℤ_irrefl (subst (λ z. pos 0 <ℤ z) (e a b) (ps_add h (sub_of_le k))))
  where
    e : (a b : ℤ) → (b -ℤ a) +ℤ (a -ℤ b) ≡ pos 0
    e = law 2 (λ a b. (b ⊖ a) ⊕ (a ⊖ b) ≗ con (pos 0)) tt

-- ---- antisymmetry

pub ≤-antisym : {a b : ℤ} → a ≤ℤ b → b ≤ℤ a → a ≡ b
≤-antisym {a} {b} h k = go (gap h).0 (gap h).1
  where
    go : (n : ℕ) → b ≡ a +ℤ pos n → a ≡ b
    go zero e = sym (e ∙ +ℤ_idr a)
    go (suc n) e =
        let d : b -ℤ a ≡ pos (suc n) = ap (λ w. w -ℤ a) e ∙ law 2 (λ a n. a ⊕ n ⊖ a ≗ n) tt a (pos (suc n)) in
        clash_ℤ (lt_of_sub {a = a} {b = b} (subst (λ z. pos 0 <ℤ z) (sym d) (lt_z_yes (lt→ltb 0 (suc n) (p n))))) k
      where
        p : (n : ℕ) → 0 < suc n
        p n = omega arith
