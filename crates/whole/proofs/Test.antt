-- What a signed test says, and when it comes out so: `lt_z a b ≡ true` is a < b, `lt_z a b ≡ false` is b ≤ a, and so for `le_z`.
--
-- A branch of a proof hands out the equation; `lt_true`, `lt_false`, `le_true`, `le_false` read it. A contract that is an equation wants it made: `true_lt`, `false_lt`,
-- `true_le`, `false_le`. From e : lt_z a (pos 0) ≡ false, the branch where `a < 0` was not taken, `lt_false a (pos 0) e : pos 0 ≤ℤ a`.
-- Of any test: `both_true` and `true_both` for "and"; `false_by` and `true_by` where it can't come out the other way. Private: `yes`, `no`, `is_true`, `not_le`.
use Rattle.whole.proofs.Base.{◌≡◌, refl, sym, subst, Bool, true, false, not, ◌&&◌, false≢true, T, T_not, ℤ, lt_z, le_z, ◌≤ℤ◌, ◌<ℤ◌, le_z_yes, lt_z_yes, lt_z_no, clash_ℤ, inl, inr}
use Rattle.whole.proofs.Order.{<-or-≥}

-- ---- any test

yes : {b : Bool} → b ≡ true → T b
yes e = subst T (sym e) tt

no : {b : Bool} → b ≡ false → T (not b)
no e = subst (λ (b : Bool). T (not b)) (sym e) tt

is_true : (b : Bool) → T b → b ≡ true
is_true true t = refl
is_true false t = absurd t

pub both_true : (a b : Bool) → (a && b) ≡ true → (a ≡ true) × (b ≡ true)
both_true true b e = (refl, e)
both_true false b e = absurd (false≢true e)

pub true_both : {a b : Bool} → a ≡ true → b ≡ true → (a && b) ≡ true
true_both p q = rw (p, q)

-- a test that cannot be true is false, and one that cannot be false is true
pub false_by : (a : Bool) → (a ≡ true → ⊥) → a ≡ false
false_by true f = absurd (f refl)
false_by false f = refl

pub true_by : (a : Bool) → (a ≡ false → ⊥) → a ≡ true
true_by true f = refl
true_by false f = absurd (f refl)

not_le : (a b : ℤ) → T (not (le_z a b)) → b <ℤ a
not_le a b t = elim (<-or-≥ b a) [ inl h ↦ h | inr h ↦ absurd (T_not (le_z a b) t h.le) ]

-- ---- what a test says

pub lt_true : (a b : ℤ) → lt_z a b ≡ true → a <ℤ b
lt_true a b e = lt_z_yes (yes e)

pub lt_false : (a b : ℤ) → lt_z a b ≡ false → b ≤ℤ a
lt_false a b e = lt_z_no (no e)

pub le_true : (a b : ℤ) → le_z a b ≡ true → a ≤ℤ b
le_true a b e = le_z_yes (yes e)

pub le_false : (a b : ℤ) → le_z a b ≡ false → b <ℤ a
le_false a b e = not_le a b (no e)

-- ---- when a test comes out so

pub true_lt : {a b : ℤ} → a <ℤ b → lt_z a b ≡ true
true_lt {a} {b} h = is_true (lt_z a b) h.lt

pub false_lt : {a b : ℤ} → b ≤ℤ a → lt_z a b ≡ false
false_lt {a} {b} h = false_by (lt_z a b) (λ e. clash_ℤ (lt_true a b e) h)

pub true_le : {a b : ℤ} → a ≤ℤ b → le_z a b ≡ true
true_le {a} {b} h = is_true (le_z a b) h.le

pub false_le : {a b : ℤ} → b <ℤ a → le_z a b ≡ false
false_le {a} {b} h = false_by (le_z a b) (λ e. clash_ℤ h (le_true a b e))
