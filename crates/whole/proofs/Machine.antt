-- From machine words to whole numbers.
--
-- A signed local holds bits, so that goals show `to_z w64 (of_z w64 z)`: the number z, stored in 64 bits and read back. Every operation asks that its result fits
-- (`SFits w64 z`). This file says when a number fits, that it is then read back as it is, and what casts do.
-- The short way through an expression is `Stands b u z`: where the machine has u, the number z is meant, and z lies within b of 0. For `a * d - b * c` with four numbers
-- within 1000, p = mul_stands (stored h1 tt) (stored h2 tt) tt and q likewise stand for the products, and `sub_ok p q tt` is what the difference asks. Each `tt` is a
-- test on bounds, that they are below 2^63.
-- Private: `mag_le`.
use Rattle.whole.proofs.Base.{◌≡◌, refl, sym, ap, ap₂, subst, subst₂, ◌∙◌, ℕ, ◌+◌, ◌*◌, ◌<◌, ◌≤◌, ◌^◌, lt_of_le_of_lt, le_refl, arith, T, ltb, ltb→lt, ℤ, pos, negsuc, nat_abs, ◌+ℤ◌, ◌-ℤ◌, ◌*ℤ◌, mag, ◌≤ℤ◌}
use lib.Signed.{non_neg, yes_non_neg}
use mir.Syntax.{Width, w16, w64}
use mir.Val as word
use mir.Val.{SFits, hbits, of_z, to_z}
use mir.Facts.{to_z-of_z, to_z_pos, sfits_widen, Fits-nat_abs}
use Rattle.whole.specs.Range.{Near}
use Rattle.whole.proofs.Range.{near_mul, near_add, near_sub}

-- ---- what fits is read back as it is

mag_le : (z : ℤ) → mag z ≤ nat_abs z
mag_le (pos n) = le_refl n
mag_le (negsuc n) = omega arith

pub near_fits : {w : Width} {b : ℕ} {z : ℤ} → Near b z → T (ltb b (2 ^ hbits w)) → SFits w z
near_fits {w} {b} {z} h t = record { sfits = lt_of_le_of_lt (mag_le z) (lt_of_le_of_lt h.near (ltb→lt b (2 ^ hbits w) t)) }

pub back : {b : ℕ} {z : ℤ} → Near b z → T (ltb b (2 ^ 63)) → to_z w64 (of_z w64 z) ≡ z
back h t = to_z-of_z {w = w64} (near_fits h t)

pub near_back : {b : ℕ} {z : ℤ} → Near b z → T (ltb b (2 ^ 63)) → Near b (to_z w64 (of_z w64 z))
near_back {b} h t = subst (Near b) (sym (back h t)) h

-- the same of a call's result, of which the check hands out the bound as `.type_inv`; the second form has the number written, for `cc` and `simp`
pub ok_back : {z : ℤ} → mag z < 2 ^ 63 → to_z w64 (of_z w64 z) ≡ z
ok_back h = to_z-of_z {w = w64} (record { sfits = h })

pub back_of_lem : (z : ℤ) → mag z < 2 ^ 63 → to_z w64 (of_z w64 z) ≡ z
back_of_lem z h = ok_back h

-- what is read back where z was stored
abbrev pub held : ℤ → ℤ
held z = to_z w64 (of_z w64 z)

-- z fits a word, as the check tells it of an element that was read from an array and of a call's result
abbrev pub Fits : ℤ → Type 0
Fits z = mag z < 2 ^ 63

-- what `magnitude` ensures of the word that holds z
pub size : (z : ℤ) {n : ℕ} → Fits z → n ≡ nat_abs (held z) → n ≡ nat_abs z
size z fits e = e ∙ ap nat_abs (back_of_lem z fits)

-- ---- casts

-- from one signed width to another, of a number that both hold: the need (`cast_fits`), and what is read after it. An i16 made an i64 is `cast_back f (sfits_widen tt f)`
pub cast_fits : {w w' : Width} {z : ℤ} → SFits w z → SFits w' z → SFits w' (to_z w (of_z w z))
cast_fits {w} {w'} f g = subst (SFits w') (sym (to_z-of_z f)) g

pub cast_back : {w w' : Width} {z : ℤ} → SFits w z → SFits w' z → to_z w' (of_z w' (to_z w (of_z w z))) ≡ z
cast_back f g = to_z-of_z (cast_fits f g) ∙ to_z-of_z f

-- i16 to i64: always
pub widen_fits : {z : ℤ} → SFits w16 z → SFits w64 (to_z w16 (of_z w16 z))
widen_fits f = cast_fits {w' = w64} f (sfits_widen {w = w16} {w' = w64} tt f)

pub widen_back : {z : ℤ} → SFits w16 z → to_z w64 (of_z w64 (to_z w16 (of_z w16 z))) ≡ z
widen_back f = cast_back {w' = w64} f (sfits_widen {w = w16} {w' = w64} tt f)

-- i64 to i16: of a number that an i16 holds
pub narrow_fits : {z : ℤ} → SFits w16 z → SFits w16 (to_z w64 (of_z w64 z))
narrow_fits f = cast_fits {w = w64} (sfits_widen {w = w16} {w' = w64} tt f) f

pub narrow_back : {z : ℤ} → SFits w16 z → to_z w16 (of_z w16 (to_z w64 (of_z w64 z))) ≡ z
narrow_back f = cast_back {w = w64} (sfits_widen {w = w16} {w' = w64} tt f) f

-- an element of a slice, of which the check hands out the bound as `.given`
pub element_16 : (z : ℤ) → mag z < 2 ^ 15 → SFits w16 z
element_16 z h = record { sfits = h }

-- i64 to u64: of a number that is not negative. The cast's result is `nat_abs` of what is read
pub unsigned_ok : {z : ℤ} → SFits w64 z → pos 0 ≤ℤ z → T (non_neg (to_z w64 (of_z w64 z))) × word.Fits w64 (nat_abs (to_z w64 (of_z w64 z)))
unsigned_ok {z} f p = rw (to_z-of_z f) (yes_non_neg p, Fits-nat_abs tt f)

-- ---- what the machine holds in place of a number: u stands for z, which lies within b of 0.
-- One law for each operation: what is asked of it (`mul_ok`), and what it then holds (`mul_stands`)

pub record Stands (b : ℕ) (u z : ℤ) : Type 0 where
  pub is : u ≡ z
  pub near : Near b z

-- a parameter, a local or a call's result
pub stored : {b : ℕ} {z : ℤ} → Near b z → T (ltb b (2 ^ 63)) → Stands b (to_z w64 (of_z w64 z)) z
stored h t = record { is = back h t; near = h }

pub literal : (z : ℤ) → Stands (nat_abs z) z z
literal z = record { is = refl; near = record { near = le_refl (nat_abs z) } }

-- an unsigned number that was cast
pub unsigned : (n b : ℕ) → n ≤ b → T (ltb b (2 ^ 63)) → Stands b (to_z w64 n) (pos n)
unsigned n b h t = record { is = to_z_pos w64 (lt_of_le_of_lt h (ltb→lt b (2 ^ 63) t)); near = record { near = h } }

module _ {a b : ℕ} {u v x y : ℤ} (h : Stands a u x) (k : Stands b v y) where
  pub mul_ok : T (ltb (a * b) (2 ^ 63)) → SFits w64 (u *ℤ v)
  mul_ok t = subst₂ (λ (p q : ℤ). SFits w64 (p *ℤ q)) (sym h.is) (sym k.is) (near_fits (near_mul h.near k.near) t)

  pub add_ok : T (ltb (a + b) (2 ^ 63)) → SFits w64 (u +ℤ v)
  add_ok t = subst₂ (λ (p q : ℤ). SFits w64 (p +ℤ q)) (sym h.is) (sym k.is) (near_fits (near_add h.near k.near) t)

  pub sub_ok : T (ltb (a + b) (2 ^ 63)) → SFits w64 (u -ℤ v)
  sub_ok t = subst₂ (λ (p q : ℤ). SFits w64 (p -ℤ q)) (sym h.is) (sym k.is) (near_fits (near_sub h.near k.near) t)

  pub mul_stands : T (ltb (a * b) (2 ^ 63)) → Stands (a * b) (to_z w64 (of_z w64 (u *ℤ v))) (x *ℤ y)
  mul_stands t = record { is = to_z-of_z (mul_ok t) ∙ ap₂ ◌*ℤ◌ h.is k.is; near = near_mul h.near k.near }

  pub add_stands : T (ltb (a + b) (2 ^ 63)) → Stands (a + b) (to_z w64 (of_z w64 (u +ℤ v))) (x +ℤ y)
  add_stands t = record { is = to_z-of_z (add_ok t) ∙ ap₂ ◌+ℤ◌ h.is k.is; near = near_add h.near k.near }

  pub sub_stands : T (ltb (a + b) (2 ^ 63)) → Stands (a + b) (to_z w64 (of_z w64 (u -ℤ v))) (x -ℤ y)
  sub_stands t = record { is = to_z-of_z (sub_ok t) ∙ ap₂ ◌-ℤ◌ h.is k.is; near = near_sub h.near k.near }
