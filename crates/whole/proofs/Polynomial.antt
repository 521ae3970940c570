-- Identities of ℤ by computation: expressions, a normal form for them, and the proof that it keeps their value.
--
-- `E` is the type of expressions, and `eval e ρ` the value of one where the list ρ has the values of its variables. With `var 0` for a, (a + 1)·a is
-- `(var 0 ⊕ con (pos 1)) ⊗ var 0`; nobody writes it so, since `law` (proofs/Law.antt) lets the variables be named.
-- `H` is the normal form, Horner's: a number `const_h z`, or `plus_x p q`, which is p + a·q, where a is the first variable and p has only those after it. So 3 + 2a is
-- `plus_x (const_h 3) (const_h 2)`, and a² is `plus_x (const_h 0) (plus_x (const_h 0) (const_h 1))`, the numbers being `pos 3`, `pos 2`, ..
-- Two expressions have one value for all numbers if the normal form of their difference is 0: `same` computes that, and `ring` is the theorem.
--
-- Whatever computes is an `abbrev`, so that a test comes out as true, and `tt` proves it, in every crate. All of it is public for that reason; what others should name
-- are E, its signs ⊕ ⊖ ⊗ ⊝, and `con`. Private: the law that each operation keeps the value (`add_ok`, `mul_ok`, ..).
use Rattle.whole.proofs.Base.{◌≡◌, refl, sym, ◌∙◌, ap, ap₂, Bool, true, false, List, [], ◌∷◌, ℕ, zero, suc, T, eqb, eqb→eq, ℤ, pos, negsuc, neg_ℤ, ◌+ℤ◌, ◌*ℤ◌, +ℤ_idl, +ℤ_idr, +ℤ_assoc, +ℤ_comm, zero-*ℤ, *ℤ-zero, *ℤ_comm}
use lib.IntN.{neg_ℤ-+ℤ, -ℤ-+ℤ_cancel}
use Rattle.whole.proofs.Ring.{distrib_l, distrib_r, *ℤ-assoc, mul_neg, one_*ℤ, interchange, mul_left_comm, swap_r}

-- ---- expressions and their values

infixl 6 ◌⊕◌ ◌⊖◌
infixl 7 ◌⊗◌
infixl 8 ⊝◌
pub data E : Type 0 where
  var : ℕ → E
  con : ℤ → E
  ◌⊕◌ : E → E → E
  ◌⊗◌ : E → E → E
  ⊝◌ : E → E

abbrev pub ◌⊖◌ : E → E → E
a ⊖ b = a ⊕ (⊝ b)

abbrev pub hd : List ℤ → ℤ
hd [] = pos zero
hd (x ∷ ρ) = x

abbrev pub tl : List ℤ → List ℤ
tl [] = []
tl (x ∷ ρ) = ρ

abbrev pub nth : ℕ → List ℤ → ℤ
nth zero ρ = hd ρ
nth (suc i) ρ = nth i (tl ρ)

abbrev pub eval : E → List ℤ → ℤ
eval (var i) ρ = nth i ρ
eval (con z) ρ = z
eval (a ⊕ b) ρ = eval a ρ +ℤ eval b ρ
eval (a ⊗ b) ρ = eval a ρ *ℤ eval b ρ
eval (⊝ a) ρ = neg_ℤ (eval a ρ)

-- ---- the normal form and its value: the variables after the first are the rest of the list
pub data H : Type 0 where
  const_h : ℤ → H
  plus_x : H → H → H

abbrev pub eval_h : H → List ℤ → ℤ
eval_h (const_h z) ρ = z
eval_h (plus_x p q) ρ = eval_h p (tl ρ) +ℤ hd ρ *ℤ eval_h q ρ

-- ---- the operations on normal forms

-- p + a·q, without the a where q is 0 and p a number
abbrev pub mk_x : H → H → H
mk_x p (plus_x a b) = plus_x p (plus_x a b)
mk_x p (const_h (negsuc n)) = plus_x p (const_h (negsuc n))
mk_x p (const_h (pos (suc n))) = plus_x p (const_h (pos (suc n)))
mk_x (const_h a) (const_h (pos zero)) = const_h a
mk_x (plus_x u v) (const_h (pos zero)) = plus_x (plus_x u v) (const_h (pos zero))

-- z + h
abbrev pub addc : ℤ → H → H
addc z (const_h b) = const_h (z +ℤ b)
addc z (plus_x p q) = plus_x (addc z p) q

abbrev pub add : H → H → H
add (const_h a) h = addc a h
add (plus_x p q) (const_h b) = plus_x (addc b p) q
add (plus_x p q) (plus_x p' q') = mk_x (add p p') (add q q')

abbrev pub neg : H → H
neg (const_h a) = const_h (neg_ℤ a)
neg (plus_x p q) = plus_x (neg p) (neg q)

-- c·h, and (`mulc`) 0 itself where c is 0
abbrev pub scale : ℤ → H → H
scale c (const_h a) = const_h (c *ℤ a)
scale c (plus_x p q) = plus_x (scale c p) (scale c q)

abbrev pub mulc : ℤ → H → H
mulc (pos zero) h = const_h (pos zero)
mulc (pos (suc n)) h = scale (pos (suc n)) h
mulc (negsuc n) h = scale (negsuc n) h

-- a product with something that has not the first variable: f multiplies what is under that variable
abbrev pub mul_l : (H → H) → H → H
mul_l f (const_h b) = mk_x (f (const_h b)) (const_h (pos zero))
mul_l f (plus_x p q) = mk_x (f p) (mul_l f q)

abbrev pub mul : H → H → H
mul (const_h a) h = mulc a h
mul (plus_x p q) h = add (mul_l (λ z. mul p z) h) (mk_x (const_h (pos zero)) (mul q h))

abbrev pub hvar : ℕ → H
hvar zero = plus_x (const_h (pos 0)) (const_h (pos 1))
hvar (suc i) = plus_x (hvar i) (const_h (pos 0))

abbrev pub norm : E → H
norm (var i) = hvar i
norm (con z) = const_h z
norm (a ⊕ b) = add (norm a) (norm b)
norm (a ⊗ b) = mul (norm a) (norm b)
norm (⊝ a) = neg (norm a)

-- ---- is it 0?

abbrev pub is_z : ℤ → Bool
is_z (pos n) = eqb n 0
is_z (negsuc n) = false

abbrev pub and : Bool → Bool → Bool
and true b = b
and false b = false

abbrev pub is_zero : H → Bool
is_zero (const_h z) = is_z z
is_zero (plus_x p q) = and (is_zero p) (is_zero q)

-- ---- soundness: each operation keeps the value

mk_x_ok : (p q : H) (ρ : List ℤ) → eval_h (mk_x p q) ρ ≡ eval_h p (tl ρ) +ℤ hd ρ *ℤ eval_h q ρ
mk_x_ok p (plus_x a b) ρ = refl
mk_x_ok p (const_h (negsuc n)) ρ = refl
mk_x_ok p (const_h (pos (suc n))) ρ = refl
mk_x_ok (const_h a) (const_h (pos zero)) ρ = sym (ap (λ w. a +ℤ w) (*ℤ-zero (hd ρ)) ∙ +ℤ_idr a)
mk_x_ok (plus_x u v) (const_h (pos zero)) ρ = refl

addc_ok : (z : ℤ) (h : H) (ρ : List ℤ) → eval_h (addc z h) ρ ≡ z +ℤ eval_h h ρ
addc_ok z (const_h b) ρ = refl
addc_ok z (plus_x p q) ρ = ap (λ w. w +ℤ hd ρ *ℤ eval_h q ρ) (addc_ok z p (tl ρ)) ∙ +ℤ_assoc z (eval_h p (tl ρ)) (hd ρ *ℤ eval_h q ρ)

add_ok : (g h : H) (ρ : List ℤ) → eval_h (add g h) ρ ≡ eval_h g ρ +ℤ eval_h h ρ
add_ok (const_h a) h ρ = addc_ok a h ρ
add_ok (plus_x p q) (const_h b) ρ = ap (λ w. w +ℤ hd ρ *ℤ eval_h q ρ) (addc_ok b p (tl ρ) ∙ +ℤ_comm b (eval_h p (tl ρ))) ∙ swap_r (eval_h p (tl ρ)) b (hd ρ *ℤ eval_h q ρ)
add_ok (plus_x p q) (plus_x p' q') ρ =
    mk_x_ok (add p p') (add q q') ρ
    ∙ ap₂ (λ v w. v +ℤ hd ρ *ℤ w) (add_ok p p' (tl ρ)) (add_ok q q' ρ)
    ∙ ap (λ w. eval_h p (tl ρ) +ℤ eval_h p' (tl ρ) +ℤ w) (distrib_l (hd ρ) (eval_h q ρ) (eval_h q' ρ))
    ∙ interchange (eval_h p (tl ρ)) (eval_h p' (tl ρ)) (hd ρ *ℤ eval_h q ρ) (hd ρ *ℤ eval_h q' ρ)

neg_ok : (h : H) (ρ : List ℤ) → eval_h (neg h) ρ ≡ neg_ℤ (eval_h h ρ)
neg_ok (const_h a) ρ = refl
neg_ok (plus_x p q) ρ =
    ap₂ (λ v w. v +ℤ hd ρ *ℤ w) (neg_ok p (tl ρ)) (neg_ok q ρ)
    ∙ ap (λ w. neg_ℤ (eval_h p (tl ρ)) +ℤ w) (mul_neg (hd ρ) (eval_h q ρ))
    ∙ sym (neg_ℤ-+ℤ (eval_h p (tl ρ)) (hd ρ *ℤ eval_h q ρ))

scale_ok : (c : ℤ) (h : H) (ρ : List ℤ) → eval_h (scale c h) ρ ≡ c *ℤ eval_h h ρ
scale_ok c (const_h a) ρ = refl
scale_ok c (plus_x p q) ρ =
    ap₂ (λ v w. v +ℤ hd ρ *ℤ w) (scale_ok c p (tl ρ)) (scale_ok c q ρ)
    ∙ ap (λ w. c *ℤ eval_h p (tl ρ) +ℤ w) (mul_left_comm (hd ρ) c (eval_h q ρ))
    ∙ sym (distrib_l c (eval_h p (tl ρ)) (hd ρ *ℤ eval_h q ρ))

mulc_ok : (c : ℤ) (h : H) (ρ : List ℤ) → eval_h (mulc c h) ρ ≡ c *ℤ eval_h h ρ
mulc_ok (pos zero) h ρ = sym (zero-*ℤ (eval_h h ρ))
mulc_ok (pos (suc n)) h ρ = scale_ok (pos (suc n)) h ρ
mulc_ok (negsuc n) h ρ = scale_ok (negsuc n) h ρ

mul_l_ok : (f : H → H) (v : ℤ) (ρ : List ℤ) → ((h : H) → eval_h (f h) (tl ρ) ≡ v *ℤ eval_h h (tl ρ)) → (h : H) → eval_h (mul_l f h) ρ ≡ v *ℤ eval_h h ρ
mul_l_ok f v ρ hf (const_h b) = mk_x_ok (f (const_h b)) (const_h (pos zero)) ρ ∙ ap₂ (λ a w. a +ℤ w) (hf (const_h b)) (*ℤ-zero (hd ρ)) ∙ +ℤ_idr (v *ℤ b)
mul_l_ok f v ρ hf (plus_x p q) =
    mk_x_ok (f p) (mul_l f q) ρ
    ∙ ap₂ (λ a w. a +ℤ hd ρ *ℤ w) (hf p) (mul_l_ok f v ρ hf q)
    ∙ ap (λ w. v *ℤ eval_h p (tl ρ) +ℤ w) (mul_left_comm (hd ρ) v (eval_h q ρ))
    ∙ sym (distrib_l v (eval_h p (tl ρ)) (hd ρ *ℤ eval_h q ρ))

mul_ok : (g h : H) (ρ : List ℤ) → eval_h (mul g h) ρ ≡ eval_h g ρ *ℤ eval_h h ρ
mul_ok (const_h a) h ρ = mulc_ok a h ρ
mul_ok (plus_x p q) h ρ =
    add_ok (mul_l (λ z. mul p z) h) (mk_x (const_h (pos zero)) (mul q h)) ρ
    ∙ ap₂ (λ a b. a +ℤ b)
    (mul_l_ok (λ z. mul p z) (eval_h p (tl ρ)) ρ (λ z. mul_ok p z (tl ρ)) h)
    (mk_x_ok (const_h (pos zero)) (mul q h) ρ ∙ +ℤ_idl (hd ρ *ℤ eval_h (mul q h) ρ) ∙ ap (λ w. hd ρ *ℤ w) (mul_ok q h ρ) ∙ sym (*ℤ-assoc (hd ρ) (eval_h q ρ) (eval_h h ρ)))
    ∙ sym (distrib_r (eval_h p (tl ρ)) (hd ρ *ℤ eval_h q ρ) (eval_h h ρ))

hvar_ok : (i : ℕ) (ρ : List ℤ) → eval_h (hvar i) ρ ≡ nth i ρ
hvar_ok zero ρ = +ℤ_idl (hd ρ *ℤ pos 1) ∙ *ℤ_comm (hd ρ) (pos 1) ∙ one_*ℤ (hd ρ)
hvar_ok (suc i) ρ = ap₂ (λ a b. a +ℤ b) (hvar_ok i (tl ρ)) (*ℤ-zero (hd ρ)) ∙ +ℤ_idr (nth i (tl ρ))

pub norm_ok : (e : E) (ρ : List ℤ) → eval_h (norm e) ρ ≡ eval e ρ
norm_ok (var i) ρ = hvar_ok i ρ
norm_ok (con z) ρ = refl
norm_ok (a ⊕ b) ρ = add_ok (norm a) (norm b) ρ ∙ ap₂ (λ v w. v +ℤ w) (norm_ok a ρ) (norm_ok b ρ)
norm_ok (a ⊗ b) ρ = mul_ok (norm a) (norm b) ρ ∙ ap₂ (λ v w. v *ℤ w) (norm_ok a ρ) (norm_ok b ρ)
norm_ok (⊝ a) ρ = neg_ok (norm a) ρ ∙ ap neg_ℤ (norm_ok a ρ)

pub is_z_ok : (z : ℤ) → T (is_z z) → z ≡ pos zero
is_z_ok (pos n) t = ap pos (eqb→eq n 0 t)
is_z_ok (negsuc n) t = absurd t

pub and_l : (a b : Bool) → T (and a b) → T a
and_l true b t = tt
and_l false b t = t

pub and_r : (a b : Bool) → T (and a b) → T b
and_r true b t = t
and_r false b t = absurd t

pub is_zero_ok : (h : H) → T (is_zero h) → (ρ : List ℤ) → eval_h h ρ ≡ pos zero
is_zero_ok (const_h z) t ρ = is_z_ok z t
is_zero_ok (plus_x p q) t ρ =
    ap₂ (λ a b. a +ℤ hd ρ *ℤ b) (is_zero_ok p (and_l (is_zero p) (is_zero q) t) (tl ρ)) (is_zero_ok q (and_r (is_zero p) (is_zero q) t) ρ)
    ∙ +ℤ_idl (hd ρ *ℤ pos zero) ∙ *ℤ-zero (hd ρ)

-- ---- the test that decides an identity, and the theorem

abbrev pub same : E → E → Bool
same a b = is_zero (norm (a ⊖ b))

pub ring : (a b : E) → T (same a b) → (ρ : List ℤ) → eval a ρ ≡ eval b ρ
ring a b t ρ =
    sym (-ℤ-+ℤ_cancel (eval a ρ) (eval b ρ))
    ∙ ap (λ w. w +ℤ eval b ρ) (sym (norm_ok (a ⊖ b) ρ) ∙ is_zero_ok (norm (a ⊖ b)) t ρ)
    ∙ +ℤ_idl (eval b ρ)
