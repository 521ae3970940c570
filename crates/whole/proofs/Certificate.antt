-- Certificates: why some inequalities of polynomials entail another, as a term that a test can check; and the proof that the test is right.
--
-- To show that facts entail a goal, add the goal's negation to them, and find a sum of products of them all that is impossible. Of 0 < a and 0 < a·b, to show 0 < b:
-- `h 1 ⊠ h 0 ⊞ h 2`, where h 1 is the first fact, h 2 the second, and h 0 the negation b ≤ 0, read as 0 ≤ −b. It says a·(−b) + a·b, which is 0, and by the signs
-- of its parts it is above 0. `proves facts goal certificate` is the test, by the normal form of proofs/Polynomial.antt, and `proves_ok` the theorem.
-- A goal that is an equation takes a certificate of equations instead: a sum of multiples `e ⊡ h i` of facts that are equations.
--
-- What others name: the facts ≦ ≺ ≈ `never`, and the certificate's parts: `h i`, `num n` for a number, `sq e` for a square, ⊞ and ⊠ for sum and product, `e ⊡ c` for an
-- equation times any expression, `dec c` for 0 ≤ x − 1 from 0 < x. The statements are written with proofs/Claim.antt. Private: the law of each part (`cert_ok`, ..).
use Rattle.whole.proofs.Base.{◌≡◌, refl, sym, ◌∙◌, ap, ap₂, subst, Bool, true, false, List, [], ◌∷◌, ℕ, zero, suc, T, ℤ, pos, negsuc, ◌+ℤ◌, ◌*ℤ◌, ◌-ℤ◌, +ℤ_idl, +ℤ_idr, *ℤ-zero, ◌≤ℤ◌, ◌<ℤ◌}
use lib.Signed.{≤ℤ_refl}
use Rattle.whole.proofs.Polynomial.{E, con, ◌⊕◌, ◌⊖◌, ◌⊗◌, eval, H, const_h, plus_x, eval_h, hd, tl, norm, norm_ok, is_zero, is_zero_ok, and, and_l, and_r}
use Rattle.whole.proofs.Sign.{Sgn, nn, ps, zr, Sat, add_s, mul_s, num_s, dec_s, wrong, add_s_ok, mul_zr, mul_s_ok, num_ok, wrong_ok}
use Rattle.whole.proofs.Order.{sub_of_le, sub_of_lt, nn_sq, ps_dec, ≤-by, <-by}

-- ---- facts and goals

infix 5 ◌≦◌ ◌≺◌ ◌≈◌
pub data Atom : Type 0 where
  ◌≦◌ : E → E → Atom
  ◌≺◌ : E → E → Atom
  ◌≈◌ : E → E → Atom
  never : Atom

abbrev pub Holds : Atom → List ℤ → Type 0
Holds (a ≦ b) ρ = eval a ρ ≤ℤ eval b ρ
Holds (a ≺ b) ρ = eval a ρ <ℤ eval b ρ
Holds (a ≈ b) ρ = eval a ρ ≡ eval b ρ
Holds never ρ = ⊥

-- ---- certificates. Of each: the polynomial that it stands for (`poly`), and what is known of its sign (`sgn`)

infixl 6 ◌⊞◌
infixl 7 ◌⊠◌ ◌⊡◌
pub data Cert : Type 0 where
  h : ℕ → Cert
  num : ℕ → Cert
  sq : E → Cert
  ◌⊞◌ : Cert → Cert → Cert
  ◌⊠◌ : Cert → Cert → Cert
  ◌⊡◌ : E → Cert → Cert
  dec : Cert → Cert

-- a fact there is not is 0 ≤ 0
abbrev pub nth_a : List Atom → ℕ → Atom
nth_a [] i = con (pos 0) ≦ con (pos 0)
nth_a (a ∷ hs) zero = a
nth_a (a ∷ hs) (suc i) = nth_a hs i

abbrev pub sgn_a : Atom → Sgn
sgn_a (a ≦ b) = nn
sgn_a (a ≺ b) = ps
sgn_a (a ≈ b) = zr
sgn_a never = nn

abbrev pub poly_a : Atom → E
poly_a (a ≦ b) = b ⊖ a
poly_a (a ≺ b) = b ⊖ a
poly_a (a ≈ b) = b ⊖ a
poly_a never = con (negsuc 0)

abbrev pub sgn : List Atom → Cert → Sgn
sgn hs (h i) = sgn_a (nth_a hs i)
sgn hs (num n) = num_s n
sgn hs (sq e) = nn
sgn hs (c ⊞ d) = add_s (sgn hs c) (sgn hs d)
sgn hs (c ⊠ d) = mul_s (sgn hs c) (sgn hs d)
sgn hs (e ⊡ c) = zr
sgn hs (dec c) = dec_s (sgn hs c)

abbrev pub dec_p : Sgn → E → E
dec_p nn e = e
dec_p ps e = e ⊖ con (pos 1)
dec_p zr e = e

-- e·p, where p is 0; else 0, so that the sign is right in any case
abbrev pub any_p : Sgn → E → E → E
any_p nn e p = con (pos 0)
any_p ps e p = con (pos 0)
any_p zr e p = e ⊗ p

abbrev pub poly : List Atom → Cert → E
poly hs (h i) = poly_a (nth_a hs i)
poly hs (num n) = con (pos n)
poly hs (sq e) = e ⊗ e
poly hs (c ⊞ d) = poly hs c ⊕ poly hs d
poly hs (c ⊠ d) = poly hs c ⊗ poly hs d
poly hs (e ⊡ c) = any_p (sgn hs c) e (poly hs c)
poly hs (dec c) = dec_p (sgn hs c) (poly hs c)

-- ---- soundness: where the facts hold, the polynomial has that sign

unfoldable pub AllH : List Atom → List ℤ → Type 0
AllH [] ρ = Unit {0}
AllH (a ∷ hs) ρ = Holds a ρ × AllH hs ρ

look : (hs : List Atom) (ρ : List ℤ) → AllH hs ρ → (i : ℕ) → Holds (nth_a hs i) ρ
unfolding AllH
look [] ρ k i = ≤ℤ_refl (pos 0)
look (a ∷ hs) ρ k zero = k.0
look (a ∷ hs) ρ k (suc i) = look hs ρ k.1 i

sub_eq : (x y : ℤ) → x ≡ y → y -ℤ x ≡ pos 0
sub_eq x y e = ap (λ w. y -ℤ w) e ∙ lib.IntN.+ℤ_invr y

atom_ok : (a : Atom) (ρ : List ℤ) → Holds a ρ → Sat (sgn_a a) (eval (poly_a a) ρ)
atom_ok (a ≦ b) ρ k = sub_of_le k
atom_ok (a ≺ b) ρ k = sub_of_lt k
atom_ok (a ≈ b) ρ k = sub_eq (eval a ρ) (eval b ρ) k
atom_ok never ρ k = absurd k

dec_ok : (s : Sgn) (e : E) (ρ : List ℤ) → Sat s (eval e ρ) → Sat (dec_s s) (eval (dec_p s e) ρ)
dec_ok nn e ρ k = k
dec_ok ps e ρ k = ps_dec k
dec_ok zr e ρ k = k

any_ok : (s : Sgn) (e p : E) (ρ : List ℤ) → Sat s (eval p ρ) → eval (any_p s e p) ρ ≡ pos 0
any_ok nn e p ρ k = refl
any_ok ps e p ρ k = refl
any_ok zr e p ρ k = mul_zr (eval e ρ) (eval p ρ) k

cert_ok : (hs : List Atom) (ρ : List ℤ) → AllH hs ρ → (c : Cert) → Sat (sgn hs c) (eval (poly hs c) ρ)
cert_ok hs ρ k (h i) = atom_ok (nth_a hs i) ρ (look hs ρ k i)
cert_ok hs ρ k (num n) = num_ok n
cert_ok hs ρ k (sq e) = nn_sq (eval e ρ)
cert_ok hs ρ k (c ⊞ d) = add_s_ok (sgn hs c) (sgn hs d) (eval (poly hs c) ρ) (eval (poly hs d) ρ) (cert_ok hs ρ k c) (cert_ok hs ρ k d)
cert_ok hs ρ k (c ⊠ d) = mul_s_ok (sgn hs c) (sgn hs d) (eval (poly hs c) ρ) (eval (poly hs d) ρ) (cert_ok hs ρ k c) (cert_ok hs ρ k d)
cert_ok hs ρ k (e ⊡ c) = any_ok (sgn hs c) e (poly hs c) ρ (cert_ok hs ρ k c)
cert_ok hs ρ k (dec c) = dec_ok (sgn hs c) (poly hs c) ρ (cert_ok hs ρ k c)

-- ---- a contradiction: a constant that has not the sign that the certificate gives it

abbrev pub lead : H → ℤ
lead (const_h z) = z
lead (plus_x p q) = lead p

abbrev pub is_const : H → Bool
is_const (const_h z) = true
is_const (plus_x p q) = and (is_const p) (is_zero q)

abbrev pub refutes : Sgn → H → Bool
refutes s p = and (wrong s (lead p)) (is_const p)

const_ok : (p : H) → T (is_const p) → (ρ : List ℤ) → eval_h p ρ ≡ lead p
const_ok (const_h z) t ρ = refl
const_ok (plus_x p q) t ρ =
    ap₂ (λ a b. a +ℤ hd ρ *ℤ b) (const_ok p (and_l (is_const p) (is_zero q) t) (tl ρ)) (is_zero_ok q (and_r (is_const p) (is_zero q) t) ρ)
    ∙ ap (λ w. lead p +ℤ w) (*ℤ-zero (hd ρ)) ∙ +ℤ_idr (lead p)

refutes_ok : (hs : List Atom) (c : Cert) → T (refutes (sgn hs c) (norm (poly hs c))) → (ρ : List ℤ) → AllH hs ρ → ⊥
refutes_ok hs c t ρ k =
    let p = norm (poly hs c) in
    wrong_ok (sgn hs c) (lead p) (and_l (wrong (sgn hs c) (lead p)) (is_const p) t)
    (subst (λ z. Sat (sgn hs c) z) (sym (norm_ok (poly hs c) ρ) ∙ const_ok p (and_r (wrong (sgn hs c) (lead p)) (is_const p) t) ρ) (cert_ok hs ρ k c))

-- ---- goals

abbrev pub is_zr : Sgn → Bool
is_zr nn = false
is_zr ps = false
is_zr zr = true

-- an order is proved by contradiction, with its negation as the first hypothesis; an equation as a combination of equations
abbrev pub proves : List Atom → Atom → Cert → Bool
proves hs (a ≦ b) c = refutes (sgn ((b ≺ a) ∷ hs) c) (norm (poly ((b ≺ a) ∷ hs) c))
proves hs (a ≺ b) c = refutes (sgn ((b ≦ a) ∷ hs) c) (norm (poly ((b ≦ a) ∷ hs) c))
proves hs (a ≈ b) c = and (is_zr (sgn ((a ≈ a) ∷ hs) c)) (is_zero (norm ((a ⊖ b) ⊖ poly ((a ≈ a) ∷ hs) c)))
proves hs never c = refutes (sgn ((con (pos 0) ≦ con (pos 0)) ∷ hs) c) (norm (poly ((con (pos 0) ≦ con (pos 0)) ∷ hs) c))

eq_ok : (s : Sgn) → T (is_zr s) → (z : ℤ) → Sat s z → z ≡ pos 0
eq_ok nn t z k = absurd t
eq_ok ps t z k = absurd t
eq_ok zr t z k = k

eq_of_sub : (x y : ℤ) → x -ℤ y ≡ pos 0 → x ≡ y
eq_of_sub x y e = sym (lib.IntN.-ℤ-+ℤ_cancel x y) ∙ ap (λ w. w +ℤ y) e ∙ +ℤ_idl y

pub proves_ok : (hs : List Atom) (g : Atom) (c : Cert) → T (proves hs g c) → (ρ : List ℤ) → AllH hs ρ → Holds g ρ
unfolding AllH
proves_ok hs (a ≦ b) c t ρ k = ≤-by (λ n. refutes_ok ((b ≺ a) ∷ hs) c t ρ (n, k))
proves_ok hs (a ≺ b) c t ρ k = <-by (λ n. refutes_ok ((b ≦ a) ∷ hs) c t ρ (n, k))
proves_ok hs (a ≈ b) c t ρ k =
    let hs' = (a ≈ a) ∷ hs in
    let d = is_zr (sgn hs' c) in
    let z = is_zero (norm ((a ⊖ b) ⊖ poly hs' c)) in
    eq_of_sub (eval a ρ) (eval b ρ)
    (eq_of_sub (eval (a ⊖ b) ρ) (eval (poly hs' c) ρ) (sym (norm_ok ((a ⊖ b) ⊖ poly hs' c) ρ) ∙ is_zero_ok (norm ((a ⊖ b) ⊖ poly hs' c)) (and_r d z t) ρ)
    ∙ eq_ok (sgn hs' c) (and_l d z t) (eval (poly hs' c) ρ) (cert_ok hs' ρ (refl, k) c))
proves_ok hs never c t ρ k = refutes_ok ((con (pos 0) ≦ con (pos 0)) ∷ hs) c t ρ (≤ℤ_refl (pos 0), k)

-- ---- one more hypothesis, the last

abbrev pub snoc : List Atom → Atom → List Atom
snoc [] a = a ∷ []
snoc (b ∷ hs) a = b ∷ snoc hs a

pub snoc_ok : (hs : List Atom) (a : Atom) (ρ : List ℤ) → AllH hs ρ → Holds a ρ → AllH (snoc hs a) ρ
unfolding AllH
snoc_ok [] a ρ k x = (x, tt)
snoc_ok (b ∷ hs) a ρ k x = (k.0, snoc_ok hs a ρ k.1 x)
