-- A search for certificates. Nothing is proved of it, and nothing need be: what it finds goes through the test of proofs/Certificate.antt.
--
-- Each fact is a polynomial that is at least 0 (or 0 itself). Take every monomial for an unknown of its own: then a contradiction among the facts is one of linear
-- algebra, a sum of them, each taken some number of times, in which all monomials fall out and a number is left that should not be. The simplex method finds it.
-- A row `row k p bs` says that p + Σ bs[j]·s[j] = 0, where s[j] is the j-th fact's polynomial. `gauss` eliminates the monomials, so that p is a number; then s[k] is the
-- row's basic unknown, with bs[k] above 0, and `simplex` exchanges basic unknowns. A row with p above 0 and no bs[j] below 0 is the contradiction.
--
-- What others name: `linear`, `quadratic` and `&`, which say what products of facts to search among: `from linear & h 1 ⊠ h 2`. All else serves `find`. It is public,
-- and each function an `abbrev`, since it runs wherever a claim is checked. For that reason the gcd of specs/Divisor.antt is not used for rows: it is shut in other
-- modules, so that contracts which name it stay short, and would not compute there.
use Rattle.whole.proofs.Base.{Bool, true, false, cond, List, [], ◌∷◌, ◌++◌, Option, none, some, ℕ, zero, suc, ◌%◌, T, ltb, eqb, ℤ, pos, negsuc, neg_ℤ, nat_abs, ◌+ℤ◌, ◌*ℤ◌, quot_z}
use Rattle.whole.proofs.Polynomial.{con, H, const_h, plus_x, nth, norm, add, neg, scale, is_z, and, and_l, and_r}
use Rattle.whole.proofs.Order.{≤-antisym}
use Rattle.whole.proofs.Sign.{Sgn, nn, ps, zr}
use Rattle.whole.proofs.Certificate.{Atom, ◌≦◌, ◌≺◌, ◌≈◌, never, Holds, AllH, is_zr, proves, proves_ok, lead, Cert, h, num, ◌⊞◌, ◌⊠◌, ◌⊡◌, dec, sgn, poly}

-- ---- the monomials of a normal form, by their place in it

abbrev pub Place : Type 0
Place = List Bool

-- the place of some monomial other than the constant: false to the left, true to the right
abbrev pub key : H → Bool → Option Place
key (const_h z) false = none
key (const_h z) true = cond (is_z z) none (some [])
key (plus_x p q) r = elim (key p r) [ some π ↦ some (false ∷ π) | none ↦ elim (key q true) [ some π ↦ some (true ∷ π) | none ↦ none ] ]

abbrev pub coef : Place → H → ℤ
coef [] (const_h z) = z
coef [] (plus_x p q) = coef [] p
coef (false ∷ π) (const_h z) = coef π (const_h z)
coef (false ∷ π) (plus_x p q) = coef π p
coef (true ∷ π) (const_h z) = pos 0
coef (true ∷ π) (plus_x p q) = coef π q

-- ---- rows

pub data Row : Type 0 where
  row : ℕ → H → List ℤ → Row

-- rows are divided by the greatest common divisor of their numbers, to keep these small
abbrev pub gcd_f : ℕ → ℕ → ℕ → ℕ
gcd_f zero a b = a
gcd_f (suc k) a zero = a
gcd_f (suc k) a (suc b) = gcd_f k (suc b) (a % suc b)

abbrev pub gcd_z : ℕ → ℤ → ℕ
gcd_z g z = gcd_f 1000 (nat_abs z) g

abbrev pub gcd_l : ℕ → List ℤ → ℕ
gcd_l g [] = g
gcd_l g (z ∷ zs) = gcd_l (gcd_z g z) zs

abbrev pub gcd_h : H → ℕ → ℕ
gcd_h (const_h z) g = gcd_z g z
gcd_h (plus_x p q) g = gcd_h q (gcd_h p g)

abbrev pub div_l : ℕ → List ℤ → List ℤ
div_l g [] = []
div_l g (z ∷ zs) = quot_z z (pos g) ∷ div_l g zs

abbrev pub div_h : ℕ → H → H
div_h g (const_h z) = const_h (quot_z z (pos g))
div_h g (plus_x p q) = plus_x (div_h g p) (div_h g q)

abbrev pub mix_l : ℤ → List ℤ → ℤ → List ℤ → List ℤ
mix_l a [] b ys = []
mix_l a (x ∷ xs) b [] = []
mix_l a (x ∷ xs) b (y ∷ ys) = (a *ℤ x +ℤ b *ℤ y) ∷ mix_l a xs b ys

abbrev pub tidy : ℕ → ℕ → H → List ℤ → Row
tidy zero k p bs = row k p bs
tidy (suc zero) k p bs = row k p bs
tidy (suc (suc g)) k p bs = row k (div_h (suc (suc g)) p) (div_l (suc (suc g)) bs)

abbrev pub neat : ℕ → H → List ℤ → Row
neat k p bs = tidy (gcd_l (gcd_h p 0) bs) k p bs

-- the row without what stands at a, b of the two: |a| times it, and what is due of the other
abbrev pub clear : ℤ → H → List ℤ → ℤ → ℕ → H → List ℤ → Row
clear a p bs (pos zero) k q cs = row k q cs
clear (pos a) p bs (pos (suc b)) k q cs = neat k (add (scale (pos a) q) (scale (negsuc b) p)) (mix_l (pos a) cs (negsuc b) bs)
clear (pos a) p bs (negsuc b) k q cs = neat k (add (scale (pos a) q) (scale (pos (suc b)) p)) (mix_l (pos a) cs (pos (suc b)) bs)
clear (negsuc a) p bs (pos (suc b)) k q cs = neat k (add (scale (pos (suc a)) q) (scale (pos (suc b)) p)) (mix_l (pos (suc a)) cs (pos (suc b)) bs)
clear (negsuc a) p bs (negsuc b) k q cs = neat k (add (scale (pos (suc a)) q) (scale (negsuc b) p)) (mix_l (pos (suc a)) cs (negsuc b) bs)

abbrev pub clear_at : Place → ℤ → H → List ℤ → List Row → List Row
clear_at π a p bs [] = []
clear_at π a p bs (row k q cs ∷ rs) = clear a p bs (coef π q) k q cs ∷ clear_at π a p bs rs

-- the monomials eliminated: a row with one is solved for it, put into the others, and dropped
abbrev pub gauss : ℕ → List Row → List Row
gauss zero rs = []
gauss (suc n) [] = []
gauss (suc n) (row k p bs ∷ rs) = elim (key p false) [ none ↦ row k p bs ∷ gauss n rs | some π ↦ gauss n (clear_at π (coef π p) p bs rs) ]

-- ---- the simplex method. `es` says which facts are equations

abbrev pub first_neg : ℕ → List Bool → List ℤ → Option ℕ
first_neg i [] bs = none
first_neg i (e ∷ es) [] = none
first_neg i (e ∷ es) (pos n ∷ bs) = first_neg (suc i) es bs
first_neg i (true ∷ es) (negsuc n ∷ bs) = first_neg (suc i) es bs
first_neg i (false ∷ es) (negsuc n ∷ bs) = some i

abbrev pub is_eqn : ℕ → List Bool → Bool
is_eqn i [] = false
is_eqn zero (e ∷ es) = e
is_eqn (suc i) (e ∷ es) = is_eqn i es

-- the row of the least basic unknown, of those that are not satisfied: the number is above 0, or, of an equation, not 0
abbrev pub bad : Bool → ℤ → Bool
bad e (pos zero) = false
bad e (pos (suc n)) = true
bad e (negsuc n) = e

abbrev pub lower : ℕ → H → List ℤ → Option Row → Option Row
lower k p bs none = some (row k p bs)
lower k p bs (some (row j q cs)) = cond (ltb j k) (some (row j q cs)) (some (row k p bs))

abbrev pub pick : List Bool → List Row → Option Row
pick es [] = none
pick es (row k p bs ∷ rs) = cond (bad (is_eqn k es) (lead p)) (lower k p bs (pick es rs)) (pick es rs)

abbrev pub neg_l : List ℤ → List ℤ
neg_l [] = []
neg_l (z ∷ zs) = neg_ℤ z ∷ neg_l zs

-- s[j] made basic in the row of s[i]
abbrev pub pivot : ℕ → ℕ → H → List ℤ → List Row → List Row
pivot i j p bs [] = []
pivot i j p bs (row k q cs ∷ rs) = cond (eqb k i) (row j p bs) (clear (nth j bs) p bs (nth j cs) k q cs) ∷ pivot i j p bs rs

abbrev pub simplex : ℕ → List Bool → List Row → Option (List ℤ)
simplex zero es rs = none
simplex (suc n) es rs = elim (pick es rs) [
  | none ↦ none
  | some (row i p bs) ↦ elim (first_neg 0 es bs) [ none ↦ some bs | some j ↦ simplex n es (pivot i j (neg p) (neg_l bs) rs) ]
]

-- ---- from the facts to rows, and from a row to a certificate

abbrev pub dec_c : Sgn → Cert → Cert
dec_c nn c = c
dec_c ps c = dec c
dec_c zr c = c

-- ---- what to multiply: `linear & h 1 ⊠ h 2 & ..`

infixl 5 ◌&◌
pub data Hints : Type 0 where
  linear : Hints
  quadratic : Hints
  ◌&◌ : Hints → Cert → Hints

-- `quadratic` multiplies the facts, the negated goal among them, with one another
abbrev pub times_all : Cert → List Cert → List Cert
times_all c [] = []
times_all c (d ∷ ds) = (c ⊠ d) ∷ times_all c ds

abbrev pub pairs : List Cert → List Cert
pairs [] = []
pairs (c ∷ cs) = times_all c (c ∷ cs) ++ pairs cs

abbrev pub hinted : List Cert → Hints → List Cert
hinted gs linear = []
hinted gs quadratic = pairs gs
hinted gs (hn & c) = c ∷ hinted gs hn

abbrev pub given : ℕ → List Atom → List Cert
given i [] = []
given i (a ∷ gs) = h i ∷ given (suc i) gs

-- the equations come first
abbrev pub sort : List Atom → List Cert → List Cert → List Cert
sort hs [] ds = ds
sort hs (c ∷ cs) ds = let s = sgn hs c in elim (is_zr s) [ true ↦ c ∷ sort hs cs ds | false ↦ sort hs cs (dec_c s c ∷ ds) ]

-- 0 < p as 0 ≤ p - 1, from which products say more
abbrev pub whole : List Atom → List Cert → List Cert
whole hs [] = []
whole hs (c ∷ cs) = dec_c (sgn hs c) c ∷ whole hs cs

abbrev pub flags : List Atom → List Cert → List Bool
flags hs [] = []
flags hs (c ∷ cs) = is_zr (sgn hs c) ∷ flags hs cs

-- 1 at place i, else 0; after it a place that no list has
abbrev pub units : ℕ → List Cert → List ℤ
units i [] = []
units zero (c ∷ cs) = pos 1 ∷ units 1000000 cs
units (suc i) (c ∷ cs) = pos 0 ∷ units i cs

abbrev pub rows : List Atom → List Cert → ℕ → List Cert → List Row
rows hs cs i [] = []
rows hs cs i (d ∷ ds) = row i (neg (norm (poly hs d))) (units i cs) ∷ rows hs cs (suc i) ds

abbrev pub times : Bool → ℤ → Cert → Cert → Cert
times true z c w = con z ⊡ c ⊞ w
times false (pos zero) c w = w
times false (pos (suc n)) c w = num (suc n) ⊠ c ⊞ w
times false (negsuc n) c w = w

abbrev pub total : List Bool → List ℤ → List Cert → Cert
total [] bs cs = num 0
total (e ∷ es) [] cs = num 0
total (e ∷ es) (b ∷ bs) [] = num 0
total (e ∷ es) (b ∷ bs) (c ∷ cs) = times e b c (total es bs cs)

abbrev pub cert : List Bool → List Cert → Option (List ℤ) → Cert
cert es cs none = num 0
cert es cs (some bs) = total es bs cs

-- ---- the search, of the facts with the goal's negation before them: `num 0`, which proves nothing, where none is found

abbrev pub find : List Atom → Hints → Cert
find hs hn =
    let gs = whole hs (given 0 hs) in
    let cs = sort hs (gs ++ hinted gs hn) [] in
    let es = flags hs cs in
    cert es cs (simplex 200 es (gauss 200 (rows hs cs 0 cs)))

abbrev pub finds : List Atom → Atom → Hints → Bool
finds hs (a ≦ b) hn = proves hs (a ≦ b) (find ((b ≺ a) ∷ hs) hn)
finds hs (a ≺ b) hn = proves hs (a ≺ b) (find ((b ≦ a) ∷ hs) hn)
finds hs (a ≈ b) hn = and (proves hs (a ≦ b) (find ((b ≺ a) ∷ hs) hn)) (proves hs (b ≦ a) (find ((a ≺ b) ∷ hs) hn))
finds hs never hn = proves hs never (find ((con (pos 0) ≦ con (pos 0)) ∷ hs) hn)

pub finds_ok : (hs : List Atom) (g : Atom) (hn : Hints) → T (finds hs g hn) → (ρ : List ℤ) → AllH hs ρ → Holds g ρ
finds_ok hs (a ≦ b) hn t ρ k = proves_ok hs (a ≦ b) (find ((b ≺ a) ∷ hs) hn) t ρ k
finds_ok hs (a ≺ b) hn t ρ k = proves_ok hs (a ≺ b) (find ((b ≦ a) ∷ hs) hn) t ρ k
finds_ok hs (a ≈ b) hn t ρ k =
    let u = proves hs (a ≦ b) (find ((b ≺ a) ∷ hs) hn) in
    let v = proves hs (b ≦ a) (find ((a ≺ b) ∷ hs) hn) in
    ≤-antisym (proves_ok hs (a ≦ b) (find ((b ≺ a) ∷ hs) hn) (and_l u v t) ρ k) (proves_ok hs (b ≦ a) (find ((a ≺ b) ∷ hs) hn) (and_r u v t) ρ k)
finds_ok hs never hn t ρ k = proves_ok hs never (find ((con (pos 0) ≦ con (pos 0)) ∷ hs) hn) t ρ k
