-- The laws of `first`: what a loop meets at each turn (a hit, a miss, the end), what an answer says, and that it looks at nothing else than the numbers that it passes.
use Rattle.whole.proofs.Base.{◌≡◌, refl, sym, ap, ◌∙◌, Bool, true, false, not, cond, ◌&&◌, ◌||◌, true≢false, false≢true, not-true, not-false, Option, none, some, ℕ, zero, suc, ◌+◌, ◌-◌, ◌<◌, ◌≤◌, arith, add-one, add-zero, ℕ_discrete}
use native.Mathlib.Nat.{sub-zero, zero-add}
use Rattle.std.specs.List.{list_any, list_all, range_with_len}
use Rattle.whole.specs.First.{first, found?, some_below?, every_below?}

-- ---- a loop that searches the numbers below n from some place on, and stands at i: what it will find is what the whole search finds. It begins so, it goes on so where i
-- doesn't pass, and it ends with i where i passes, or with none.

pub record StandingFrom (from : ℕ) (t : ℕ → Bool) (n i : ℕ) : Type 0 where
  pub rest : first t (n - from) from ≡ first t (n - i) i

pub begins_from : {from : ℕ} {t : ℕ → Bool} {n : ℕ} → StandingFrom from t n from
begins_from = record { rest = refl }

module _ {from : ℕ} {t : ℕ → Bool} {n i : ℕ} (s : StandingFrom from t n i) where
  pub misses_from : i < n → t i ≡ false → StandingFrom from t n (i + 1)
  unfolding first
  misses_from h e = let k : n - i ≡ suc (n - suc i) = omega arith in record { rest = s.rest ∙ rw (k, e, add-one) }

  pub hits_from : i < n → t i ≡ true → first t (n - from) from ≡ some i
  unfolding first
  hits_from h e = let k : n - i ≡ suc (n - suc i) = omega arith in s.rest ∙ rw (k, e)

  pub ends_from : n ≤ i → first t (n - from) from ≡ none
  unfolding first
  ends_from h = let k : n - i ≡ 0 = omega arith in s.rest ∙ rw k

-- from 0 on

abbrev pub Standing : (ℕ → Bool) → ℕ → ℕ → Type 0
Standing t n i = StandingFrom 0 t n i

pub begins : {t : ℕ → Bool} {n : ℕ} → Standing t n 0
begins = begins_from

module _ {t : ℕ → Bool} {n i : ℕ} (s : Standing t n i) where
  pub misses : i < n → t i ≡ false → Standing t n (i + 1)
  misses h e = misses_from s h e

  pub hits : i < n → t i ≡ true → first t n 0 ≡ some i
  hits h e = rw (← (sub-zero n)) (hits_from s h e)

  pub ends : n ≤ i → first t n 0 ≡ none
  ends h = rw (← (sub-zero n)) (ends_from s h)

-- ---- what the answer says: the number found passes, and none before it does

pub record Found (t : ℕ → Bool) (k i j : ℕ) : Type 0 where
  pub from : i ≤ j
  pub below : j < i + k
  pub passes : t j ≡ true
  pub before : (l : ℕ) → i ≤ l → l < j → t l ≡ false

here_or_later : (t : ℕ → Bool) (b : Bool) (i l : ℕ) → t i ≡ b → (suc i ≤ l → t l ≡ b) → i ≤ l → t l ≡ b
here_or_later t b i l e f h = elim (ℕ_discrete i l) [ yes p ↦ ap t (sym p) ∙ e | no q ↦ f (omega arith) ]

some_one : {i j : ℕ} → some i ≡ some j → i ≡ j
some_one e = cc

none_some : {j : ℕ} → none ≡ some j → ⊥
none_some e = let z : ◌≡◌ {A = ℕ} 0 1 = cc in omega arith

first_by : (t : ℕ → Bool) (k i j : ℕ) (b : Bool) → t i ≡ b → (first t k (suc i) ≡ some j → Found t k (suc i) j) → cond b (some i) (first t k (suc i)) ≡ some j → Found t (suc k) i j
first_by t k i j true p rest e =
    let q : i ≡ j = some_one e in
    record { from = omega arith; below = omega arith; passes = ap t (sym q) ∙ p; before = λ l u v. absurd (omega arith) }
first_by t k i j false p rest e =
    let f = rest e in
    record { from = omega (arith, f.from); below = omega (arith, f.below); passes = f.passes; before = λ l u v. here_or_later t false i l p (λ w. f.before l w v) u }

pub first_found : (t : ℕ → Bool) (k i j : ℕ) → first t k i ≡ some j → Found t k i j
unfolding first
first_found t zero i j e = absurd (none_some e)
first_found t (suc k) i j e = first_by t k i j (t i) refl (first_found t k (suc i) j) e

none_by : (t : ℕ → Bool) (k i l : ℕ) (b : Bool) → t i ≡ b → (first t k (suc i) ≡ none → suc i ≤ l → t l ≡ false) → cond b (some i) (first t k (suc i)) ≡ none → i ≤ l → t l ≡ false
none_by t k i l true p rest e u = absurd (none_some (sym e))
none_by t k i l false p rest e u = here_or_later t false i l p (rest e) u

pub first_none : (t : ℕ → Bool) (k i : ℕ) → first t k i ≡ none → (l : ℕ) → i ≤ l → l < i + k → t l ≡ false
unfolding first
first_none t zero i e l u v = absurd (omega arith)
first_none t (suc k) i e l u v = none_by t k i l (t i) refl (λ e w. first_none t k (suc i) e l w (omega arith)) e u

-- ---- and back: the number that passes, with none before it that does, is found

found_by : (t : ℕ → Bool) (k i j : ℕ) (b : Bool) → t i ≡ b → Dec (i ≡ j) → Found t (suc k) i j → (Found t k (suc i) j → first t k (suc i) ≡ some j) → cond b (some i) (first t k (suc i)) ≡ some j
found_by t k i j true p (yes q) f rest = ap some q
found_by t k i j true p (no q) f rest = let z : true ≡ false = sym p ∙ f.before i (omega arith) (omega (arith, f.from)) in cc
found_by t k i j false p (yes q) f rest = let z : true ≡ false = sym f.passes ∙ ap t (sym q) ∙ p in cc
found_by t k i j false p (no q) f rest =
    rest (record { from = omega (arith, f.from); below = omega (arith, f.below); passes = f.passes; before = λ l u v. f.before l (omega arith) v })

pub found_first : (t : ℕ → Bool) (k i j : ℕ) → Found t k i j → first t k i ≡ some j
unfolding first
found_first t zero i j f = absurd (omega (arith, f.from, f.below))
found_first t (suc k) i j f = found_by t k i j (t i) refl (ℕ_discrete i j) f (found_first t k (suc i) j)

pub none_first : (t : ℕ → Bool) (k i : ℕ) → ((l : ℕ) → i ≤ l → l < i + k → t l ≡ false) → first t k i ≡ none
unfolding first
none_first t zero i f = refl
none_first t (suc k) i f = rw (f i (omega arith) (omega arith)) (none_first t k (suc i) (λ l u v. f l (omega arith) (omega arith)))

-- ---- a search parted in two finds something where one of its parts does

pub found_split : (t : ℕ → Bool) (m k i : ℕ) → found? (first t (m + k) i) ≡ (found? (first t m i) || found? (first t k (i + m)))
unfolding first
found_split t zero k i = rw (zero-add k, add-zero i)
found_split t (suc m) k i =
    let e : suc m + k ≡ suc (m + k) = omega arith in
    let f : i + suc m ≡ suc i + m = omega arith in
    rw (e, f) (by (t i) (found_split t m k (suc i)))
  where
    by : (b : Bool) → found? (first t (m + k) (suc i)) ≡ (found? (first t m (suc i)) || found? (first t k (suc i + m))) →
        found? (cond b (some i) (first t (m + k) (suc i))) ≡ (found? (cond b (some i) (first t m (suc i))) || found? (first t k (suc i + m)))
    by true rest = refl
    by false rest = rest

-- ---- two tests that agree on the numbers passed find the same

pub first_same : (t s : ℕ → Bool) (k i : ℕ) → ((l : ℕ) → i ≤ l → l < i + k → t l ≡ s l) → first t k i ≡ first s k i
unfolding first
first_same t s zero i f = refl
first_same t s (suc k) i f = rw (f i (omega arith) (omega arith), first_same t s k (suc i) (λ l u v. f l (omega arith) (omega arith)))

-- ---- some number below n passes, and every one does

pub record Passing (t : ℕ → Bool) (n : ℕ) : Type 0 where
  pub number : ℕ
  pub below : number < n
  pub passes : t number ≡ true

pub some_passes : (t : ℕ → Bool) (n : ℕ) → some_below? t n ≡ true → Passing t n
some_passes t n p = by (first t n 0) refl p
  where
    by : (o : Option ℕ) → first t n 0 ≡ o → found? o ≡ true → Passing t n
    by none e p = absurd (false≢true p)
    by (some a) e p = let f = first_found t n 0 a e in record { number = a; below = omega (arith, f.below); passes = f.passes }

pub none_passes : (t : ℕ → Bool) (n : ℕ) → some_below? t n ≡ false → (a : ℕ) → a < n → t a ≡ false
none_passes t n p a h = by (first t n 0) refl p
  where
    by : (o : Option ℕ) → first t n 0 ≡ o → found? o ≡ false → t a ≡ false
    by none e p = first_none t n 0 e a (omega arith) (omega arith)
    by (some b) e p = absurd (true≢false p)

pub every_passes : (t : ℕ → Bool) (n : ℕ) → every_below? t n ≡ true → (a : ℕ) → a < n → t a ≡ true
every_passes t n p a h = not-false (t a) (none_passes (λ a. not (t a)) n (not-true (some_below? (λ a. not (t a)) n) p) a h)

pub one_fails : (t : ℕ → Bool) (n : ℕ) → every_below? t n ≡ false → Passing (λ a. not (t a)) n
one_fails t n p = some_passes (λ a. not (t a)) n (not-false (some_below? (λ a. not (t a)) n) p)

pub some_same : (t s : ℕ → Bool) (n : ℕ) → ((a : ℕ) → a < n → t a ≡ s a) → some_below? t n ≡ some_below? s n
some_same t s n f = ap found? (first_same t s n 0 (λ a i k. f a (omega arith)))

pub every_same : (t s : ℕ → Bool) (n : ℕ) → ((a : ℕ) → a < n → t a ≡ s a) → every_below? t n ≡ every_below? s n
every_same t s n f = ap not (some_same (λ a. not (t a)) (λ a. not (s a)) n (λ a h. ap not (f a h)))

-- ---- what the library's `any` and `all` look for among the k numbers from i on

or_found : (b : Bool) {r : Bool} (i : ℕ) (o : Option ℕ) → r ≡ found? o → (b || r) ≡ found? (cond b (some i) o)
or_found true i o e = refl
or_found false i o e = e

and_found : (b : Bool) {r : Bool} (i : ℕ) (o : Option ℕ) → r ≡ not (found? o) → (b && r) ≡ not (found? (cond (not b) (some i) o))
and_found true i o e = e
and_found false i o e = refl

pub any_first : (t : ℕ → Bool) (k i : ℕ) → list_any t (range_with_len i k) ≡ found? (first t k i)
unfolding first
any_first t zero i = refl
any_first t (suc k) i = let e : i + 1 ≡ suc i = omega arith in or_found (t i) i _ (any_first t k (i + 1) ∙ ap (λ (j : ℕ). found? (first t k j)) e)

pub all_first : (t : ℕ → Bool) (k i : ℕ) → list_all t (range_with_len i k) ≡ not (found? (first (λ a. not (t a)) k i))
unfolding first
all_first t zero i = refl
all_first t (suc k) i = let e : i + 1 ≡ suc i = omega arith in and_found (t i) i _ (all_first t k (i + 1) ∙ ap (λ (j : ℕ). not (found? (first (λ a. not (t a)) k j))) e)
