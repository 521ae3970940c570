-- The laws of numbers in bytes, both ways: what was written is read back, and what was read is written back. First the sign of one number, then many.
use Rattle.whole.proofs.Laws.{◌≡◌, refl, sym, ap, ap₂, ◌∙◌, Bool, true, false, cond, List, [], ◌∷◌, ◌++◌, ℕ, zero, suc, ◌+◌, ◌*◌, ◌-◌, ◌/◌, ◌≤◌, ◌<◌, mod-add-div, arith, lt-ltb, le-ltb, ltb-true, ltb, le→leb, leb→le, length, ℤ, pos, negsuc, ◌-ℤ◌, at}
use Rattle.plane.proofs.Laws.{four, four_equal}
use Rattle.sections.proofs.Laws.{two_bytes_lem}
use borrow.Author.Tests.{ltb-false}
use mir.Syntax.{w16}
use mir.Val.{to_z, sel}
use Rattle.job_sections.specs.Layout.{two_bytes, complement, numbers_bytes, Bytes}
use Rattle.job_sections.specs.Sections.{Signed16, Sixteen, signed, number_at, numbers_in}

-- ---- the sign

pub signed_low : (u : ℕ) → u < 32768 → pos u ≡ signed u
unfolding signed
signed_low u h = rw (lt-ltb u 32768 h)

pub signed_high : (u : ℕ) → 32768 ≤ u → pos u -ℤ pos 65536 ≡ signed u
unfolding signed
signed_high u h = rw (le-ltb u 32768 h)

pub less : (u : ℕ) → u < 65536 → pos u -ℤ pos 65536 ≡ negsuc (65535 - u)
less u h = rw (lt-ltb u 65536 h) (ap negsuc (omega arith))

pub pos_16 : (n : ℕ) → n ≤ 32767 → Signed16 (pos n)
pos_16 n h = record { from = record { le = tt }; to = record { le = le→leb n 32767 h } }

pub negsuc_16 : (n : ℕ) → n ≤ 32767 → Signed16 (negsuc n)
negsuc_16 n h = record { from = record { le = le→leb n 32767 h }; to = record { le = tt } }

-- a number of two bytes, made signed, is a signed 16-bit number, and its complement is that number again
of_two : (u : ℕ) → u < 65536 → Signed16 (signed u) × (complement (signed u) ≡ u)
unfolding signed
of_two u h = by (ltb u 32768) refl
  where
    by : (t : Bool) → ltb u 32768 ≡ t → Signed16 (cond t (pos u) (pos u -ℤ pos 65536)) × (complement (cond t (pos u) (pos u -ℤ pos 65536)) ≡ u)
    by true e = (pos_16 u (omega (arith, ltb-true u 32768 e)), refl)
    by false e = rw (less u h) (negsuc_16 (65535 - u) (omega (arith, ltb-false u 32768 e)), omega arith)

-- and back
signed_complement : (z : ℤ) → Signed16 z → signed (complement z) ≡ z
signed_complement (pos n) h = sym (signed_low n (omega (arith, leb→le n 32767 h.to.le)))
signed_complement (negsuc n) h =
    let k = leb→le n 32767 h.from.le in
    sym (signed_high (65535 - n) (omega arith)) ∙ less (65535 - n) (omega arith) ∙ ap negsuc (omega arith)

-- and as a signed word reads it
pub signed_word : (u : ℕ) → u < 65536 → to_z w16 u ≡ signed u
unfolding signed
signed_word u h = by (ltb u 32768) refl
  where
    by : (t : Bool) → ltb u 32768 ≡ t → sel t (pos u) (negsuc (65536 - suc u)) ≡ cond t (pos u) (pos u -ℤ pos 65536)
    by true e = refl
    by false e = ap negsuc (omega arith) ∙ sym (less u h)

-- ---- many numbers

pub numbers_bytes_length : (zs : List ℤ) → length (numbers_bytes zs) ≡ 2 * length zs
numbers_bytes_length [] = refl
numbers_bytes_length (z ∷ zs) = omega (arith, numbers_bytes_length zs)

-- what was written is read back
pub numbers_read : (zs : List ℤ) → Sixteen zs → numbers_in (numbers_bytes zs) ≡ zs
unfolding numbers_in
numbers_read [] h = refl
numbers_read (z ∷ zs) h = ap₂ ◌∷◌ (ap signed (mod-add-div (complement z) 256) ∙ signed_complement z (h 0)) (numbers_read zs (λ i. h (suc i)))

-- and what was read is written back
tail_bytes : {a b : ℕ} {bytes : List ℕ} → Bytes (a ∷ b ∷ bytes) → Bytes bytes
tail_bytes h = record { byte = λ i. h.byte (suc (suc i)) }

two_small : {a b : ℕ} {bytes : List ℕ} → Bytes (a ∷ b ∷ bytes) → a + 256 * b < 65536
two_small h = omega (arith, h.byte 0, h.byte 1)

pub read_numbers : (k : ℕ) (bytes : List ℕ) → Bytes bytes → length bytes ≡ 2 * k → numbers_bytes (numbers_in bytes) ≡ bytes
unfolding numbers_in
read_numbers k [] h l = refl
read_numbers k (a ∷ []) h l = absurd (omega arith)
read_numbers k (a ∷ b ∷ bytes) h l =
    ap (λ (u : ℕ). two_bytes u ++ numbers_bytes (numbers_in bytes)) (of_two (a + 256 * b) (two_small h)).1 ∙
    ap₂ ◌++◌ (two_bytes_lem a b (h.byte 0)) (read_numbers (k - 1) bytes (tail_bytes h) (omega arith))

pub numbers_16 : (bytes : List ℕ) → Bytes bytes → Sixteen (numbers_in bytes)
unfolding numbers_in
numbers_16 [] h i = pos_16 0 (omega arith)
numbers_16 (a ∷ []) h i = pos_16 0 (omega arith)
numbers_16 (a ∷ b ∷ bytes) h zero = (of_two (a + 256 * b) (two_small h)).0
numbers_16 (a ∷ b ∷ bytes) h (suc i) = numbers_16 bytes (tail_bytes h) i

-- one of them, as code reads it
pub number_is : (bytes : List ℕ) (i : ℕ) → 2 * i + 2 ≤ length bytes → at (numbers_in bytes) i ≡ number_at bytes (2 * i)
unfolding numbers_in
number_is [] i h = absurd (omega arith)
number_is (a ∷ []) i h = absurd (omega arith)
number_is (a ∷ b ∷ bytes) zero h = refl
number_is (a ∷ b ∷ bytes) (suc i) h =
    let d : 2 * suc i ≡ suc (suc (2 * i)) = omega arith in
    let f : 2 * suc i + 1 ≡ suc (suc (2 * i + 1)) = omega arith in
    rw (f, d) (number_is bytes i (omega arith))

pub numbers_length : (k : ℕ) (bytes : List ℕ) → length bytes ≡ 2 * k → length (numbers_in bytes) ≡ k
unfolding numbers_in
numbers_length k [] e = omega arith
numbers_length k (a ∷ []) e = absurd (omega arith)
numbers_length k (a ∷ b ∷ bytes) e = omega (arith, numbers_length (k - 1) bytes (omega arith))

-- and 0 behind them
pub behind_numbers : (bytes : List ℕ) (i : ℕ) → length bytes / 2 ≤ i → pos 0 ≡ at (numbers_in bytes) i
unfolding numbers_in
behind_numbers [] i h = refl
behind_numbers (a ∷ []) i h = refl
behind_numbers (a ∷ b ∷ bytes) zero h = absurd (omega arith)
behind_numbers (a ∷ b ∷ bytes) (suc i) h = behind_numbers bytes i (omega arith)

-- four of them
pub four_numbers : (bytes : List ℕ) → length bytes ≡ 8 → number_at bytes 0 ∷ number_at bytes 2 ∷ number_at bytes 4 ∷ number_at bytes 6 ∷ [] ≡ numbers_in bytes
four_numbers bytes e =
    sym (four (numbers_in bytes) (numbers_length 4 bytes e) ∙
    four_equal (number_is bytes 0 (omega arith)) (number_is bytes 1 (omega arith)) (number_is bytes 2 (omega arith)) (number_is bytes 3 (omega arith)))
