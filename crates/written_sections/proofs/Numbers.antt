-- Numbers written one behind the other, as a loop does it; and two's complement by the bytes of a word.
use Rattle.whole.proofs.Laws.{◌≡◌, refl, sym, ap, ◌∙◌, List, [], ◌∷◌, ◌++◌, ℕ, ◌+◌, ◌*◌, ◌-◌, ◌/◌, ◌%◌, ◌≤◌, ◌<◌, add-one, arith, leb→le, length, length-take-le, take, take_all, take-suc, ℤ, pos, negsuc, at, written}
use borrow.Rule.Slice.PartMut.{put_mid}
use mir.Syntax.{w16}
use mir.Val.{SFits, of_z}
use Rattle.std.specs.Int.{to_le_bytes}
use Rattle.job_sections.proofs.Laws.{two_bytes, complement, numbers_bytes, numbers_bytes_length, Signed16}
use Rattle.written_sections.specs.Filled.{number_put}
use Rattle.written_sections.proofs.Filling.{put_next}

-- ---- a loop that writes number after number: the first i of them stand over the front of what stood there

pub numbers_more : (zs more : List ℤ) → numbers_bytes (zs ++ more) ≡ numbers_bytes zs ++ numbers_bytes more
numbers_more [] more = refl
numbers_more (y ∷ zs) more = ap (λ (l : List ℕ). two_bytes (complement y) ++ l) (numbers_more zs more)

pub record Begun (zs : List ℤ) (old : List ℕ) (i : ℕ) (new : List ℕ) : Type 0 where
  pub is : new ≡ written (numbers_bytes (take i zs)) old

pub one_more : {zs : List ℤ} {old new next : List ℕ} {i : ℕ} → Begun zs old i new → i < length zs → next ≡ number_put i (at zs i) new → Begun zs old (i + 1) next
one_more {zs} {old} {i = i} b h n =
    let size : length (numbers_bytes (take i zs)) ≡ 2 * i = omega (arith, numbers_bytes_length (take i zs), length-take-le i zs (omega arith)) in
    let first = sym (numbers_more (take i zs) (at zs i ∷ [])) ∙ ap numbers_bytes (sym (take-suc zs i (pos 0) h) ∙ ap (λ (k : ℕ). take k zs) (sym (add-one i))) in
    record { is = n ∙ put_next (numbers_bytes (take i zs)) (two_bytes (complement (at zs i))) old b.is size refl ∙ ap (λ (x : List ℕ). written x old) first }

pub all_begun : {zs : List ℤ} {old new : List ℕ} {i : ℕ} → Begun zs old i new → length zs ≤ i → new ≡ written (numbers_bytes zs) old
all_begun {zs} {old} {i = i} b h = b.is ∙ ap (λ (l : List ℤ). written (numbers_bytes l) old) (take_all i zs h)

-- ---- the two bytes of a word that holds a number

-- two bytes put over as many
pub put_two : {k : ℕ} {two : List ℕ} (i : ℕ) (z : ℤ) (out : List ℕ) → k ≡ 2 → two ≡ two_bytes (complement z) → put_mid (2 * i) k out two ≡ number_put i z out
put_two i z out k two = λ j. put_mid (2 * i) (k j) out (two j)

low_word : (u : ℕ) → u < 65536 → u % 256 ∷ u / 256 % 256 ∷ [] ≡ two_bytes u
low_word u h = ap (λ (k : ℕ). u % 256 ∷ k ∷ []) (omega arith)

pub word_bytes : (z : ℤ) → SFits w16 z → to_le_bytes w16 (of_z w16 z) ≡ two_bytes (complement z)
word_bytes (pos n) f = low_word n (omega (arith, f.sfits))
word_bytes (negsuc n) f = ap (λ (u : ℕ). u % 256 ∷ u / 256 % 256 ∷ []) (omega arith) ∙ low_word (65535 - n) (omega arith)

pub signed_fits : (z : ℤ) → Signed16 z → SFits w16 z
signed_fits (pos n) f = record { sfits = omega (arith, leb→le n 32767 f.to.le) }
signed_fits (negsuc n) f = record { sfits = omega (arith, leb→le n 32767 f.from.le) }
