-- Bytes that begin with a count; the first bytes of many.
use Rattle.whole.proofs.Laws.{◌≡◌, sym, ap, ap₂, ◌∙◌, List, [], ◌∷◌, ◌++◌, ℕ, ◌+◌, ◌*◌, ◌-◌, ◌/◌, ◌%◌, ◌≤◌, ◌<◌, dec_lt, dec_le, arith, length, take, drop, List·getD-eq-default, get_or-take, take_all, take-add, drop_at, length-take-le}
use lib.ListN.{length-take}
use lib.Seq.{get_or-drop}
use Rattle.sections.specs.Bytes.{Bytes, two_bytes, count_of}

pub drop_bytes : {bytes : List ℕ} → Bytes bytes → (q : ℕ) → Bytes (drop q bytes)
drop_bytes {bytes} h q = record { byte = λ i. rw (get_or-drop q bytes i 0) (h.byte (q + i)) }

pub take_bytes : {bytes : List ℕ} → Bytes bytes → (k : ℕ) → Bytes (take k bytes)
take_bytes {bytes} h k = record {
  byte = λ i. elim (dec_lt i k) [
    | yes l ↦ rw (get_or-take k bytes i 0 l) (h.byte i)
    | no l ↦ let e : length (take k bytes) ≤ i = simp length-take (omega arith) in rw (List·getD-eq-default (take k bytes) 0 e) (omega arith)
  ];
}

pub two_bytes_lem : (a b : ℕ) → a < 256 → two_bytes (a + 256 * b) ≡ a ∷ b ∷ []
two_bytes_lem a b h =
    let low : (a + 256 * b) % 256 ≡ a = omega arith in
    let high : (a + 256 * b) / 256 ≡ b = omega arith in
    rw (low, high)

pub count_first : (bytes : List ℕ) → Bytes bytes → 2 ≤ length bytes → bytes ≡ two_bytes (count_of bytes) ++ drop 2 bytes
count_first [] h l = absurd (omega arith)
count_first (a ∷ []) h l = absurd (omega arith)
count_first (a ∷ b ∷ more) h l = ap (λ (two : List ℕ). two ++ more) (sym (two_bytes_lem a b (h.byte 0)))

-- ---- the first m bytes

pub same_count : (m : ℕ) (bytes : List ℕ) → 2 ≤ m → count_of (take m bytes) ≡ count_of bytes
same_count m bytes h = ap₂ (λ a b. a + 256 * b) (get_or-take m bytes 0 0 (omega arith)) (get_or-take m bytes 1 0 (omega arith))

pub same_rest : (m : ℕ) (bytes : List ℕ) (q : ℕ) → q ≤ m → m ≤ length bytes → drop q (take m bytes) ≡ take (m - q) (drop q bytes)
same_rest m bytes q h l =
    let e : m ≡ q + (m - q) = omega arith in
    ap (λ (k : ℕ). drop q (take k bytes)) e ∙ ap (drop q) (take-add q (m - q) bytes) ∙
    drop_at (take q bytes) (take (m - q) (drop q bytes)) q (length-take-le q bytes (omega arith))

-- bytes that are not more than m are all there
pub or_all : {R : Type 0} (m : ℕ) (bytes : List ℕ) (f : List ℕ → R) → (m < length bytes → f (take m bytes) ≡ f bytes) → f (take m bytes) ≡ f bytes
or_all m bytes f more = elim (dec_le (length bytes) m) [ yes h ↦ ap f (take_all m bytes h) | no h ↦ more (omega arith) ]
