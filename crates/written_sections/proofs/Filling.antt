-- What is filled behind what: bytes behind others; a section's bytes behind its count; one section behind another.
use Rattle.whole.proofs.Laws.{◌≡◌, refl, ap, ◌∙◌, List, [], ◌∷◌, ◌++◌, append_assoc, ℕ, zero, suc, ◌+◌, ◌-◌, ◌/◌, ◌%◌, ◌≤◌, ◌<◌, arith, length, take, drop, get_or, set, drop-drop, length-append, written, front_written, behind_unchanged, put_behind}
use borrow.Rule.Slice.PartMut.{put_mid}
use Rattle.job_sections.proofs.Laws.{two_bytes}
use Rattle.written_sections.specs.Filled.{Filled}

-- some bytes more, behind x, which has p bytes
pub put_next : (x more old : List ℕ) {p k : ℕ} {mid : List ℕ} → mid ≡ written x old → length x ≡ p → length more ≡ k → put_mid p k mid more ≡ written (x ++ more) old
put_next x more old m e l = rw (m, ← e, ← l, front_written x old, behind_unchanged x old, append_assoc, length-append, drop-drop)

-- one byte more of x
pub byte_more : (x old : List ℕ) (i : ℕ) → i < length x → length x ≤ length old → set (written (take i x) old) i (get_or x i 0) ≡ written (take (suc i) x) old
byte_more [] old i h l = absurd (omega arith)
byte_more (y ∷ x) [] i h l = absurd (omega arith)
byte_more (y ∷ x) (b ∷ old) zero h l = refl
byte_more (y ∷ x) (b ∷ old) (suc i) h l = ap (λ (z : List ℕ). y ∷ z) (byte_more x old i (omega arith) (omega arith))

-- ---- a section: its count, and its bytes written into the rest behind it

pub section_filled : (n : ℕ) (body old : List ℕ) {put mid rest : List ℕ} {k : ℕ} → mid ≡ written (two_bytes n) old →
    rest ≡ written put (take (length mid - 2) (drop 2 mid)) → put ≡ body → length body ≡ k → Filled (two_bytes n ++ body) old (put_mid 2 (length mid - 2) mid rest) (2 + k)
section_filled n body old {mid = mid} c r b e = record {
  filled = put_behind (two_bytes n) body old c refl (r ∙ ap (λ (l : List ℕ). written l (take (length mid - 2) (drop 2 mid))) b);
  size = omega (arith, e);
}

-- the same where the count is written byte by byte
two_put : (n : ℕ) (old : List ℕ) → 2 ≤ length old → set (set old 0 (n % 256)) (0 + 1) (n / 256) ≡ written (two_bytes n) old
two_put n [] h = absurd (omega arith)
two_put n (a ∷ []) h = absurd (omega arith)
two_put n (a ∷ b ∷ old) h = refl

pub section_put : (n : ℕ) (body old : List ℕ) {mid rest : List ℕ} {k : ℕ} → 2 ≤ length old → mid ≡ set (set old 0 (n % 256)) (0 + 1) (n / 256) →
    rest ≡ written body (take (length mid - 2) (drop 2 mid)) → length body ≡ k → Filled (two_bytes n ++ body) old (put_mid 2 (length mid - 2) mid rest) (2 + k)
section_put n body old h c r e = section_filled n body old (c ∙ two_put n old h) r refl e

-- ---- sections: one written into the rest behind another

pub filled_behind : {x y old mid rest : List ℕ} {n m : ℕ} → Filled x old mid n → Filled y (take (length mid - n) (drop n mid)) rest m →
    Filled (x ++ y) old (put_mid n (length mid - n) mid rest) (n + m)
filled_behind {x} {y} {old} p q = record { filled = put_behind x y old p.filled p.size q.filled; size = omega (arith, length-append x y, p.size, q.size) }
