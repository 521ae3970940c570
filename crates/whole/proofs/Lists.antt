-- Lists of numbers, place by place: as a loop copies them, and when two are the same.
use Rattle.whole.proofs.Base.{◌≡◌, refl, ap, ap₂, ◌∙◌, List, [], ◌∷◌, ◌++◌, append-nil, ℕ, suc, ◌+◌, ◌<◌, arith, add-one, ℤ, pos, length, length-set, take, take_all, drop, set}
use Rattle.whole.specs.Range.{at}
use native.Mathlib.Nat.{zero-add}
use lib.Seq.{paste-suc, drop-length}

-- ---- the first i numbers of one list stand over those of another, whose rest stands as it was

pub record Copied (from old : List ℤ) (i : ℕ) (new : List ℤ) : Type 0 where
  pub same_length : length new ≡ length old
  pub is : new ≡ take i from ++ drop i old

pub copy_none : {from old : List ℤ} → Copied from old 0 old
copy_none = record { same_length = refl; is = refl }

pub copy_one : {from old new : List ℤ} {i : ℕ} {z : ℤ} → Copied from old i new → i < length old → i < length from → z ≡ at from i → Copied from old (i + 1) (set new i z)
copy_one {from} {old} {i = i} c h k e = record {
  same_length = simp length-set c.same_length;
  is = ap₂ (λ l x. set l i x) c.is e ∙ rw add-one (simp zero-add at (paste-suc old 0 from i (pos 0) (simp zero-add h) k));
}

copy_all : {from old new : List ℤ} {i : ℕ} → Copied from old i new → i ≡ length old → new ≡ take (length old) from
copy_all {from} {old} c e =
    c.is ∙ ap (λ (n : ℕ). take n from ++ drop n old) e ∙ ap (λ (l : List ℤ). take (length old) from ++ l) (drop-length old) ∙ append-nil (take (length old) from)

-- over a list of the same length
pub copied : {from old new : List ℤ} {i : ℕ} → Copied from old i new → i ≡ length old → length from ≡ length old → new ≡ from
copied {from} {old} c e f = copy_all c e ∙ take_all (length old) from (omega arith)

-- ---- lists of the same length with the same number at each place are the same

pub same_list : (l m : List ℤ) → length l ≡ length m → ((p : ℕ) → p < length l → at l p ≡ at m p) → l ≡ m
same_list [] [] e h = refl
same_list [] (y ∷ m) e h = absurd (omega arith)
same_list (x ∷ l) [] e h = absurd (omega arith)
same_list (x ∷ l) (y ∷ m) e h = ap₂ ◌∷◌ (h 0 (omega arith)) (same_list l m (omega arith) (λ p k. h (suc p) (omega arith)))
