-- What the search says: it finds the first digit of the system that passes, and none exactly if none passes; what is kept for digits that a system hasn't got changes
-- nothing.
use Rattle.whole.proofs.Laws.{◌≡◌, refl, ap, ◌∙◌, true, false, List, ◌↔◌, Option, none, some, ℕ, ◌<◌, ◌≤◌, arith, ℤ, first, first_found, first_none, found_first, none_first, first_same}
use Rattle.inclusion.proofs.Laws.{included?}
use Rattle.digits.proofs.Laws.{System, SameDigits}
use Rattle.fitting.specs.FirstFit.{fits?, fitting_of, fitting, fits}

-- a digit that passes with none before it that does; or none passes
abbrev pub FirstFits : System → List ℤ → Option ℕ → Type 0
FirstFits s image (some b) = (b < s.count) × (fits? s image b ≡ true) × ((c : ℕ) → c < b → fits? s image c ≡ false)
FirstFits s image none = (c : ℕ) → c < s.count → fits? s image c ≡ false

pub fitting_exactly : (s : System) (image : List ℤ) (o : Option ℕ) → (fitting_of s image ≡ o) ↔ FirstFits s image o
unfolding fitting_of
fitting_exactly s image (some b) = (
  λ e. let f = first_found (fits? s image) s.count 0 b e in (omega (arith, f.below), f.passes, λ c k. f.before c (omega arith) k),
  λ f. found_first (fits? s image) s.count 0 b (record { from = omega arith; below = omega (arith, f.0); passes = f.1; before = λ c i k. f.2 c k }),
)
fitting_exactly s image none = (
  λ e c k. first_none (fits? s image) s.count 0 e c (omega arith) (omega arith),
  λ f. none_first (fits? s image) s.count 0 (λ c i k. f c (omega arith)),
)

pub same_fitting : {s t : System} → SameDigits s t → s.count ≤ 16 → (image : List ℤ) → fitting_of s image ≡ fitting_of t image
unfolding fitting_of
same_fitting {s} {t} same few image =
    first_same (fits? s image) (fits? t image) s.count 0 (λ b i k. ap (included? image) (same.intervals few b (omega arith))) ∙
    ap (λ (n : ℕ). first (fits? t image) n 0) same.count

-- `Fitting` stands for what was found
pub fits_back : (o : Option ℕ) → fits (fitting o) ≡ o
fits_back none = refl
fits_back (some b) = refl
