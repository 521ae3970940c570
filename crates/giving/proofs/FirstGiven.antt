-- What the search says: it finds the first digit of the system that passes, and none exactly if none passes; the digit found takes in what two intervals are sent to; and what is
-- kept for digits that a system hasn't got changes nothing. Where some image is (0, 0) none passes, and otherwise the coefficients decide.
use Rattle.whole.proofs.Laws.{◌≡◌, refl, ap, ◌∙◌, Bool, true, false, ◌&&◌, List, ◌↔◌, Option, none, some, ℕ, ◌<◌, ◌≤◌, arith, ℤ, first, first_found, first_none, found_first, none_first, first_same}
use Rattle.plane.proofs.Laws.{Pair, Interval}
use Rattle.bilinear.proofs.Laws.{Form}
use Rattle.digits.proofs.Laws.{System, SameDigits, interval}
use Rattle.giving.specs.MayGive.{images_of, all_coefficients, one_sided?, some_nought?, may_give?, giving_of, SentInto}
use Rattle.giving.proofs.GivenSays.{sent_into}

-- whether digit c of a system passes
abbrev pub gives? : System → List Pair → ℕ → Bool
gives? s images c = may_give? images (interval s c)

-- a digit that passes with none before it that does; or none passes
abbrev pub FirstGives : System → List Pair → Option ℕ → Type 0
FirstGives s images (some c) = (c < s.count) × (gives? s images c ≡ true) × ((d : ℕ) → d < c → gives? s images d ≡ false)
FirstGives s images none = (d : ℕ) → d < s.count → gives? s images d ≡ false

pub giving_exactly : (s : System) (images : List Pair) (o : Option ℕ) → (giving_of s images ≡ o) ↔ FirstGives s images o
unfolding giving_of
giving_exactly s images (some c) = (
  λ e. let f = first_found (gives? s images) s.count 0 c e in (omega (arith, f.below), f.passes, λ d k. f.before d (omega arith) k),
  λ f. found_first (gives? s images) s.count 0 c (record { from = omega arith; below = omega (arith, f.0); passes = f.1; before = λ d i k. f.2 d k }),
)
giving_exactly s images none = (
  λ e d k. first_none (gives? s images) s.count 0 e d (omega arith) (omega arith),
  λ f. none_first (gives? s images) s.count 0 (λ d i k. f d (omega arith)),
)

pub giving_says : (output : System) (m : Form) (v w : List ℤ) {c : ℕ} → giving_of output (images_of m v w) ≡ some c → Interval v → Interval w →
    (c < output.count) × SentInto m v w (interval output c)
giving_says output m v w {c} e p q =
    let f = (giving_exactly output (images_of m v w) (some c)).0 e in
    (f.0, sent_into m v w (interval output c) p q f.1)

pub same_giving : {s t : System} → SameDigits s t → s.count ≤ 16 → (images : List Pair) → giving_of s images ≡ giving_of t images
unfolding giving_of
same_giving {s} {t} same few images =
    first_same (gives? s images) (gives? t images) s.count 0 (λ c i k. ap (may_give? images) (same.intervals few c (omega arith))) ∙
    ap (λ (n : ℕ). first (gives? t images) n 0) same.count

-- ---- "no image is (0, 0)"

pub nought_gives_none : (s : System) (images : List Pair) → some_nought? images ≡ true → giving_of s images ≡ none
unfolding giving_of may_give?
nought_gives_none s images e = none_first (gives? s images) s.count 0 (λ c i k. rw e (shut (one_sided? (all_coefficients (interval s c) images))))
  where
    shut : (b : Bool) → (b && false) ≡ false
    shut true = refl
    shut false = refl

pub coefficients_decide : (images : List Pair) (u : List ℤ) → some_nought? images ≡ false → may_give? images u ≡ one_sided? (all_coefficients u images)
unfolding may_give?
coefficients_decide images u e = rw e (kept (one_sided? (all_coefficients u images)))
  where
    kept : (b : Bool) → (b && true) ≡ b
    kept true = refl
    kept false = refl
