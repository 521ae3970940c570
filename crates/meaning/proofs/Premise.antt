-- The premise of `session_numbers` is not empty and not everything: worked cases, computed, over the built-in systems R and D.
-- It holds for R's digits 0 0 1 with the rest 1/1 (they name 2/5) and with the rest infinity (they name 1/2). It holds for D's endless word 2 0 2 0 .., which names
-- 1/3: behind any number of its pairs of digits the rest is 1/3 again, and every number on the way lies in its digit's interval (`endless_holds`). It fails for R's
-- digits 0 0 1 with the rest −1/1, of which the last digit makes 0, outside its interval (1, infinity); and a held digit refuses a rest outside its interval.
-- Last, document 01's own job (R to R, matrix 2 1 1 2, word 0 0 1; output 0 1 1, state 2 1 1 2): with the rest 1/1 the input names 2/5, of which the matrix makes
-- 9/12, and the output names 9/12, each number on the way in its digit's interval.
use Rattle.whole.proofs.Laws.{◌≡◌, refl, List, [], ◌∷◌, ℕ, zero, suc, arith, T, ℤ, pos, up<}
use Rattle.plane.proofs.Laws.{Pair, Point, SamePoint, apply, Closed, scale_pair, above_not_0, same_refl, same_sym, same_trans, same_scale, closed_same}
use Rattle.inclusion.proofs.Laws.{closed?}
use Rattle.digits.proofs.Laws.{System, transformation_by, interval_by, minus, rows_r, rows_b, rows_d, stored, system_of}
use Rattle.states.proofs.Laws.{Some}
use Rattle.meaning.specs.Names.{named_from, EachInItsInterval, HeldInItsInterval}
use Rattle.meaning.proofs.Products.{named_same}

-- a number, and the systems R, B and D
infix 70 ◌over◌
abbrev pub ◌over◌ : ℤ → ℤ → Pair
x over y = record { z0 = x; z1 = y }

pub fraction : {n : ℤ} {d : ℕ} → Point (n over pos (suc d))
fraction = record { not_both = λ e f. above_not_0 (up< (omega arith)) f }

abbrev pub system_r : System
system_r = system_of (stored rows_r)

abbrev pub system_b : System
system_b = system_of (stored rows_b)

abbrev pub system_d : System
system_d = system_of (stored rows_d)

-- the test of `closed?`, where it computes
pub computed : {w : List ℤ} {z : Pair} → T (closed? w z) → Closed w z
unfolding closed?
computed t = record { not_below = record { le = t } }

refused : {w : List ℤ} {z : Pair} → (T (closed? w z) → ⊥) → Closed w z → ⊥
unfolding closed?
refused f c = f c.not_below.le

-- ---- it holds

pub names_2/5 : named_from system_r (0 ∷ 0 ∷ 1 ∷ []) (pos 1 over pos 1) ≡ pos 2 over pos 5
unfolding named_from apply transformation_by interval_by stored
names_2/5 = refl

pub holds_at_1 : EachInItsInterval system_r (0 ∷ 0 ∷ 1 ∷ []) (pos 1 over pos 1)
unfolding EachInItsInterval named_from apply transformation_by interval_by stored closed?
holds_at_1 = (computed tt, (computed tt, (computed tt, tt)))

pub holds_at_infinity : EachInItsInterval system_r (0 ∷ 0 ∷ 1 ∷ []) (pos 1 over pos 0)
unfolding EachInItsInterval named_from apply transformation_by interval_by stored closed?
holds_at_infinity = (computed tt, (computed tt, (computed tt, tt)))

pub held_holds : HeldInItsInterval system_r (Some 1) (pos 2 over pos 1)
unfolding transformation_by interval_by stored closed?
held_holds = computed tt

-- D's endless word 2 0 2 0 .., as far as 2·n digits
unfoldable pub endless : ℕ → List ℕ
endless zero = []
endless (suc n) = 2 ∷ 0 ∷ endless n

-- it names 1/3: two digits more make 4/12 of 1/3
pub endless_names : (n : ℕ) → SamePoint (named_from system_d (endless n) (pos 1 over pos 3)) (pos 1 over pos 3)
unfolding endless named_from apply transformation_by interval_by stored scale_pair
endless_names zero = same_refl (pos 1 over pos 3)
endless_names (suc n) = same_trans (named_same system_d (2 ∷ 0 ∷ []) (endless_names n)) (same_sym (same_scale (pos 4) (pos 1 over pos 3) (above_not_0 (up< (omega arith)))))

pub endless_holds : (n : ℕ) → EachInItsInterval system_d (endless n) (pos 1 over pos 3)
unfolding endless EachInItsInterval named_from apply transformation_by interval_by stored closed?
endless_holds zero = tt
endless_holds (suc n) =
    let s = same_sym (endless_names n) in
    (closed_same (named_same system_d (2 ∷ 0 ∷ []) s) (computed tt), (closed_same (named_same system_d (0 ∷ []) s) (computed tt), endless_holds n))

-- ---- it fails

pub fails_at_minus_1 : EachInItsInterval system_r (0 ∷ 0 ∷ 1 ∷ []) (minus 1 over pos 1) → ⊥
unfolding EachInItsInterval named_from apply transformation_by interval_by stored closed?
fails_at_minus_1 e = refused (λ t. t) e.1.1.0

pub held_fails : HeldInItsInterval system_r (Some 1) (pos 1 over pos 2) → ⊥
unfolding transformation_by interval_by stored closed?
held_fails c = refused (λ t. t) c

-- ---- document 01's job

abbrev matrix : List ℤ
matrix = pos 2 ∷ pos 1 ∷ pos 1 ∷ pos 2 ∷ []

pub input_names : apply matrix (named_from system_r (0 ∷ 0 ∷ 1 ∷ []) (pos 1 over pos 1)) ≡ pos 9 over pos 12
unfolding named_from apply transformation_by interval_by stored
input_names = refl

pub output_names : named_from system_r (0 ∷ 1 ∷ 1 ∷ []) (apply matrix (pos 1 over pos 1)) ≡ pos 9 over pos 12
unfolding named_from apply transformation_by interval_by stored
output_names = refl

pub output_holds : EachInItsInterval system_r (0 ∷ 1 ∷ 1 ∷ []) (apply matrix (pos 1 over pos 1))
unfolding EachInItsInterval named_from apply transformation_by interval_by stored closed?
output_holds = (computed tt, (computed tt, (computed tt, tt)))
