-- What the test says: if the coefficients of some pairs in the ends of u are "all ≥ 0 or all ≤ 0", then all of them lie on one and the same side of 0. A pair whose two
-- coefficients lie on one side is in closed u, and so is every pair that is mixed from such pairs by two numbers on one side.
use Rattle.whole.proofs.Laws.{◌≡◌, refl, sym, ◌∙◌, subst, Bool, true, false, ◌&&◌, ◌||◌, List, [], ◌∷◌, ℤ, pos, le_z, le_true, both_true}
use Rattle.plane.proofs.Laws.{Pair, det, left, right, Closed, mix}
use Rattle.giving.specs.MayGive.{all_coefficients, none_below?, none_above?, one_sided?}
use Rattle.giving.proofs.Sides.{Side, above, below, rule, mix_side, product}
use Rattle.giving.proofs.Mixed.{first_mixed, second_mixed}

-- the two coefficients of z in the ends of u lie on side s
pub record Sided (s : Bool) (u : List ℤ) (z : Pair) : Type 0 where
  pub of_left : Side s (det z (right u))
  pub of_right : Side s (det (left u) z)

pub sided_closed : {s : Bool} {u : List ℤ} {z : Pair} → Sided s u z → Closed u z
sided_closed o = record { not_below = product o.of_left o.of_right }

-- z is mixed from p and q
pub mixed_sided : {s t : Bool} {α β : ℤ} {u : List ℤ} {p q z : Pair} → z ≡ mix α β p q → Side s α → Side s β → Sided t u p → Sided t u q → Sided (rule s t) u z
mixed_sided {s} {t} {α} {β} {u} {p} {q} e k l m n = subst (Sided (rule s t) u) (sym e) (record {
  of_left = subst (Side (rule s t)) (first_mixed α β p q (right u)) (mix_side k l m.of_left n.of_left);
  of_right = subst (Side (rule s t)) (second_mixed α β p q (left u)) (mix_side k l m.of_right n.of_right);
})

-- ---- the test

pub data AllSided (s : Bool) (u : List ℤ) : List Pair → Type 0 where
  no_more : AllSided s u []
  one_more : {z : Pair} {zs : List Pair} → Sided s u z → AllSided s u zs → AllSided s u (z ∷ zs)

-- a test t of every number of a list, that says of a number that it lies on side s
module _ {s : Bool} (t : ℤ → Bool) (every : List ℤ → Bool) (more : (z : ℤ) (zs : List ℤ) → every (z ∷ zs) ≡ (t z && every zs)) (side : (z : ℤ) → t z ≡ true → Side s z) where
  every_says : (u : List ℤ) (zs : List Pair) → every (all_coefficients u zs) ≡ true → AllSided s u zs
  unfolding all_coefficients
  every_says u [] e = no_more
  every_says u (z ∷ zs) e =
      let a = det z (right u) in
      let b = det (left u) z in
      let rest = all_coefficients u zs in
      let p = both_true (t a) (every (b ∷ rest)) (sym (more a (b ∷ rest)) ∙ e) in
      let q = both_true (t b) (every rest) (sym (more b rest) ∙ p.1) in
      one_more (record { of_left = side a p.0; of_right = side b q.0 }) (every_says u zs q.1)

-- "all ≥ 0 or all ≤ 0"
pub one_sided_says : (u : List ℤ) (zs : List Pair) → one_sided? (all_coefficients u zs) ≡ true → (s : Bool) × AllSided s u zs
one_sided_says u zs = by (none_below? (all_coefficients u zs)) (none_above? (all_coefficients u zs))
    (every_says (le_z (pos 0)) none_below? (λ z zs. refl) (λ z e. above (le_true (pos 0) z e)) u zs)
    (every_says (λ z. le_z z (pos 0)) none_above? (λ z zs. refl) (λ z e. below (le_true z (pos 0) e)) u zs)
  where
    by : (a b : Bool) → (a ≡ true → AllSided true u zs) → (b ≡ true → AllSided false u zs) → (a || b) ≡ true → (s : Bool) × AllSided s u zs
    by true b f g e = (true, f refl)
    by false b f g e = (false, g e)
