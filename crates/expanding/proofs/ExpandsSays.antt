-- "at every point z inside W_a, det F·(z0² + z1²) is greater than the squared length of pseudoinverse(F)·z": the test `expands?` says exactly this of a row (`expands_says`),
-- and `all_expand?` of every row of a system (`all_expand_says`). Where a test fails, a point is handed over.
--
-- A point inside W = (x, y) is, by Cramer's rule, a mixture of x and y by two numbers of one sign; and each such mixture is inside (`mix_inside`). So the three numbers decide.
use Rattle.whole.proofs.Laws.{◌≡◌, sym, subst, Bool, true, false, not-true, List, ◌↔◌, ℕ, ◌<◌, ℤ, pos, ◌*ℤ◌, ◌≤ℤ◌, ◌<ℤ◌, clash_ℤ, ◌⊖◌, ◌⊗◌, #, ◌≦◌, ◌≺◌, ◌≈◌, h, sq, ◌⊞◌, ◌⊠◌, linear, ◌⇒◌, ◌by◌, ◌from◌, claim, lt_of_sub, true_by, false_by, every_passes, one_fails}
use Rattle.plane.proofs.Laws.{Pair, det, left, right, determinant_of, Interval, Inside, mix, mix_inside, inside_point}
use Rattle.digits.proofs.Laws.{System, transformation, interval}
use Rattle.expanding.specs.Expanding.{stretched, sent, Expands, FailsToExpand, AllExpand, OneFails, growth_of, expands?, all_expand?}
use Rattle.expanding.proofs.ThreeNumbers.{grows, Tested, tested, grows_says, shrinks_says}
use Rattle.expanding.proofs.QuadraticForm.{growth_mix, growth_cramer, growth_is, growth_turns}

answer : (f w : List ℤ) → Tested (growth_of f (left w) (left w)) (growth_of f (left w) (right w)) (growth_of f (right w) (right w)) (expands? f w)
unfolding expands?
answer f w = tested (growth_of f (left w) (left w)) (growth_of f (left w) (right w)) (growth_of f (right w) (right w))

-- ---- the test holds

-- the growth has the sign of det(x, y)² times it
above : (δ g : ℤ) → pos 0 <ℤ (δ *ℤ δ *ℤ g) → pos 0 <ℤ g
above = claim 2 (λ δ g. # 0 ≺ δ ⊗ δ ⊗ g ⇒ # 0 ≺ g by h 1 ⊞ h 0 ⊠ sq δ) tt

grown : (f w : List ℤ) → expands? f w ≡ true → (z : Pair) → Inside w z → pos 0 <ℤ growth_of f z z
grown f w e z k =
    let δ = det (left w) (right w) in
    above δ (growth_of f z z)
    (subst (λ (n : ℤ). pos 0 <ℤ n) (sym (growth_cramer f (left w) (right w) z)) (grows (det z (right w)) (det (left w) z) (grows_says (answer f w) e) k.above))

everywhere : (f w : List ℤ) → expands? f w ≡ true → Expands f w
everywhere f w e = record { every = λ z o k. lt_of_sub (subst (λ (n : ℤ). pos 0 <ℤ n) (growth_is f z) (grown f w e z k)) }

-- ---- the test fails: at a mixture of the two ends

not_grown : (f : List ℤ) (z : Pair) → growth_of f z z ≤ℤ pos 0 → stretched f z ≤ℤ sent f z
not_grown f z = claim 3 (λ g s l. g ≈ s ⊖ l ⇒ g ≦ # 0 ⇒ s ≦ l from linear) tt (growth_of f z z) (stretched f z) (sent f z) (growth_is f z)

somewhere_not : (f w : List ℤ) → pos 0 <ℤ determinant_of f → Interval w → expands? f w ≡ false → FailsToExpand f w
somewhere_not f w d p e =
    let s = shrinks_says (answer f w) e (growth_turns f (left w) (right w) d) in
    let z = mix s.α s.β (left w) (right w) in
    let k = mix_inside s.α s.β p s.one_sign in
    record {
      z = z;
      point = inside_point k;
      inside = k;
      not_greater = not_grown f z (subst (λ (n : ℤ). n ≤ℤ pos 0) (sym (growth_mix f s.α s.β (left w) (right w))) s.not_above);
    }

-- ---- of a row

clash : {f w : List ℤ} → Expands f w → FailsToExpand f w → ⊥
clash k o = clash_ℤ (k.every o.z o.point o.inside) o.not_greater

-- what the test answers, and the sentence that it stands for
pub record ExpandsSays (f w : List ℤ) : Type 0 where
  pub everywhere : expands? f w ≡ true ↔ Expands f w
  pub somewhere_not : expands? f w ≡ false ↔ FailsToExpand f w

pub expands_says : (f w : List ℤ) → pos 0 <ℤ determinant_of f → Interval w → ExpandsSays f w
expands_says f w d p = record {
  everywhere = (everywhere f w, λ k. true_by (expands? f w) (λ e. clash k (somewhere_not f w d p e)));
  somewhere_not = (somewhere_not f w d p, λ o. false_by (expands? f w) (λ e. clash (everywhere f w e) o));
}

-- ---- of a system

abbrev row? : System → ℕ → Bool
row? s a = expands? (transformation s a) (interval s a)

pub record AllExpandSays (s : System) : Type 0 where
  pub all : all_expand? s ≡ true ↔ AllExpand s
  pub one_fails : all_expand? s ≡ false ↔ OneFails s

module _ (s : System) (above : (a : ℕ) → a < s.count → pos 0 <ℤ determinant_of (transformation s a)) (intervals : (a : ℕ) → a < s.count → Interval (interval s a)) where
  row_says : (a : ℕ) → a < s.count → ExpandsSays (transformation s a) (interval s a)
  row_says a l = expands_says (transformation s a) (interval s a) (above a l) (intervals a l)

  all : all_expand? s ≡ true → AllExpand s
  all e a l = (row_says a l).everywhere.0 (every_passes (row? s) s.count e a l)

  one : all_expand? s ≡ false → OneFails s
  one e =
      let p = one_fails (row? s) s.count e in
      (p.number, p.below, (row_says p.number p.below).somewhere_not.0 (not-true (row? s p.number) p.passes))

  pub all_expand_says : AllExpandSays s
  all_expand_says = record {
    all = (all, λ k. true_by (all_expand? s) (λ e. let o = one e in clash (k o.0 o.1) o.2));
    one_fails = (one, λ o. false_by (all_expand? s) (λ e. clash (all e o.0 o.1) o.2));
  }
