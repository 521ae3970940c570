-- `inclusion::included` meets its contract: document 01's test is one on the signs of three determinants (proofs/ThreeSigns.antt), and the words that hold them tell these signs.
use Rattle.whole.proofs.Laws.{◌≡◌, refl, sym, List, [], ◌∷◌, ◌∙◌, ℤ, at, Within, held, Fits}
use Rattle.plane.proofs.Laws.{Interval, det, left, right, determinant_of, determinant_held}
use Rattle.inclusion.specs.Inclusion.{included?}
use Rattle.inclusion.proofs.ThreeSigns.{by_signs, by_signs_lem}
use Rattle.inclusion.proofs.included.Goals as goal

-- what p, q and s are, and the answer by three such numbers
module _ {i j : List ℤ} (r : (Within 200000000000 i) × (Within 100 j) × (Interval i) × (Interval j)) where
  p-is : {p : ℤ} → Fits p → p ≡ determinant_of (held (at i 0) ∷ held (at i 1) ∷ held (at j 0) ∷ held (at j 1) ∷ []) → held p ≡ det (left i) (left j)
  p-is = determinant_held tt tt r.0.n0 r.0.n1 r.1.n0 r.1.n1

  q-is : {q : ℤ} → Fits q → q ≡ determinant_of (held (at i 0) ∷ held (at i 1) ∷ held (at j 2) ∷ held (at j 3) ∷ []) → held q ≡ det (left i) (right j)
  q-is = determinant_held tt tt r.0.n0 r.0.n1 r.1.n2 r.1.n3

  s-is : {s : ℤ} → Fits s → s ≡ determinant_of (held (at i 2) ∷ held (at i 3) ∷ held (at j 2) ∷ held (at j 3) ∷ []) → held s ≡ det (right i) (right j)
  s-is = determinant_held tt tt r.0.n2 r.0.n3 r.1.n2 r.1.n3

  says : {p q s : ℤ} → p ≡ det (left i) (left j) → q ≡ det (left i) (right j) → s ≡ det (right i) (right j) → included? i j ≡ by_signs p q s
  says p q s = sym (by_signs_lem r.2 r.3 p q s)

-- p < 0
pub returns-then-s-lt0 : goal.returns-then-s-lt0
returns-then-s-lt0 c =
    let r = c.requires in
    let p = p-is r c.determinant-p.type_inv c.determinant-p.ensures in
    let s = s-is r c.determinant-s.type_inv c.determinant-s.ensures in
    sym (says r p refl s ∙ rw (c.if-p-lt0.true, c.if-s-lt0.true))

pub returns-then-p-lt0 : goal.returns-then-p-lt0
returns-then-p-lt0 c =
    let r = c.requires in
    let p = p-is r c.determinant-p.type_inv c.determinant-p.ensures in
    let s = s-is r c.determinant-s.type_inv c.determinant-s.ensures in
    sym (says r p (q-is r c.determinant.type_inv c.determinant.ensures) s ∙ rw (c.if-p-lt0.true, c.if-s-lt0.false))

-- p > 0
pub returns-then-s-gt0 : goal.returns-then-s-gt0
returns-then-s-gt0 c =
    let r = c.requires in
    let p = p-is r c.determinant-p.type_inv c.determinant-p.ensures in
    let s = s-is r c.determinant-s.type_inv c.determinant-s.ensures in
    sym (says r p refl s ∙ rw (c.if-p-lt0.false, c.if-p-gt0.true, c.if-s-gt0.true))

pub returns-then-p-gt0 : goal.returns-then-p-gt0
returns-then-p-gt0 c =
    let r = c.requires in
    let p = p-is r c.determinant-p.type_inv c.determinant-p.ensures in
    let s = s-is r c.determinant-s.type_inv c.determinant-s.ensures in
    sym (says r p (q-is r c.determinant-then-p-gt0.type_inv c.determinant-then-p-gt0.ensures) s ∙ rw (c.if-p-lt0.false, c.if-p-gt0.true, c.if-s-gt0.false))

-- p is 0
pub returns-then-q-lt0 : goal.returns-then-q-lt0
returns-then-q-lt0 c =
    let r = c.requires in
    let p = p-is r c.determinant-p.type_inv c.determinant-p.ensures in
    let s = s-is r c.determinant-s.type_inv c.determinant-s.ensures in
    sym (says r p (q-is r c.determinant-q.type_inv c.determinant-q.ensures) s ∙ rw (c.if-p-lt0.false, c.if-p-gt0.false, c.if-q-lt0.true))

pub returns : goal.returns
returns c =
    let r = c.requires in
    let p = p-is r c.determinant-p.type_inv c.determinant-p.ensures in
    let s = s-is r c.determinant-s.type_inv c.determinant-s.ensures in
    sym (says r p (q-is r c.determinant-q.type_inv c.determinant-q.ensures) s ∙ rw (c.if-p-lt0.false, c.if-p-gt0.false, c.if-q-lt0.false))
