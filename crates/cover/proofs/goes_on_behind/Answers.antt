-- `cover::goes_on_behind` meets its contract. With p = det(z, x) and q = det(z, y) of the right end z of v and the ends x and y of w: w ends at z too exactly
-- if q is 0, and holds z exactly if p·q is 0 or below. The code forms both and compares their signs.
use Rattle.whole.proofs.Laws.{ne_eqb, ◌≡◌, sym, ◌∙◌, ap, Bool, not, ◌&&◌, List, eqb, ℤ, pos, nat_abs, ◌*ℤ◌, *ℤ_comm, le_z, ◌≤ℤ◌, ◌<ℤ◌, inl, inr, <-or-≥, ≤-antisym, lt_true, lt_false, at, near_le, nat_abs_zero, back, near_back, back_of_lem}
use Rattle.plane.proofs.Laws.{right}
use Rattle.inclusion.proofs.Laws.{same?, sides_of, closed_from, below_times, above_times}
use mathlib.Core.Bool.{and-true, and-false}
use mir.Syntax.{w64}
use mir.Val.{of_z, to_z}
use Rattle.cover.specs.Cover.{goes_on_behind?}
use Rattle.cover.proofs.goes_on_behind.Goals.{After-sides-d, Else-further-eq0}
use Rattle.cover.proofs.goes_on_behind.Goals as goal

-- what is asked, by p and q
says : (v w : List ℤ) {d : List ℤ} → d ≡ sides_of (at v 2) (at v 3) w → goes_on_behind? v w ≡ (le_z (at d 0 *ℤ at d 1) (pos 0) && not (eqb (nat_abs (at d 1)) 0))
unfolding same? sides_of
says v w e = rw e (ap (λ (t : Bool). t && not (same? (right v) (right w))) (closed_from w (right v)))

beside : (c : After-sides-d) → let a = c.args in
    let d = c.sides-d.result in
    goes_on_behind? a.v a.w ≡ (le_z (at d 0 *ℤ at d 1) (pos 0) && not (eqb (nat_abs (at d 1)) 0))
beside c =
    let s = c.before.before.before in
    says s.args.v s.args.w (c.sides-d.ensures ∙ (λ i. sides_of (back s.requires.0.n2 tt i) (back s.requires.0.n3 tt i) s.args.w))

pub returns-then-further-eq0 : goal.returns-then-further-eq0
returns-then-further-eq0 c =
    let s = c.before.before in
    let q = at s.sides-d.result 1 in
    let nought : q ≡ pos 0 = sym (back_of_lem q c.further-1.given) ∙ ap (to_z w64) c.if-further-eq0.true in
    sym (beside s ∙ rw nought (and-false (le_z (at s.sides-d.result 0 *ℤ pos 0) (pos 0))))

-- q is not 0
parted : (c : Else-further-eq0) → at c.sides-d.result 1 ≡ pos 0 → ⊥
parted c e = c.if-further-eq0.false (ap (of_z w64) e)

beside-parted : (c : Else-further-eq0) → let s = c.before.before in
    let a = s.args in
    let d = s.sides-d.result in
    le_z (at d 1 *ℤ at d 0) (pos 0) ≡ goes_on_behind? a.v a.w
beside-parted c =
    let s = c.before.before in
    let p = at s.sides-d.result 0 in
    let q = at s.sides-d.result 1 in
    ap (λ (z : ℤ). le_z z (pos 0)) (*ℤ_comm q p) ∙ sym (beside s ∙ rw (ne_eqb (nat_abs q) 0 (λ e. parted c (nat_abs_zero {z = q} e))) (and-true (le_z (p *ℤ q) (pos 0))))

pub returns-then-further-lt0 : goal.returns-then-further-lt0
returns-then-further-lt0 c =
    let b = c.before.before in
    let d = b.sides-d.result in
    ap (le_z (pos 0)) (back_of_lem (at d 0) c.result-1.given) ∙
    below_times (at d 1) (at d 0) (lt_true _ _ (simp (back_of_lem (at d 1) b.further-1.given) at c.if-further-lt0.true)) ∙ beside-parted b

above : (q : ℤ) → pos 0 ≤ℤ q → (q ≡ pos 0 → ⊥) → pos 0 <ℤ q
above q h f = elim (<-or-≥ (pos 0) q) [ inl l ↦ l | inr l ↦ absurd (f (≤-antisym l h)) ]

pub returns : goal.returns
returns c =
    let b = c.before.before in
    let d = b.sides-d.result in
    ap (λ (z : ℤ). le_z z (pos 0)) (back_of_lem (at d 0) c.result-2-1.given) ∙
    above_times (at d 1) (at d 0) (above (at d 1) (lt_false _ _ (simp (back_of_lem (at d 1) b.further-1.given) at c.if-further-lt0.false)) (parted b)) ∙ beside-parted b

pub sides-d-requires : goal.sides-d-requires
sides-d-requires c = let p = c.requires in (near_back (near_le p.0.n2 tt) tt, near_back (near_le p.0.n3 tt) tt, p.1)
