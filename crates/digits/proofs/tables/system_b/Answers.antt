-- `digits::tables::system_b` meets its contract. Each row is what `turn` or `reflect` ensures of the one before it on the way; what they ask, by computation.
use Rattle.whole.proofs.Laws.{◌≡◌, refl, sym, ◌∙◌, ap, subst, true, List, [], ◌∷◌, ℤ, within?}
use Rattle.plane.proofs.Laws.{determinant_of}
use Rattle.symmetry.proofs.Laws.{Turnable, SmallRow, turnable?, turnable_says, small_says, turned, reflected}
use Rattle.digits.specs.BuiltIn.{row_b0, rows_b, stored}
use Rattle.digits.proofs.tables.system_b.Goals as goal

turnable : {r s : List ℤ} → r ≡ s → turnable? s ≡ true → Turnable r
turnable {s = s} e t = subst Turnable (sym e) (turnable_says s t)

-- a row made of another
made : (f : List ℤ → List ℤ) {r s t : List ℤ} → t ≡ f s → s ≡ r → t ≡ f r
made f p q = p ∙ ap f q

pub returns : goal.returns
unfolding rows_b
returns c =
    let b2 = c.turn-b2.ensures in
    let b4 = made turned c.turn-b4.ensures b2 in
    let b7 = c.reflect-b7.ensures in
    let b1 = made turned c.turn-b1.ensures b7 in
    let b3 = made turned c.turn-b3.ensures b1 in
    let b5 = made turned c.turn-b5.ensures b3 in
    let b6 = made reflected c.reflect-b6.ensures b1 in
    c.system.ensures ∙ (λ i. stored (row_b0 ∷ b1 i ∷ b2 i ∷ b3 i ∷ b4 i ∷ b5 i ∷ b6 i ∷ b7 i ∷ []))

pub turn-b2-requires : goal.turn-b2-requires
unfolding turned reflected within? determinant_of
turn-b2-requires c = turnable_says _ refl

pub turn-b4-requires : goal.turn-b4-requires
unfolding turned reflected within? determinant_of
turn-b4-requires c = turnable c.turn-b2.ensures refl

pub turn-b1-requires : goal.turn-b1-requires
unfolding turned reflected within? determinant_of
turn-b1-requires c = turnable c.reflect-b7.ensures refl

pub turn-b3-requires : goal.turn-b3-requires
unfolding turned reflected within? determinant_of
turn-b3-requires c = turnable (made turned c.turn-b1.ensures c.reflect-b7.ensures) refl

pub turn-b5-requires : goal.turn-b5-requires
unfolding turned reflected within? determinant_of
turn-b5-requires c = turnable (made turned c.turn-b3.ensures (made turned c.turn-b1.ensures c.reflect-b7.ensures)) refl

pub reflect-b6-requires : goal.reflect-b6-requires
unfolding turned reflected within? determinant_of
reflect-b6-requires c = subst SmallRow (sym (made turned c.turn-b1.ensures c.reflect-b7.ensures)) (small_says _ refl)
