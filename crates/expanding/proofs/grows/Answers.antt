-- `expanding::grows` meets its contract: each branch is one of the four tests, and the sum of three numbers within 1,600,000,000 fits.
use Rattle.whole.proofs.Laws.{◌≡◌, sym, ap, ◌∙◌, true, false, ℤ, pos, le_z, lt_z, Near, back, held, stored, add_ok, add_stands, lt_true, lt_false, true_le, false_le}
use Rattle.expanding.proofs.grows.Goals as goal

module _ {z : ℤ} (h : Near 1600000000 z) where
  below : lt_z (held z) (pos 0) ≡ true → le_z (pos 0) z ≡ false
  below e = false_le (lt_true z (pos 0) (ap (λ (x : ℤ). lt_z x (pos 0)) (sym (back h tt)) ∙ e))

  not_below : lt_z (held z) (pos 0) ≡ false → le_z (pos 0) z ≡ true
  not_below e = true_le (lt_false z (pos 0) (ap (λ (x : ℤ). lt_z x (pos 0)) (sym (back h tt)) ∙ e))

pub returns-then-p-lt0 : goal.returns-then-p-lt0
returns-then-p-lt0 c = rw (below c.requires.0 c.if-p-lt0.true)

pub returns-then-b-lt0 : goal.returns-then-b-lt0
returns-then-b-lt0 c = let n = c.requires in rw (not_below n.0 c.if-p-lt0.false, below n.1 c.if-b-lt0.true)

pub returns-then-q-lt0 : goal.returns-then-q-lt0
returns-then-q-lt0 c =
    let n = c.requires in
    rw (not_below n.0 c.if-p-lt0.false, not_below n.1 c.if-b-lt0.false, below n.2 c.if-q-lt0.true)

pub returns : goal.returns
returns c =
    let n = c.requires in
    rw (not_below n.0 c.if-p-lt0.false, not_below n.1 c.if-b-lt0.false, not_below n.2 c.if-q-lt0.false)
    (ap (lt_z (pos 0)) (add_stands (add_stands (stored n.0 tt) (stored n.1 tt) tt) (stored n.2 tt) tt).is)

pub overflow_add-result : goal.overflow_add-result
overflow_add-result c = let n = c.requires in add_ok (stored n.0 tt) (stored n.1 tt) tt

pub overflow_add-result-2 : goal.overflow_add-result-2
overflow_add-result-2 c = let n = c.requires in add_ok (add_stands (stored n.0 tt) (stored n.1 tt) tt) (stored n.2 tt) tt
