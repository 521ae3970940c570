-- `judging::state_kept` meets its contract: the tests of `state?` in their order, and what a later one needs has passed those before.
use Rattle.whole.proofs.Laws.{◌≡◌, sym, ap, ◌∙◌, ◌&&◌, pos, lt_z, ok_back, eqb, within?, lowest?, within_says, ℕ}
use Rattle.plane.proofs.Laws.{within_products, determinant_of}
use Rattle.judging.specs.Refusal.{state?}
use Rattle.judging.proofs.state_kept.Goals.{then-within, else-within, then-determinant-gt0, else-determinant-gt0, Joined-within, Joined-determinant-gt0}
use Rattle.judging.proofs.state_kept.Goals as goal

pub determinant-requires : goal.determinant-requires
determinant-requires c = within_products (within_says 1000000000 _ (sym c.within.ensures ∙ c.if-within.true)) tt

-- the first two tests, and the first three
two : (c : Joined-within) → let m = c.args.s.matrix in c.if-within.value ≡ (within? 1000000000 m && lt_z (pos 0) (determinant_of m))
two c = elim c.if-within.branch [
  | then-within w ↦ w.value-is ∙ rw (sym c.within.ensures ∙ w.if-within.true) (ap (lt_z (pos 0)) (ok_back w.determinant.type_inv ∙ w.determinant.ensures))
  | else-within w ↦ w.value-is ∙ rw (sym c.within.ensures ∙ w.if-within.false) w.if-within.false
]

three : (c : Joined-determinant-gt0) → let m = c.args.s.matrix in c.if-determinant-gt0.value ≡ (within? 1000000000 m && lt_z (pos 0) (determinant_of m) && lowest? m)
three c = elim c.if-determinant-gt0.branch [
  | then-determinant-gt0 w ↦ w.value-is ∙ rw (sym (two c.before) ∙ w.if-determinant-gt0.true) (ap (λ (n : ℕ). eqb n 1) w.divisor.ensures)
  | else-determinant-gt0 w ↦ w.value-is ∙ rw (sym (two c.before) ∙ w.if-determinant-gt0.false) w.if-determinant-gt0.false
]

pub returns-then-divisor-eq1 : goal.returns-then-divisor-eq1
unfolding state?
returns-then-divisor-eq1 c = rw (sym (three c.before.before) ∙ c.if-divisor-eq1.true) c.held_below.ensures

pub returns-else-divisor-eq1 : goal.returns-else-divisor-eq1
unfolding state?
returns-else-divisor-eq1 c = rw (sym (three c.before) ∙ c.if-divisor-eq1.false) c.if-divisor-eq1.false
