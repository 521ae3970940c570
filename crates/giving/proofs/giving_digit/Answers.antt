-- `giving::giving_digit` meets its contract: where some image is (0, 0) no digit passes, and otherwise it is a search for the first digit whose coefficients lie on one side.
use Rattle.whole.proofs.Laws.{◌≡◌, sym, ap, ◌∙◌, subst, Bool, false, List, ℕ, ℤ, Within, begins, misses, hits, ends}
use Rattle.bilinear.proofs.Laws.{Form}
use Rattle.digits.proofs.Laws.{System, interval}
use Rattle.fitting.proofs.Laws.{fitting}
use Rattle.giving.specs.MayGive.{columns_of_form, may_give?, giving_of, all_coefficients, one_sided?, some_nought?}
use Rattle.giving.proofs.FirstGiven.{gives?, nought_gives_none, coefficients_decide}
use Rattle.giving.proofs.giving_digit.Goals as goal
use Rattle.digits.specs.Orders.{viewed}

-- what the call in the loop says of digit k, where no image is (0, 0)
is : (s : System) (images : Form) (k : ℕ) {nought passes : Bool} {u : List ℤ} → nought ≡ some_nought? (columns_of_form images) → nought ≡ false →
    u ≡ interval s k → passes ≡ one_sided? (all_coefficients u (columns_of_form images)) → gives? s (columns_of_form images) k ≡ passes
is s images k {u = u} n f e p = sym (p ∙ sym (coefficients_decide (columns_of_form images) u (sym n ∙ f)) ∙ ap (may_give? (columns_of_form images)) e)

pub returns-then-some_nought : goal.returns-then-some_nought
returns-then-some_nought c =
    let a = c.args in
    sym (ap fitting (nought_gives_none (viewed a.outputs) (columns_of_form a.images) (sym c.some_nought.ensures ∙ c.if-some_nought.true)))

pub one_sided-requires : goal.one_sided-requires
one_sided-requires c = let p = c.requires in (p.2, subst (Within 100) (sym c.interval.ensures) (p.1.small _ c.loop-c-test.true))

pub loop-c-init : goal.loop-c-init
loop-c-init c = begins

pub loop-c-preserved : goal.loop-c-preserved
loop-c-preserved c =
    let e = is (viewed c.args.outputs) c.args.images c.loop-c.c c.some_nought.ensures c.if-some_nought.false c.interval.ensures c.one_sided.ensures in
    misses c.loop-c.invariant c.loop-c-test.true (e ∙ c.if-one_sided.false)

pub returns-then-one_sided : goal.returns-then-one_sided
unfolding giving_of
returns-then-one_sided c =
    let e = is (viewed c.args.outputs) c.args.images c.loop-c.c c.some_nought.ensures c.if-some_nought.false c.interval.ensures c.one_sided.ensures in
    sym (ap fitting (hits c.loop-c.invariant c.loop-c-test.true (e ∙ c.if-one_sided.true)))

pub returns : goal.returns
unfolding giving_of
returns c = sym (ap fitting (ends c.loop-c.invariant c.loop-c-test.false))
