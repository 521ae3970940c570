-- `fitting::fitting_digit` meets its contract: "Some U_b includes X·W_held: let b be the smallest", a search for the first digit that fits.
use Rattle.whole.proofs.Laws.{◌≡◌, sym, ap, ◌∙◌, subst, Within, begins, misses, hits, ends}
use Rattle.plane.proofs.Laws.{Interval}
use Rattle.inclusion.proofs.Laws.{included?}
use Rattle.fitting.specs.FirstFit.{fits?, fitting_of, fitting}
use Rattle.fitting.proofs.fitting_digit.Goals.{After-included}
use Rattle.fitting.proofs.fitting_digit.Goals as goal
use Rattle.digits.specs.Orders.{viewed}

pub included-requires : goal.included-requires
included-requires c =
    let p = c.requires in
    let below = c.loop-b-test.true in
    (p.2, subst (Within 100) (sym c.interval.ensures) (p.1.small _ below), p.3, subst Interval (sym c.interval.ensures) (p.1.intervals _ below))

-- what the call in the loop's test says
is : (c : After-included) → c.included.result ≡ fits? (viewed c.args.outputs) c.args.image c.loop-b.b
is c = c.included.ensures ∙ ap (included? c.args.image) c.interval.ensures

pub returns-then-included : goal.returns-then-included
unfolding fitting_of
returns-then-included c = sym (ap fitting (hits c.loop-b.invariant c.loop-b-test.true (sym (is c.before) ∙ c.if-included.true)))

pub loop-b-preserved : goal.loop-b-preserved
loop-b-preserved c = misses c.loop-b.invariant c.loop-b-test.true (sym (is c.before) ∙ c.if-included.false)

pub returns : goal.returns
unfolding fitting_of
returns c = sym (ap fitting (ends c.loop-b.invariant c.loop-b-test.false))

pub loop-b-init : goal.loop-b-init
loop-b-init c = begins
