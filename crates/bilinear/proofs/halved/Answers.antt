-- `bilinear::halved` meets its contract: a divisor of 2 is 2 where all eight numbers are even; else it is 1, and they stay.
use Rattle.whole.proofs.Laws.{◌∙◌, sym, ap, true≢false, both_true, true_both}
use Rattle.bilinear.specs.Form.{form}
use Rattle.bilinear.specs.Lowest.{cancel_form, divided_form}
use Rattle.bilinear.proofs.Divisor8.{kept8, of_even8, of_odd8}
use Rattle.std.proofs.Common.{rules}
use Rattle.bilinear.proofs.halved.Goals as goal

pub returns-then-even : goal.returns-then-even
unfolding cancel_form
returns-then-even c =
    let m = c.args.m in
    let p = both_true _ _ c.if-even.true in
    (λ i. form (c.halves.ensures i) (c.halves-then-even.ensures i)) ∙
    ap (divided_form m) (of_even8 m c.requires (record { over = c.even.ensures.0 p.0; under = c.even-2.ensures.0 p.1 }))

pub returns : goal.returns
returns c =
    let m = c.args.m in
    kept8 m (search rules) (search rules) (of_odd8 m c.requires (λ v. true≢false (sym (true_both (c.even.ensures.1 v.over) (c.even-2.ensures.1 v.under)) ∙ c.if-even.false)))
