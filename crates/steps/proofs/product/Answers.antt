-- `steps::product` meets its contract, by those of its two calls.
use Rattle.whole.proofs.Laws.{sym, ap, subst, ◌∙◌, List, ◌∣◌, ℤ, Within, gcd4}
use Rattle.plane.proofs.Laws.{cancel_of}
use Rattle.products.proofs.Laws.{factors_fit}
use Rattle.steps.proofs.product.Goals as goal

pub cancel_by-requires : goal.cancel_by-requires
cancel_by-requires c =
    let s = c.before in
    let is = sym c.multiply.ensures in
    (subst (Within 200000000000) is s.requires.range, s.requires.above, subst (λ (m : List ℤ). gcd4 m ∣ s.args.d) is s.requires.divides)

pub returns : goal.returns
returns c = let e = c.multiply.ensures in (c.cancel_by.ensures.0 ∙ ap gcd4 e, c.cancel_by.ensures.1 ∙ ap cancel_of e)

pub multiply-requires : goal.multiply-requires
multiply-requires c = factors_fit c.requires.first c.requires.second tt
