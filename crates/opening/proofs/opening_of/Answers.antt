-- `opening::opening_of` meets its contract: "Opening: 6, then 11."
use Rattle.whole.proofs.Laws.{◌≡◌, sym, ◌∙◌, true, within?, within_says}
use Rattle.plane.proofs.Laws.{above, within_products}
use Rattle.opening.proofs.opening_of.Goals.{Else-not-within}
use Rattle.opening.proofs.opening_of.Goals as goal

pub returns-then-not-within : goal.returns-then-not-within
returns-then-not-within c = rw (sym c.within.ensures ∙ c.if-not-within.true)

-- the entries lie in −1000..1000
near : (c : Else-not-within) → within? 1000 c.args.m ≡ true
near c = sym c.within.ensures ∙ c.if-not-within.false

pub returns-then-determinant-le0 : goal.returns-then-determinant-le0
returns-then-determinant-le0 c = rw (sym c.within.ensures ∙ c.if-not-within.false, above c.determinant.type_inv c.determinant.ensures, c.if-determinant-le0.true)

pub returns : goal.returns
returns c = rw (sym c.within.ensures ∙ c.if-not-within.false, above c.determinant.type_inv c.determinant.ensures, c.if-determinant-le0.false)

pub determinant-requires : goal.determinant-requires
determinant-requires c = within_products (within_says 1000 _ (near c)) tt
