-- `two_steps::making::given_product` meets its contract: the pseudoinverse of the digit's transformation, times the eight numbers.
use Rattle.whole.proofs.Laws.{sym, ap, subst, ◌∙◌, Within}
use Rattle.plane.proofs.Laws.{pseudoinverse_of, pseudoinverse_within}
use Rattle.two_steps.proofs.making.given_product.Goals as goal

pub times-requires : goal.times-requires
times-requires c =
    let turned = c.pseudoinverse.ensures ∙ ap pseudoinverse_of c.transformation-g.ensures in
    (subst (Within 100) (sym turned) (pseudoinverse_within c.requires.digit.in_range.numbers_f), c.requires.in_range)
