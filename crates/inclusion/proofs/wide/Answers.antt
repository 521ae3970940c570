-- `inclusion::wide` meets its contract: sums and differences of two numbers of an image fit, and its test asks the four questions of the words that hold them.
use Rattle.whole.proofs.Laws.{◌∙◌, ◌&&◌, ◌||◌, stored, add_stands, sub_stands}
use Rattle.inclusion.specs.Wide.{apart?, wide?}
use Rattle.inclusion.proofs.wide.Goals as goal

pub returns : goal.returns
unfolding wide?
returns c =
    let r = c.requires in
    let x0 = stored r.n0 tt in
    let x1 = stored r.n1 tt in
    let y0 = stored r.n2 tt in
    let y1 = stored r.n3 tt in
    (λ k. c.apart.ensures k && c.apart-2.ensures k || c.apart-3.ensures k && c.apart-4.ensures k) ∙
    (λ k. apart? (x0.is k) (y0.is k) && apart? (x1.is k) (y1.is k) ||
    apart? ((sub_stands x0 x1 tt).is k) ((sub_stands y0 y1 tt).is k) && apart? ((add_stands x0 x1 tt).is k) ((add_stands y0 y1 tt).is k))
