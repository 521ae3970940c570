-- `giving::some_nought` meets its contract: a word that holds a number is 0 just where the number is, and of the four images one is asked after the other.
use Rattle.whole.proofs.Laws.{◌∙◌, ◌&&◌, ◌||◌, arith, ℕ, at}
use Rattle.giving.specs.MayGive.{nought?}
use Rattle.giving.proofs.ImageByImage.{word_nought, one_of_four}
use Rattle.giving.proofs.some_nought.Goals as goal

pub returns : goal.returns
returns c =
    let o = c.args.images.numerator in
    let u = c.args.images.denominator in
    let image = λ (k : ℕ). nought? (record { z0 = at o k; z1 = at u k }) in
    (λ i. ((word_nought (at o 0) (omega arith) i && word_nought (at u 0) (omega arith) i) || (word_nought (at o 1) (omega arith) i && word_nought (at u 1) (omega arith) i) ||
    (word_nought (at o 2) (omega arith) i && word_nought (at u 2) (omega arith) i)) || (word_nought (at o 3) (omega arith) i && word_nought (at u 3) (omega arith) i)) ∙
    one_of_four (image 0) (image 1) (image 2) (image 3)
