-- `cancelling::shared` meets its contract: the fold makes the number `shared_by`, which is the greatest common divisor of the four and d (`shared_is`).
use Rattle.whole.proofs.Laws.{◌≡◌, ◌∙◌, ap, List, length, ℕ, ℤ, nat_abs, gcd}
use Rattle.plane.proofs.Laws.{four}
use Rattle.std.proofs.Common.{rules}
use Rattle.std.specs.List.{fold}
use Rattle.cancelling.proofs.FromMultiple.{shared_is}
use Rattle.cancelling.proofs.shared.Goals as goal

abbrev by : ℕ → List ℤ → ℕ
by d m = fold (λ (g : ℕ) (x : ℤ). gcd (nat_abs x) g) d m

pub returns : goal.returns
returns c =
    let e : c.fold.result ≡ by c.args.d c.args.m = search rules in
    let l : length c.args.m ≡ 4 = search rules in
    e ∙ ap (by c.args.d) (four c.args.m l) ∙ shared_is c.args.m c.args.d
