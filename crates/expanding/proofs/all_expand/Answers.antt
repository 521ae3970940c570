-- `expanding::all_expand` meets its contract: every row expands.
use Rattle.std.proofs.Common.{rules, tests}
use Rattle.std.proofs.lemmas.Iterator.{YieldsList-from_range}
use Rattle.std.proofs.lemmas.Iterator.Search.{all_from_yields_List}
use native.Mathlib.Nat.{sub-zero}
use Rattle.whole.proofs.Laws.{refl, ◌∙◌, ℕ, Bool, all_first}
use Rattle.digits.proofs.Laws.{transformation, interval}
use Rattle.expanding.specs.Expanding.{expands?}
use Rattle.expanding.proofs.all_expand.Goals as goal
use Rattle.digits.specs.Orders.{viewed}

pub returns : goal.returns
returns c =
    let s = viewed c.args.system in
    let test : ℕ → Bool = λ a. expands? (transformation s a) (interval s a) in
    all_from_yields_List test _ _ _ c.all.ensures.ran (YieldsList-from_range 0 s.count s.count refl (sub-zero s.count)) (λ x b q k. search (rules, tests)) ∙ all_first test s.count 0
