-- `cover::goes_on_from` meets its contract: a search for the first digit, from one on, whose interval goes on behind v's right end.
use Rattle.std.proofs.Common.{rules, tests}
use Rattle.std.proofs.lemmas.Iterator.{YieldsList-from_range}
use Rattle.std.proofs.lemmas.Iterator.Search.{any_from_yields_List}
use Rattle.whole.proofs.Laws.{refl, ◌∙◌, ℕ, Bool, ◌-◌, any_first}
use Rattle.digits.proofs.Laws.{interval_at}
use Rattle.cover.specs.Cover.{goes_on_behind?}
use Rattle.cover.proofs.goes_on_from.Goals as goal

pub returns : goal.returns
returns c =
    let a = c.args in
    let test : ℕ → Bool = λ b. goes_on_behind? a.v (interval_at a.system.columns.now b) in
    any_from_yields_List test _ _ _ c.any.ensures.ran (YieldsList-from_range a.from a.n (a.n - a.from) refl refl) (λ x b q k. search (rules, tests)) ∙ any_first test (a.n - a.from) a.from
