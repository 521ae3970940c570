-- `built_in::has_row` meets its contract: each of the eight numbers is the row's.
use Rattle.std.proofs.Common.{rules, tests}
use Rattle.std.proofs.lemmas.Iterator.{YieldsList-from_range, cases_from_all}
use Rattle.whole.proofs.Laws.{◌≡◌, refl, sym, ap, ◌∙◌, List, ℕ, ℤ, at}
use Rattle.digits.proofs.Laws.{by_column}
use Rattle.built_in.proofs.Decisions.{from_all}
use Rattle.built_in.proofs.Same.{row_number, same_row}
use Rattle.built_in.proofs.has_row.Goals as goal

pub returns : goal.returns
returns c =
    let columns = c.args.system.columns.now in
    let a = c.args.a in
    let row = c.args.row in
    let Same : ℕ → Type 0 = λ j. at columns (by_column j a) ≡ at row j in
    from_all 8 Same
    (cases_from_all _ _ _ Same (λ (j : ℕ). Same j → ⊥) c.all.ensures.ran (YieldsList-from_range 0 8 8 refl refl) (λ x q k. search (rules, tests)) (λ x q k. search (rules, tests)))
    (same_row columns a row (search rules)) (λ e j h. sym (row_number columns a j h) ∙ ap (λ (l : List ℤ). at l j) e)
