-- `built_in::is_table` meets its contract: as many digits as rows, and each digit its row.
use Rattle.std.proofs.Common.{rules, tests}
use Rattle.std.proofs.lemmas.Iterator.{YieldsList-from_range, cases_from_all}
use native.Mathlib.Nat.{sub-zero}
use Rattle.whole.proofs.Laws.{◌≡◌, refl, sym, subst, Bool, false≢true, ne_eqb, [], ℕ, get_or, length}
use Rattle.built_in.specs.Recognised.{Decides, IsTable, row_in}
use Rattle.built_in.proofs.Decisions.{from_all}
use Rattle.built_in.proofs.Same.{rows_make, make_rows, only_count}
use Rattle.built_in.proofs.is_table.Goals as goal

pub returns-then-system-rows : goal.returns-then-system-rows
returns-then-system-rows c =
    let rows = c.args.rows.now in
    let columns = c.args.system.columns.now in
    let Same : ℕ → Type 0 = λ a. row_in columns a ≡ get_or rows a [] in
    subst (λ (n : ℕ). Decides c.all.result (IsTable rows n columns)) (sym c.if-system-rows.true)
    (from_all (length rows) Same
    (cases_from_all _ _ _ Same (λ (a : ℕ). Same a → ⊥) c.all.ensures.ran (YieldsList-from_range 0 (length rows) (length rows) refl (sub-zero (length rows))) (λ x q k. search (rules, tests)) (λ x q k. search (rules, tests)))
    (rows_make rows columns c.told-rows) (make_rows rows columns c.told-rows))

pub returns-else-system-rows : goal.returns-else-system-rows
returns-else-system-rows c =
    let rows = c.args.rows.now in
    let columns = c.args.system.columns.now in
    subst (λ (b : Bool). Decides b (IsTable rows c.args.system.count columns)) (sym (ne_eqb _ _ c.if-system-rows.false))
    (record { yes = λ e. absurd (false≢true e); no = λ e t. c.if-system-rows.false (only_count rows columns c.told-rows c.args.system.count t) })
