-- `admission::rows_verdict` meets its contract: a search for the first row that is refused; where there is none, every number is small enough for the tests of the cover and of expanding.
use Rattle.whole.proofs.Laws.{◌≡◌, sym, ap, ap₂, ◌∙◌, Bool, none, arith, first, misses, hits, ends, first_none}
use Rattle.digits.proofs.Laws.{System}
use Rattle.cover.proofs.Laws.{covered?}
use Rattle.expanding.proofs.Laws.{all_expand?}
use Rattle.admission.specs.Types.{Err}
use Rattle.admission.specs.Admission.{refused?, row_verdict, behind_rows, first_verdict, rows_verdict}
use Rattle.admission.specs.Admitted.{Digits}
use Rattle.admission.proofs.Numbers.{refused}
use Rattle.admission.proofs.AdmittedSays.{digit_says, small, small_rows}
use Rattle.admission.proofs.rows_verdict.Invariants.{test}
use Rattle.std.proofs.Common.{rules}
use Rattle.admission.proofs.rows_verdict.Goals as goal
use Rattle.digits.specs.Orders.{viewed}

pub returns-in_err-row_verdict : goal.returns-in_err-row_verdict
unfolding rows_verdict
returns-in_err-row_verdict c =
    let s = viewed c.args.system in
    let v = c.row_verdict.ensures ∙ ap₂ row_verdict c.transformation.ensures c.interval.ensures in
    let r = c.in_err-row_verdict.field-0.0 in
    let e = c.in_err-row_verdict.was in
    let f : c.from_residual.result ≡ Err r = search rules in
    let found = hits c.loop-a.invariant c.loop-a-test.true (ap refused? (sym v ∙ e) ∙ refused r) in
    f ∙ sym e ∙ v ∙ sym (ap (first_verdict s) found)

pub loop-a-preserved : goal.loop-a-preserved
loop-a-preserved c =
    let v = c.row_verdict.ensures ∙ ap₂ row_verdict c.transformation.ensures c.interval.ensures in
    misses c.loop-a.invariant c.loop-a-test.true (ap refused? (sym v ∙ c.in_ok-row_verdict.was))

-- no row was refused: all are digits, and what is asked behind the rows decides
module _ (s : System) (left : first (test s) s.count 0 ≡ none) where
  all_digits : Digits s
  all_digits a h = digit_says s a (first_none (test s) s.count 0 left a (omega arith) (omega arith))

  behind : {t e : Bool} → t ≡ covered? s → e ≡ all_expand? s → behind_rows t e ≡ rows_verdict s
  unfolding rows_verdict
  behind p q = ap₂ behind_rows p q ∙ sym (ap (first_verdict s) left)

pub covered-requires : goal.covered-requires
covered-requires c = let s = viewed c.args.system in (c.requires, small s (all_digits s (ends c.loop-a.invariant c.loop-a-test.false)))

pub all_expand-requires : goal.all_expand-requires
all_expand-requires c = let s = viewed c.args.system in (c.requires, small_rows s (all_digits s (ends c.loop-a.invariant c.loop-a-test.false)))

pub returns-then-not-covered : goal.returns-then-not-covered
returns-then-not-covered c =
    let s = viewed c.args.system in
    behind s (ends c.loop-a.invariant c.loop-a-test.false) (sym c.if-not-covered.true ∙ c.covered.ensures) (λ i. all_expand? s)

pub returns-then-not-all_expand : goal.returns-then-not-all_expand
returns-then-not-all_expand c =
    behind _ (ends c.loop-a.invariant c.loop-a-test.false) (sym c.if-not-covered.false ∙ c.covered.ensures) (sym c.if-not-all_expand.true ∙ c.all_expand.ensures)

pub returns : goal.returns
returns c =
    behind _ (ends c.loop-a.invariant c.loop-a-test.false) (sym c.if-not-covered.false ∙ c.covered.ensures) (sym c.if-not-all_expand.false ∙ c.all_expand.ensures)
