-- `one_step::fitting_of_r` meets its contract, by those of its two calls.
use Rattle.whole.proofs.Laws.{sym, ap, subst, ◌∙◌, Within, within_le, List, ℤ}
use Rattle.plane.proofs.Laws.{Interval, image_within, interval_moves}
use Rattle.digits.proofs.Laws.{table_of, rows_r}
use Rattle.built_in_digits.proofs.Laws.{r_digit}
use Rattle.fitting.proofs.Laws.{fitting, fitting_of}
use Rattle.one_step.proofs.fitting_of_r.Goals as goal

pub fitting_r-requires : goal.fitting_r-requires
fitting_r-requires c =
    let p = c.requires in
    let digit = r_digit _ p.2 in
    let is = sym c.image_r.ensures in
    (subst (Within 200000000000) is (within_le (image_within p.0 digit.in_range.numbers_w) tt), subst Interval is (interval_moves (record { above = p.1 }) digit.interval))

pub returns : goal.returns
returns c = c.fitting_r.ensures ∙ ap (λ (i : List ℤ). fitting (fitting_of (table_of rows_r) i)) c.image_r.ensures
