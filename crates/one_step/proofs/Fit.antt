-- The digit that was found to fit, as the plan's choice; and that it can be given out.
use Rattle.whole.proofs.Laws.{◌≡◌, Bool, true, Option, none, some, ℕ, ◌<◌, arith}
use Rattle.digits.proofs.Laws.{System, SameDigits, table_of, rows_r}
use Rattle.states.proofs.Laws.{State}
use Rattle.steps.proofs.Laws.{Setting, chosen, Usable, WorksWith, WorksWhere, OfR, chosen_below}

-- a digit of a system that is R, if r is true
pub of_r : {r : Bool} {y : System} → (r ≡ true → SameDigits y (table_of rows_r)) → (a : ℕ) → a < y.count → OfR r y a
of_r is a h = record {
  below = λ e. omega (arith, (is e).count);
  same = λ e. (is e).transformations (omega (arith, (is e).count)) a h;
}

-- the digit that is chosen can be given out
module _ {r : Bool} (y : Setting) {s : State} {h : ℕ} (works : WorksWith y.input s h) (usable : Usable y.output) (is : r ≡ true → SameDigits y.output (table_of rows_r)) where
  pub works_where : (o : Option ℕ) → chosen y s h ≡ o → WorksWhere r y.output s o
  works_where none e = tt
  works_where (some b) e =
      let below = chosen_below y s h b e in (
        record {
          there = omega (arith, usable.few, below);
          digit = usable.digits b below;
          cancelled = works.cancelled;
          above = works.above;
          in_range = works.in_range;
        },
        of_r is b below,
      )
