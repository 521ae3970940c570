-- `unary::run_lent` meets its contract: what is refused is left untouched, and what is not is a run of steps, whichever systems it has.
use Rattle.whole.proofs.Laws.{◌≡◌, refl, sym, ap, ◌∙◌, arith, ℕ, ◌*◌, length}
use Rattle.refusals.proofs.Numbers.{numbered}
use Rattle.refusals.specs.Numbers.{outcome_number}
use Rattle.digits.proofs.Laws.{rows_r, rows_b, joined, b_by_symmetry}
use Rattle.built_in.proofs.Laws.{same_as_table}
use Rattle.runs.proofs.Laws.{stopped}
use Rattle.states.proofs.Laws.{Refused}
use Rattle.judging.proofs.Laws.{accepted_ready}
use Rattle.unary.specs.Run.{leaves}
use Rattle.unary.proofs.Runs.{run_accepted, refused_untouched}
use Rattle.unary.proofs.run_lent.Goals as goal
use Rattle.digits.specs.Orders.{viewed}

pub returns-in-Err : goal.returns-in-Err
returns-in-Err c =
    let a = c.args in
    let e = sym (ap outcome_number c.in-Err.is) ∙ c.refusal.ensures in
    ap (λ (n : ℕ). leaves (stopped (Refused n) a.state) a.output.now a.divisors.now) (c.number.ensures ∙ e) ∙
    sym (refused_untouched (viewed a.inputs) (viewed a.outputs) a.state a.input.now a.output.now a.divisors.now (λ z. omega (arith, numbered c.in-Err.refusal, e, z)))

-- B's table has eight rows of eight
b-size : length (joined rows_b) ≡ 8 * length rows_b
b-size = rw b_by_symmetry.stays

pub run_judged-requires : goal.run_judged-requires
run_judged-requires c = (
  -- nothing is refused
  accepted_ready _ c.args.state (sym c.refusal.ensures ∙ ap outcome_number c.in-Ok.is),
  -- what was found of the two systems
  record {
    input_r = λ e. same_as_table rows_r refl _ _ (c.both_r-r.ensures.yes e).1;
    output_r = λ e. same_as_table rows_r refl _ _ (c.both_r-r.ensures.yes e).2;
    output_b = λ e. same_as_table rows_b b-size _ _ (c.is_b-b.ensures.yes e).1;
  },
)

pub returns-in-Ok : goal.returns-in-Ok
returns-in-Ok c =
    let a = c.args in
    c.run_judged.ensures ∙
    sym (run_accepted (viewed a.inputs) (viewed a.outputs) a.state a.input.now a.output.now a.divisors.now (sym c.refusal.ensures ∙ ap outcome_number c.in-Ok.is))
