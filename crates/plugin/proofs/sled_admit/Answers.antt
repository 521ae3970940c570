-- `plugin::sled_admit` meets its contract: 128 numbers are judged, and any others refused by 40.
use Rattle.whole.proofs.Laws.{ap, ◌∙◌, eq-eqb, ne_eqb}
use Rattle.digits.proofs.Laws.{StoredSystem}
use Rattle.admission.proofs.Laws.{refusal_number}
use Rattle.plugin.specs.Calls.{admitted, admit_number}
use Rattle.plugin.proofs.sled_admit.Goals as goal

pub returns-in_default : goal.returns-in_default
unfolding admit_number
returns-in_default c = rw (ne_eqb _ _ c.in_default.ensures)

pub returns : goal.returns
unfolding admit_number
returns c =
    let s = c.in-Some.ensures in
    rw (eq-eqb _ _ s.0) (c.from.ensures ∙ c.outcome_number.ensures ∙ ap refusal_number c.admission_of.ensures ∙ ap (λ (s : StoredSystem). admitted s) s.1)
