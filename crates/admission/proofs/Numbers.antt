-- The numbers of refusal: only "admitted" has 0.
use Rattle.whole.proofs.Laws.{◌≡◌, refl, ap, true, false, not, arith, not-false, eqb-true, ne_eqb, eqb}
use Rattle.refusals.specs.Types.{Refusal}
use Rattle.refusals.proofs.Numbers.{numbered}
use Rattle.admission.specs.Types.{Admission, Admitted, Ok, Err}
use Rattle.admission.specs.Admission.{refusal_number, refused?}

pub number_0 : (v : Admission) → refusal_number v ≡ 0 → v ≡ Admitted
number_0 (Ok u) e = refl
number_0 (Err r) e = absurd (omega (arith, numbered r))

pub not_refused : (v : Admission) → refused? v ≡ false → v ≡ Admitted
not_refused v e = number_0 v (eqb-true (refusal_number v) 0 (not-false (eqb (refusal_number v) 0) e))

pub refused : (r : Refusal) → refused? (Err r) ≡ true
refused r = ap not (ne_eqb (refusal_number (Err r)) 0 (λ z. omega (arith, numbered r, z)))
