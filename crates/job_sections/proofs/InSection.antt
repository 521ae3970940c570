-- What is answered about a section, with the section beside a refusal: what was answered.
use Rattle.whole.proofs.Laws.{◌≡◌, sym, ap, ℕ, arith}
use Rattle.refusals.specs.Types.{Refusal, Result, Ok, Err}
use Rattle.job_sections.specs.Types.{FileRefusal}
use Rattle.job_sections.specs.InSection.{in_section}

module _ {A : Type 0} where
  err_not_ok : {E : Type 0} {v : A} {r : E} → ◌≡◌ {A = Result A E} (Err r) (Ok v) → ⊥
  err_not_ok e = let z : ◌≡◌ {A = ℕ} 0 1 = cc in omega arith

  pub passes_section : (section : ℕ) {o : Result A Refusal} {v : A} → in_section o section ≡ Ok v → o ≡ Ok v
  passes_section section {o} {v} = by o
    where
      by : (o : Result A Refusal) → in_section o section ≡ Ok v → o ≡ Ok v
      by (Ok w) e = ap Ok cc
      by (Err r) e = absurd (err_not_ok e)

  pub refuses_section : {o : Result A Refusal} {section : ℕ} {f : FileRefusal} → in_section o section ≡ Err f → (o ≡ Err f.refusal) × (section ≡ f.section)
  refuses_section {o} {section} {f} = by o
    where
      same : {g : FileRefusal} → ◌≡◌ {A = Result A FileRefusal} (Err g) (Err f) → g ≡ f
      same e = cc

      by : (o : Result A Refusal) → in_section o section ≡ Err f → (o ≡ Err f.refusal) × (section ≡ f.section)
      by (Ok w) e = absurd (err_not_ok (sym e))
      by (Err r) e = let g = same e in (ap (λ (h : FileRefusal). Err h.refusal) g, ap (λ (h : FileRefusal). h.section) g)
