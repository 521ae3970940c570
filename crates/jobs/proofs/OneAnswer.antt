-- No file both reads as a job and is refused, or is refused in two ways.
use Rattle.whole.proofs.Laws.{◌≡◌, sym, ap, ◌∙◌, List, ℕ, arith}
use Rattle.jobs.specs.Types.{Reads, Refused, Reading}
use Rattle.job_sections.proofs.Laws.{Contents}
use Rattle.jobs.specs.Reading.{reading_of}
use Rattle.jobs.specs.Reads.{ReadsAs}
use Rattle.jobs.specs.Refuses.{Refuses}
use Rattle.jobs.proofs.ReadsExactly.{refuses_read}

reads_not_refused : {number section : ℕ} → Reads ≡ Refused number section → ⊥
reads_not_refused e = let z : ◌≡◌ {A = ℕ} 0 1 = cc in omega arith

pub not_both : (file : List ℕ) {c : Contents} {number section : ℕ} → ReadsAs file c → Refuses file number section → ⊥
unfolding reading_of
not_both file {c} {number} {section} p r = reads_not_refused (ap (λ (a : Reading). a.verdict) (sym p.answer ∙ refuses_read file number section r))

refused_same : {n s n' s' : ℕ} → Refused n s ≡ Refused n' s' → (n ≡ n') × (s ≡ s')
refused_same e = (cc, cc)

pub one_refusal : (file : List ℕ) {n s n' s' : ℕ} → Refuses file n s → Refuses file n' s' → (n ≡ n') × (s ≡ s')
one_refusal file {n} {s} {n'} {s'} p q = refused_same (ap (λ (a : Reading). a.verdict) (sym (refuses_read file n s p) ∙ refuses_read file n' s' q))
