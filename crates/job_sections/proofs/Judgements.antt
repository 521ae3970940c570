-- What admission and opening say of what was read: the number of the sentence that holds; and their numbers are signed 16-bit numbers.
use Rattle.whole.proofs.Laws.{◌≡◌, refl, sym, ap, ◌∙◌, subst, not, List, ℕ, zero, suc, ◌*◌, ◌≤◌, ◌<◌, dec_lt, arith, eqb, length, List·getD-eq-default, ℤ, pos, negsuc, at, Near, Within}
use Rattle.refusals.specs.Types.{Ok, Err}
use Rattle.refusals.proofs.Numbers.{numbered}
use Rattle.digits.proofs.Laws.{StoredSystem, system_of, rows_of, numbers_near, rows_length}
use Rattle.admission.proofs.Laws.{refusal_number, admission_of, Admissible, SystemCase, not_refused, admitted_says, admitted_only}
use Rattle.opening.proofs.Laws.{opening_number, opening_of, OpeningCase, Opening, Opens, opening_says, one_case}
use Rattle.job_sections.specs.Layout.{SystemRules, MatrixRules}
use Rattle.job_sections.specs.Sections.{Signed16, Sixteen, system, matrix}
use Rattle.job_sections.proofs.Numbers.{pos_16, negsuc_16}

-- ---- the number of the sentence that holds

pub system_gives : (s : StoredSystem) → system.Gives s (system.number s)
system_gives s = record { answer = admission_of (system_of s); numbered = refl; holds = admitted_says (system_of s) }

pub system_given : (s : StoredSystem) (number : ℕ) → system.Gives s number → system.number s ≡ number
system_given s number g = ap refusal_number (sym (admitted_only (system_of s) g.answer g.holds)) ∙ g.numbered

pub matrix_gives : (m : List ℤ) → matrix.Gives m (matrix.number m)
matrix_gives m = record { answer = opening_of m; numbered = refl; holds = opening_says m }

pub matrix_given : (m : List ℤ) (number : ℕ) → matrix.Gives m number → matrix.number m ≡ number
matrix_given m number g = ap opening_number (one_case m (opening_of m) g.answer (opening_says m) g.holds) ∙ g.numbered

-- 0 is the number of one sentence alone
pub admitted : (s : StoredSystem) → system.Gives s 0 → Admissible (system_of s)
admitted s g = subst (SystemCase (system_of s)) (not_refused g.answer (ap (λ (n : ℕ). not (eqb n 0)) g.numbered)) g.holds

pub opened : {m : List ℤ} → matrix.Gives m 0 → OpeningCase m Opens
opened {m} g = by g.answer g.numbered g.holds
  where
    by : (v : Opening) → opening_number v ≡ 0 → OpeningCase m v → OpeningCase m Opens
    by (Ok u) e h = h
    by (Err r) e h = absurd (omega (arith, numbered r, e))

-- ---- numbers that keep the rules are signed 16-bit numbers

near_16 : {b : ℕ} (z : ℤ) → b ≤ 32767 → Near b z → Signed16 z
near_16 (pos n) l h = pos_16 n (omega (arith, h.near))
near_16 (negsuc n) l h = negsuc_16 n (omega (arith, h.near))

-- the numbers of a list, and 0 behind them
list_16 : {b : ℕ} (zs : List ℤ) → b ≤ 32767 → ((i : ℕ) → i < length zs → Near b (at zs i)) → Sixteen zs
list_16 zs l h i = elim (dec_lt i (length zs)) [
  | yes k ↦ near_16 (at zs i) l (h i k)
  | no k ↦ rw (List·getD-eq-default zs (pos 0) {n = i} (omega arith)) (pos_16 0 (omega arith))
]

four : {b : ℕ} (m : List ℤ) → Within b m → (j : ℕ) → j < 4 → Near b (at m j)
four m w zero h = w.n0
four m w (suc zero) h = w.n1
four m w (suc (suc zero)) h = w.n2
four m w (suc (suc (suc zero))) h = w.n3
four m w (suc (suc (suc (suc j)))) h = absurd (omega arith)

pub matrix_16 : {m : List ℤ} → MatrixRules m → Sixteen m
matrix_16 {m} h = list_16 {b = 1000} m (omega arith) (λ i k. four m h.in_range i (omega (arith, h.four)))

pub system_16 : {s : StoredSystem} → SystemRules s → Sixteen (rows_of s)
system_16 {s} h = list_16 {b = 100} (rows_of s) (omega arith) (λ i k.
    numbers_near s.count s.columns (λ a b. let w = (h.admissible.digits a b).in_range in (w.numbers_f, w.numbers_w)) i (omega (arith, k, rows_length (8 * s.count) s.columns)))
