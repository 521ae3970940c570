-- What is judged is so, and what `write` leaves: one law for each way. What passes the judgement has numbers that two bytes hold.
use Rattle.whole.proofs.Laws.{◌≡◌, sym, ap, ◌∙◌, List, ℕ, ◌≤◌, ◌<◌, arith, lt-ltb, le-ltb, length, written}
use Rattle.sections.proofs.Laws.{ExactOf, SaysOf, writes, refuses_value}
use Rattle.job_sections.proofs.Laws.{Contents, layout_of, MatrixRules, Parts, written_job, parts_of, opened, matrix_16, written_job_lawful, layout_size}
use Rattle.job_writing.specs.Types.{Writing, Written, NotWritten}
use Rattle.job_writing.specs.Writing.{judged_of, wrote, written_by, write_of, Fits}

-- what is said of contents that are judged so
abbrev pub Says : Contents → Writing → Type 0
Says c r = SaysOf {A = Parts} written_job (λ p. Written 0) NotWritten (Written (length (layout_of c))) (parts_of c) 0 r

exact : ExactOf {A = Parts} written_job (λ p. Written 0) NotWritten
exact = written_job_lawful Writing (λ p. Written 0) NotWritten

pub judged_says : (c : Contents) → Says c (judged_of c)
unfolding judged_of
judged_says c = exact.says_of (Written (length (layout_of c))) (parts_of c) 0

pub said_judged : (c : Contents) (r : Writing) → Says c r → judged_of c ≡ r
unfolding judged_of
said_judged c r w = exact.said_of (Written (length (layout_of c))) (parts_of c) 0 r w

pub written_not_refused : {number section n : ℕ} → Written n ≡ NotWritten number section → ⊥
written_not_refused e = let z : ◌≡◌ {A = ℕ} 0 1 = cc in omega arith

pub same_size : {n m : ℕ} → Written n ≡ Written m → n ≡ m
same_size e = cc

pub passes : (c : Contents) {n : ℕ} → judged_of c ≡ Written n → written_job.Writes (parts_of c) × (n ≡ length (layout_of c))
passes c {n} = by (judged_of c) (judged_says c)
  where
    by : (r : Writing) → Says c r → r ≡ Written n → written_job.Writes (parts_of c) × (n ≡ length (layout_of c))
    by r (writes k) e = (k, sym (same_size e))
    by r (refuses_value number section u) e = absurd (written_not_refused (sym e))

-- the matrix of what passes keeps the rules
pub passed_matrix : (c : Contents) → length c.matrix ≡ 4 → written_job.Writes (parts_of c) → MatrixRules c.matrix
passed_matrix c four k = let m = opened k.1.1.0.kept in record { four = four; in_range = m.0; above = m.1 }

-- ---- one law for each way

module _ (c : Contents) (buffer : List ℕ) where
  pub judged_leaves : {r : Writing} → judged_of c ≡ r → write_of c buffer ≡ written_by r (layout_of c) buffer
  unfolding write_of
  judged_leaves e = ap (λ (r : Writing). written_by r (layout_of c) buffer) e

  pub refused_leaves : {r : Writing} {number section : ℕ} → r ≡ judged_of c → r ≡ NotWritten number section → wrote r buffer ≡ write_of c buffer
  refused_leaves e t = ap (λ (r : Writing). wrote r buffer) t ∙ sym (judged_leaves (sym e ∙ t))

  module _ {n : ℕ} (e : judged_of c ≡ Written n) where
    pub short_leaves : length buffer < n → wrote (NotWritten 14 0) buffer ≡ write_of c buffer
    short_leaves h = sym (judged_leaves e ∙ rw (lt-ltb (length buffer) n h))

    pub file_leaves : n ≤ length buffer → wrote (Written n) (written (layout_of c) buffer) ≡ write_of c buffer
    file_leaves h = sym (judged_leaves e ∙ rw (le-ltb (length buffer) n h))

    pub passed_fits : length c.matrix ≡ 4 → n ≤ length buffer → Fits c buffer
    passed_fits four h =
        let k = passes c e in
        record {
          few_in = k.0.0.counted.few;
          few_out = k.0.1.0.counted.few;
          entries = matrix_16 (passed_matrix c four k.0);
          short = k.0.1.1.1.0.counted.few;
          room = omega (arith, k.1, layout_size c four);
        }
