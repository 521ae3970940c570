-- "A file that reads is never refused by opening or by the run": the matrix of a job that was read opens, and what a run judges before any step is in order, so that every
-- run of it, on any bytes, with any room and any list, makes its steps.
use Rattle.whole.proofs.Laws.{◌≡◌, sym, subst, List, ℕ}
use Rattle.digits.proofs.Laws.{system_of}
use Rattle.admission.proofs.Laws.{Admitted, admitted_only}
use Rattle.steps.proofs.Laws.{setting}
use Rattle.opening.proofs.Laws.{open_of, Opens, opens, opened_rules}
use Rattle.judging.proofs.Laws.{refusal_of, accepted}
use Rattle.unary.proofs.Laws.{steps_of, run_of, run_accepted}
use Rattle.jobs.specs.Types.{Reads, Reading, Job}
use Rattle.job_sections.proofs.Laws.{Contents, Bytes, Rules}
use Rattle.jobs.specs.Reading.{reading_of, read_of}
use Rattle.jobs.proofs.ReadsExactly.{reads_laid}

-- opening takes the matrix, and no run of the opened state is refused
pub record Runs (j : Job) : Type 0 where
  pub opening : (open_of j.matrix).opening ≡ Opens
  pub judged : refusal_of (setting (system_of j.input) (system_of j.output)) (open_of j.matrix).state ≡ 0
  pub steps : (input output divisors : List ℕ) →
      run_of (system_of j.input) (system_of j.output) (open_of j.matrix).state input output divisors ≡
      steps_of (setting (system_of j.input) (system_of j.output)) (open_of j.matrix).state input output divisors

rules_run : (c : Contents) → Rules c → Runs (reading_of c).job
unfolding reading_of
rules_run c h = record {
  opening = o;
  judged = j;
  steps = λ input output divisors. run_accepted (system_of c.input) (system_of c.output) (open_of c.matrix).state input output divisors j;
}
  where
    o : (open_of c.matrix).opening ≡ Opens
    o = (opens c.matrix Opens).1 (h.matrix.in_range, h.matrix.above)

    j : refusal_of (setting (system_of c.input) (system_of c.output)) (open_of c.matrix).state ≡ 0
    j = (accepted (setting (system_of c.input) (system_of c.output)) (open_of c.matrix).state).1 (record {
      input = sym (admitted_only (system_of c.input) Admitted h.input.admissible);
      output = sym (admitted_only (system_of c.output) Admitted h.output.admissible);
      state = opened_rules c.matrix o c.input.count;
    })

pub read_never_refused : (file : List ℕ) → Bytes file → (read_of file).verdict ≡ Reads → Runs (read_of file).job
read_never_refused file b e = let w = reads_laid file b e in subst (λ (a : Reading). Runs a.job) (sym w.answer) (rules_run w.contents w.rules)
