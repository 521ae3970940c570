-- "admission and runs answer the same on both": what a run judges before any step, and the run, are the same over two systems in rows, as document 01 states them, and over
-- their columns, as they stand in memory.
use Rattle.whole.proofs.Laws.{◌≡◌, List, ℕ, ℤ}
use Rattle.digits.proofs.Laws.{as_written, lent, columns_of, same_in_columns}
use Rattle.states.proofs.Laws.{State}
use Rattle.steps.proofs.Laws.{setting}
use Rattle.judging.proofs.Laws.{refusal_of}
use Rattle.unary.specs.Run.{run_of}
use Rattle.unary.proofs.SameRun.{same_refusal, same_run}

pub same_runs : (n : ℕ) (rows : List ℤ) (m : ℕ) (rows' : List ℤ) (s : State) (input output divisors : List ℕ) →
    (refusal_of (setting (as_written n rows) (as_written m rows')) s ≡ refusal_of (setting (lent n (columns_of rows)) (lent m (columns_of rows'))) s) ×
    (run_of (as_written n rows) (as_written m rows') s input output divisors ≡ run_of (lent n (columns_of rows)) (lent m (columns_of rows')) s input output divisors)
same_runs n rows m rows' s input output divisors =
    let f = same_in_columns n rows in
    let g = same_in_columns m rows' in
    (same_refusal _ _ _ _ f g s, same_run _ _ _ _ f g s input output divisors)
