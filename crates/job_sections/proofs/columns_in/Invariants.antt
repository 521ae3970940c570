-- `job_sections::columns_in` meets its contract. The invariant: the first p numbers of the columns are written.
use Rattle.whole.proofs.Laws.{Copied}
use Rattle.digits.proofs.Laws.{columns_of}
use Rattle.job_sections.specs.Sections.{numbers_in}
use Rattle.job_sections.proofs.columns_in.Given as goal

abbrev pub invariant-loop-p : goal.invariant-loop-p
invariant-loop-p l = Copied (columns_of (numbers_in l.bytes)) l.initial.columns l.p l.columns
