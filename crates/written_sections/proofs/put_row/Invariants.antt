-- `written_sections::put_row` meets its contract. The invariant: the first j numbers of the row are written.
use Rattle.written_sections.specs.Filled.{row_of}
use Rattle.written_sections.proofs.Numbers.{Begun}
use Rattle.written_sections.proofs.put_row.Given as goal

abbrev pub invariant-loop-j : goal.invariant-loop-j
invariant-loop-j l = Begun (row_of l.columns l.a) l.initial.out l.j l.out
