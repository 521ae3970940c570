-- `written_sections::put_numbers` meets its contract. The invariant: the first i numbers are written.
use Rattle.written_sections.proofs.Numbers.{Begun}
use Rattle.written_sections.proofs.put_numbers.Given as goal

abbrev pub invariant-loop-i : goal.invariant-loop-i
invariant-loop-i l = Begun l.numbers l.initial.out l.i l.out
