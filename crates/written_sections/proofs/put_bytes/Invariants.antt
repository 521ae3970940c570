-- `written_sections::put_bytes` meets its contract. The invariant: the first i bytes are written.
use Rattle.whole.proofs.Laws.{◌≡◌, take, written}
use Rattle.written_sections.proofs.put_bytes.Given as goal

abbrev pub invariant-loop-i : goal.invariant-loop-i
invariant-loop-i l = l.out ≡ written (take l.i l.bytes) l.initial.out
