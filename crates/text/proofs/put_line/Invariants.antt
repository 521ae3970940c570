-- `text::put_line` meets its contract. The invariant: what is left is the line of the bytes from this one on, and each field has taken four bytes at most.
use Rattle.whole.proofs.Laws.{◌≡◌, map, ◌+◌, ◌*◌, ◌≤◌, length, drop}
use Rattle.text.specs.Number.{decimal}
use Rattle.text.specs.Line.{line_of}
use Rattle.text.proofs.Written.{Left}
use Rattle.text.proofs.put_line.Given as goal

abbrev pub invariant-loop-byte : goal.invariant-loop-byte
invariant-loop-byte l =
    (length l.out ≡ length l.initial.out) × (l.p ≤ l.at + 4 * l.byte-index) ×
    Left l.initial.out l.at (line_of (map decimal l.bytes)) l.out l.p (line_of (map decimal (drop l.byte-index l.bytes)))
