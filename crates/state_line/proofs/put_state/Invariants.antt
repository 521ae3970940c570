-- `state_line::put_state` meets its contract. The invariant: what is left is the line from this entry on, and each field has taken 22 bytes at most.
use Rattle.whole.proofs.Laws.{◌≡◌, ◌+◌, ◌*◌, ◌≤◌, length}
use Rattle.text.proofs.Laws.{Left}
use Rattle.state_line.proofs.Entries.{behind}
use Rattle.state_line.proofs.put_state.Given as goal

abbrev pub invariant-loop-entry : goal.invariant-loop-entry
invariant-loop-entry l =
    (length l.out ≡ length l.initial.out) × (l.p ≤ l.at + 22 * l.entry-index) × Left l.initial.out l.at (behind l.s 0) l.out l.p (behind l.s l.entry-index)
