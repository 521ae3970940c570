-- `job_writing::put_sections` meets its contract: each section is written into the rest of the buffer behind the ones before it.
use Rattle.whole.proofs.Laws.{◌≡◌, ap, ◌∙◌, List, ◌++◌, append_assoc, ℕ, written}
use Rattle.job_sections.proofs.Laws.{system_bytes, matrix_bytes, word_bytes}
use Rattle.written_sections.proofs.Laws.{filled_behind}
use Rattle.job_writing.proofs.put_sections.Goals as goal
use Rattle.digits.specs.Orders.{seen}

four_behind : (a b c d : List ℕ) → ((a ++ b) ++ c) ++ d ≡ a ++ (b ++ (c ++ d))
four_behind a b c d = append_assoc (a ++ b) c d ∙ append_assoc a b (c ++ d)

pub returns : goal.returns
returns c =
    let a = c.args in
    let all = filled_behind (filled_behind (filled_behind c.put_system-a.ensures.0 c.put_system.ensures.0) c.put_matrix.ensures.0) c.put_word.ensures.0 in
    all.filled ∙ ap (λ (l : List ℕ). written l a.buffer.now) (four_behind (system_bytes (seen a.input)) (system_bytes (seen a.output)) (matrix_bytes a.matrix) (word_bytes a.word.now))
