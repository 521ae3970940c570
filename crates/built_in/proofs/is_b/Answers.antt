-- `built_in::is_b` meets its contract: B's rows as document 01 prints them are B's (`b_by_symmetry`).
use Rattle.whole.proofs.Laws.{◌≡◌, sym, ap, ◌∙◌, arith}
use Rattle.digits.proofs.Laws.{rows_b, printed_b, b_by_symmetry, joined}
use Rattle.built_in.proofs.Decisions.{same_sentence}
use Rattle.built_in.proofs.is_b.Goals as goal

printed : joined printed_b ≡ joined rows_b
printed = ap joined (sym b_by_symmetry.stays)

pub returns-then-bytes-ge-WORTH : goal.returns-then-bytes-ge-WORTH
returns-then-bytes-ge-WORTH c = same_sentence (λ t. (omega arith, t ∙ printed)) (λ p. p.1 ∙ sym printed) c.is_table.ensures
