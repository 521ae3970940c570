-- `sections::presence` meets its contract: one law for each way.
use Rattle.whole.proofs.Laws.{inl, inr}
use Rattle.sections.proofs.Counted.{short_is, few_is, many_is, cut_is, whole_is}
use Rattle.sections.proofs.presence.Goals as goal

pub returns-then-bytes-lt2 : goal.returns-then-bytes-lt2
returns-then-bytes-lt2 g c = short_is _ _ _ _ _ _ c.if-bytes-lt2.true

pub returns-then-count-least : goal.returns-then-count-least
returns-then-count-least g c = elim c.then-count-least.either [
  | inl h ↦ few_is _ _ _ _ _ _ c.pair_at-count.ensures.0 c.if-bytes-lt2.false h
  | inr h ↦ many_is _ _ _ _ _ _ c.pair_at-count.ensures.0 c.if-bytes-lt2.false h.0 h.1
]

pub returns-then-bytes-unit : goal.returns-then-bytes-unit
returns-then-bytes-unit g c = cut_is _ _ _ _ _ _ c.pair_at-count.ensures.0 c.if-bytes-lt2.false c.if-count-least.false c.if-most-count.false c.if-bytes-unit.true

pub returns : goal.returns
returns g c = whole_is _ _ _ _ _ _ c.pair_at-count.ensures.0 c.if-bytes-lt2.false c.if-count-least.false c.if-most-count.false c.if-bytes-unit.false
