-- `text::put_field` meets its contract: a number, then a byte.
use Rattle.text.proofs.Written.{and_then_lem}
use Rattle.text.proofs.put_field.Goals as goal

pub returns : goal.returns
returns c = let p = c.before.before in and_then_lem p.put_number-p.ensures p.put.ensures
