-- `text::put_line` meets its contract.
use Rattle.whole.proofs.Laws.{◌≡◌, refl, subst, ℕ, arith, length, get_or}
use Rattle.text.proofs.Written.{left_less, left_none}
use Rattle.text.proofs.Lines.{front_byte, last_byte, field_more, last_field, field_length}
use Rattle.std.proofs.Common.{rules}
use Rattle.text.proofs.put_line.Goals as goal

pub loop-byte-preserved : goal.loop-byte-preserved
loop-byte-preserved c =
    let ds = c.args.bytes.now in
    let i = c.loop-byte.byte-index in
    let t = c.in-Some.ensures.cases in
    let w = c.put_field-p.ensures in
    let d = front_byte _ _ i t.0 (omega arith) refl in
    let few = field_length (get_or c.in-Some.front.now i 0) 32 (omega (arith, d, c.type_inv.bytes i)) in
    (search rules, omega (arith, w.place, few), left_less _ c.loop-byte.invariant.2 w _ (field_more ds i d (omega (arith, t.1))))

pub returns : goal.returns
returns c =
    let ds = c.args.bytes.now in
    let i = c.loop-byte.byte-index in
    let t = c.in-Some.ensures.cases in
    let w = c.put_field.ensures in
    let n : length c.in-Some.front.now ≡ i = omega arith in
    let d = subst (λ (k : ℕ). c.in-Some.last.now ≡ get_or ds k 0) n (last_byte _ _ t.0 refl) in
    let few = field_length c.in-Some.last.now 10 (omega (arith, d, c.type_inv.bytes i)) in
    left_none _ c.loop-byte.invariant.2 w (last_field ds i d (omega (arith, t.1))) (omega (arith, w.place, few, t.1))
