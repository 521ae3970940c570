-- `written_sections::put_bytes` meets its contract. The invariant: the first i bytes are written.
use Rattle.whole.proofs.Laws.{sym, ap, ◌∙◌, ℕ, List, add-one, arith, take, take_all, get_or, set, written}
use Rattle.written_sections.proofs.Filling.{byte_more}
use Rattle.written_sections.proofs.put_bytes.Goals as goal

pub loop-i-preserved : goal.loop-i-preserved
loop-i-preserved c =
    let l = c.loop-i in
    let a = c.args in
    ap (λ (x : List ℕ). set x l.i (get_or a.bytes.now l.i 0)) l.invariant ∙ byte_more a.bytes.now a.out.now l.i c.loop-i-test.true c.requires ∙
    ap (λ (k : ℕ). written (take k a.bytes.now) a.out.now) (sym (add-one l.i))

pub returns : goal.returns
returns c = let a = c.args in c.loop-i.invariant ∙ ap (λ (x : List ℕ). written x a.out.now) (take_all c.loop-i.i a.bytes.now (omega (arith, c.loop-i-test.false)))
