-- `text::put_text` meets its contract: the text stands in the place of as many bytes.
use Rattle.whole.proofs.Laws.{◌≡◌, sym, ap, ap₂, ◌∙◌, List, ◌++◌, ℕ, ◌+◌, ◌-◌, arith, length, take, drop, drop-drop, append_assoc}
use Rattle.std.proofs.lemmas.List.Edits.{sets-eq}
use Rattle.text.proofs.put_text.Goals as goal

pub returns : goal.returns
returns c =
    let at = c.args.at in
    let old = c.args.out.now in
    let text = c.args.text.now in
    let n : at + length text - at ≡ length text = omega arith in
    record {
      place = omega arith;
      few = omega arith;
      bytes =
          ap₂ (λ (x : List ℕ) (k : ℕ). take at old ++ (x ++ drop k (drop at old))) c.copy_from_slice.ensures.after n ∙
          ap (λ (l : List ℕ). take at old ++ (text ++ l)) (drop-drop (length text) at old) ∙
          sym (append_assoc (take at old) text (drop (at + length text) old)) ∙
          sym (sets-eq text old at (omega (arith, c.requires)));
    }
