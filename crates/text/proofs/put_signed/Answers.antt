-- `text::put_signed` meets its contract: `-` where the number is below 0, and its magnitude.
use Rattle.whole.proofs.Laws.{◌≡◌, sym, ap, ap₂, ◌∙◌, Bool, true, false, cond, [], ◌∷◌, ◌++◌, ℕ, arith, ℤ, pos, nat_abs, lt_z}
use mir.Facts.{to_z-of_z}
use Rattle.text.specs.Text.{bytes_of}
use Rattle.text.specs.Number.{decimal, signed_text}
use Rattle.text.proofs.Written.{and_then_lem, wrote_as, at_most}
use Rattle.text.proofs.put_signed.Goals as goal

-- what is written, by whether the number is below 0
written : (z : ℤ) (t : Bool) (n b : ℕ) → lt_z z (pos 0) ≡ t → n ≡ nat_abs z → (cond t (bytes_of "-") [] ++ decimal n) ++ (b ∷ []) ≡ signed_text z ++ (b ∷ [])
unfolding signed_text
written z t n b e h = ap₂ (λ (u : Bool) (k : ℕ). (cond u (bytes_of "-") [] ++ decimal k) ++ (b ∷ [])) (sym e) h

pub returns-then-z-lt0 : goal.returns-then-z-lt0
returns-then-z-lt0 c =
    let f = c.before.before in
    let p = f.before.before.before.before in
    let m = p.before.before.before in
    let s = m.before.before in
    let z = to_z-of_z s.ranges.z in
    wrote_as (written s.args.z true _ _ (simp z at p.if-z-lt0.true) (m.unsigned_abs-n.ensures.value ∙ ap nat_abs z)) (and_then_lem p.put-p.ensures f.put_field.ensures)

pub returns : goal.returns
returns c =
    let f = c.before.before in
    let m = f.before.before.before in
    let s = m.before.before in
    let z = to_z-of_z s.ranges.z in
    wrote_as (written s.args.z false _ _ (simp z at f.if-z-lt0.false) (m.unsigned_abs-n.ensures.value ∙ ap nat_abs z)) (at_most (omega arith) f.put_field-2.ensures)
