-- `job_sections::matrix_section` meets its contract: its presence decides, and then its four numbers, as opening judges them.
use Rattle.whole.proofs.Laws.{◌≡◌, sym, ap, ◌∙◌, subst, List, [], ◌∷◌, ℕ, ◌*◌, arith, take, drop, length-drop, length-take-le, held, ok_back, element_16}
use mir.Facts.{to_z-of_z}
use Rattle.refusals.specs.Types.{MatrixCount, Err}
use Rattle.refusals.specs.Numbers.{outcome_number}
use Rattle.plane.proofs.Laws.{four_equal}
use Rattle.sections.proofs.Laws.{count_says, count_of, presence, value_of, Present, Answered, present, not_there, refused_there, answered}
use Rattle.job_sections.specs.Sections.{numbers_in, matrix}
use Rattle.job_sections.proofs.Numbers.{four_numbers}
use Rattle.std.proofs.Common.{rules}
use Rattle.job_sections.proofs.matrix_section.Goals.{After-opening_of}
use Rattle.job_sections.proofs.matrix_section.Goals as goal

there : {b : List ℕ} → 0 ≡ presence matrix.limits b → Present matrix.limits b
there {b} e = present matrix.limits b (omega arith) e

pub returns-in_err-presence : goal.returns-in_err-presence
returns-in_err-presence c =
    let e : c.from_residual.result ≡ Err c.in_err-presence.field-0.0 = search rules in
    subst (Answered matrix c.args.bytes.now) (sym e) (not_there matrix (count_says MatrixCount c.in_err-presence.ensures).number)

-- the value that is judged
value : (c : After-opening_of) → held c.from.result ∷ held c.from-2.result ∷ held c.from-3.result ∷ held c.from-4.result ∷ [] ≡ value_of matrix c.args.bytes.now
value c =
    let b = c.args.bytes.now in
    let h = there (count_says MatrixCount c.in_ok-presence.ensures).number in
    let n : count_of b ≡ 4 = omega (arith, h.some, h.few) in
    let numbers = four_equal
    (ok_back c.from.type_inv ∙ c.from.ensures ∙ to_z-of_z (element_16 _ c.number_at.type_inv) ∙ c.number_at.ensures)
    (ok_back c.from-2.type_inv ∙ c.from-2.ensures ∙ to_z-of_z (element_16 _ c.number_at-2.type_inv) ∙ c.number_at-2.ensures)
    (ok_back c.from-3.type_inv ∙ c.from-3.ensures ∙ to_z-of_z (element_16 _ c.number_at-3.type_inv) ∙ c.number_at-3.ensures)
    (ok_back c.from-4.type_inv ∙ c.from-4.ensures ∙ to_z-of_z (element_16 _ c.number_at-4.type_inv) ∙ c.number_at-4.ensures) in
    numbers ∙ four_numbers (take 8 (drop 2 b)) (length-take-le 8 (drop 2 b) (omega (arith, h.fits, n, length-drop 2 b))) ∙ ap (λ (k : ℕ). numbers_in (take (2 * k) (drop 2 b))) (sym n)

pub slice_bounds-numbers-end : goal.slice_bounds-numbers-end
slice_bounds-numbers-end c = let h = there (count_says MatrixCount c.in_ok-presence.ensures).number in omega (arith, h.some, h.fits)

pub returns-in_err-opening_of : goal.returns-in_err-opening_of
returns-in_err-opening_of c =
    let p = goal.at.returns-in_err-opening_of c in
    let e : c.from_residual-in_err-opening_of.result ≡ Err c.in_err-opening_of.field-0.0 = search rules in
    subst (Answered matrix c.args.bytes.now) (sym e) (refused_there matrix (there (count_says MatrixCount c.in_ok-presence.ensures).number) (value p.After-opening_of) (ap outcome_number c.in_err-opening_of.ensures))

pub returns : goal.returns
returns c =
    let p = goal.at.returns c in
    let h = there (count_says MatrixCount c.in_ok-presence.ensures).number in
    answered matrix h (omega (arith, h.some, h.few)) (value p.After-opening_of) (ap outcome_number c.in_ok-opening_of.ensures)
