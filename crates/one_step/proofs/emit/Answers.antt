-- `one_step::emit` meets its contract: lines 4 and 5 of a step. What was found to fit is the plan's choice, however it was searched for.
use Rattle.whole.proofs.Laws.{◌≡◌, sym, ap, subst, ◌∙◌, false≢true, List, Option, ℕ, ◌-◌}
use Rattle.plane.proofs.Laws.{image_of}
use Rattle.digits.proofs.Laws.{table_of, rows_r, interval}
use Rattle.fitting.proofs.Laws.{Fitting, fits, fitting, fitting_of, same_fitting, fits_back}
use Rattle.steps.proofs.Laws.{Move, Setting, setting, one_word, chosen, held_plan, emit_plan, Follows}
use Rattle.one_step.proofs.Fit.{works_where}
use Rattle.one_step.proofs.emit.Goals.{After-fitting_of_r-fit, Start}
use Rattle.one_step.proofs.emit.Goals as goal
use Rattle.digits.specs.Orders.{viewed}

abbrev pair : Start → Setting
pair s = setting (viewed s.args.inputs) (viewed s.args.outputs)

-- what was found is the plan's choice
abbrev Chosen : Start → Fitting → Type 0
Chosen s f = f ≡ fitting (chosen (pair s) s.args.s s.args.h)

choice : (s : Start) {f : Fitting} → Chosen s f → chosen (pair s) s.args.s s.args.h ≡ fits f
choice s e = sym (ap fits e ∙ fits_back (chosen (pair s) s.args.s s.args.h))

-- so what `emitted` did is what is asked for
done : (s : Start) {f : Fitting} {m : Move} → Chosen s f →
    let a = s.args in
    ((bytes : List ℕ) → Follows (held_plan (pair s) a.s a.h (fits f)) a.s (one_word bytes (a.room - a.o) (a.list - a.p)) m) →
    (bytes : List ℕ) → Follows (emit_plan (pair s) a.s a.h) a.s (one_word bytes (a.room - a.o) (a.list - a.p)) m
done s {f} {m} e made bytes =
    let a = s.args in
    subst (λ (o : Option ℕ). Follows (held_plan (pair s) a.s a.h o) a.s (one_word bytes (a.room - a.o) (a.list - a.p)) m) (sym (choice s e)) (made bytes)

-- ---- both systems are R

pub fitting_of_r-fit-requires : goal.fitting_of_r-fit-requires
fitting_of_r-fit-requires c = let p = c.requires in (p.0.in_range, p.0.above, p.2.digit.below c.if-r.true)

chosen-r : (c : After-fitting_of_r-fit) → Chosen c.before.before c.fitting_of_r-fit.result
chosen-r c =
    let s = c.before.before in
    let p = s.requires in
    let taken = c.if-r.true in
    let image = image_of s.args.s.matrix in
    c.fitting_of_r-fit.ensures ∙
    ap fitting (sym (same_fitting (p.2.output_r taken) p.1.few (image (interval (table_of rows_r) s.args.h))) ∙
    ap (λ w. fitting_of (pair s).output (image w)) (sym (p.2.interval taken)))

pub emitted-requires : goal.emitted-requires
emitted-requires c =
    let s = c.before.before in
    let p = s.requires in
    let taken = c.if-r.true in
    (p.0, record { below = λ e. p.2.digit.below taken; same = λ e. p.2.digit.same taken }, works_where (pair s) p.0 p.1 (λ e. p.2.output_r taken) _ (choice s (chosen-r c)))

pub returns-then-r : goal.returns-then-r
returns-then-r c = done c.before.before.before (chosen-r c.before) c.emitted.ensures

-- ---- any other systems

pub emitted-requires-2 : goal.emitted-requires-2
emitted-requires-2 c =
    let s = c.before.before in
    let p = s.requires in
    (p.0, record { below = λ e. absurd (false≢true e); same = λ e. absurd (false≢true e) }, works_where (pair s) p.0 p.1 (λ e. absurd (false≢true e)) _ (choice s c.fitting_of-fit.ensures))

pub returns : goal.returns
returns c = done c.before.before.before c.fitting_of-fit.ensures c.emitted-2.ensures

pub fitting_of-fit-requires : goal.fitting_of-fit-requires
fitting_of-fit-requires c = let p = c.requires in (p.0, p.1, p.2.output_b)
