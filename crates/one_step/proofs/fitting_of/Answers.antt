-- `one_step::fitting_of` meets its contract: the image is formed once, and searched for among the digits of the output system, by constants where that is B.
use Rattle.whole.proofs.Laws.{◌≡◌, sym, ap, subst, ◌∙◌, Within, within_le}
use Rattle.plane.proofs.Laws.{Interval, image_of, image_within, interval_moves}
use Rattle.fitting.proofs.Laws.{fitting, fitting_of, same_fitting}
use Rattle.steps.proofs.Laws.{Setting, setting, chosen}
use Rattle.one_step.proofs.fitting_of.Goals.{After-image-image, Start}
use Rattle.one_step.proofs.fitting_of.Goals as goal
use Rattle.digits.specs.Orders.{viewed}

pub interval-w-requires : goal.interval-w-requires
interval-w-requires c = c.requires.0.there

pub image-image-requires : goal.image-image-requires
image-image-requires c =
    let t = c.requires.0 in
    (t.in_range, subst (Within 100) (sym c.interval-w.ensures) t.digit.in_range.numbers_w)

-- the entry; the setting; the image that was formed
abbrev start : After-image-image → Start
start c = c.before.before.before

abbrev pair : After-image-image → Setting
pair c = let a = (start c).args in setting (viewed a.inputs) (viewed a.outputs)

image-is : (c : After-image-image) → let a = (start c).args in c.image-image.result ≡ image_of a.s.matrix ((pair c).input.interval a.h)
image-is c = c.image-image.ensures ∙ ap (image_of (start c).args.s.matrix) c.interval-w.ensures

is : (c : After-image-image) → let a = (start c).args in fitting_of (pair c).output c.image-image.result ≡ chosen (pair c) a.s a.h
is c = ap (fitting_of (pair c).output) (image-is c)

image-asked : (c : After-image-image) → (Within 200000000000 c.image-image.result) × (Interval c.image-image.result)
image-asked c =
    let t = (start c).requires.0 in
    let e = sym (image-is c) in
    (subst (Within 200000000000) e (within_le (image_within t.in_range t.digit.in_range.numbers_w) tt), subst Interval e (interval_moves (record { above = t.above }) t.digit.interval))

pub returns-then-b : goal.returns-then-b
returns-then-b c =
    let i = c.before.before in
    let p = (start i).requires in
    c.fitting_b.ensures ∙ ap fitting (sym (same_fitting (p.2 c.if-b.true) p.1.few i.image-image.result) ∙ is i)

pub fitting_digit-requires : goal.fitting_digit-requires
fitting_digit-requires c =
    let i = c.before in
    let p = (start i).requires in
    let digits = p.1.digits in
    (p.1.few, record { small = λ a h. (digits a h).in_range.numbers_w; intervals = λ a h. (digits a h).interval }, (image-asked i).0, (image-asked i).1)

pub returns : goal.returns
returns c = c.fitting_digit.ensures ∙ ap fitting (is c.before.before)

pub fitting_b-requires : goal.fitting_b-requires
fitting_b-requires c = image-asked c.before
