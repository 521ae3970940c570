-- `job_sections::system_section` meets its contract: its presence decides, and then its numbers, as admission judges them.
use Rattle.whole.proofs.Laws.{◌≡◌, sym, ap, ◌∙◌, subst, List, ℕ, ◌+◌, ◌*◌, ◌-◌, arith, take, drop}
use Rattle.refusals.specs.Types.{WrongCount, Err}
use Rattle.refusals.specs.Numbers.{outcome_number}
use Rattle.digits.proofs.Laws.{StoredSystem, columns_of}
use Rattle.sections.proofs.Laws.{count_says, count_of, presence, value_of, Present, Answered, present, not_there, refused_there, answered}
use Rattle.job_sections.specs.Sections.{numbers_in, system}
use Rattle.std.proofs.Common.{rules}
use Rattle.job_sections.proofs.system_section.Goals.{After-columns_in}
use Rattle.job_sections.proofs.system_section.Goals as goal

there : {b : List ℕ} → 0 ≡ presence system.limits b → Present system.limits b
there {b} e = present system.limits b (omega arith) e

-- the value that is judged
value : (c : After-columns_in) → let v : StoredSystem = record { count = c.in_ok-count.count; columns = c.columns_in.result } in v ≡ value_of system c.args.bytes.now
value c =
    let n = (count_says WrongCount c.in_ok-count.ensures).count in
    let b = c.args.bytes.now in
    let size : 2 + 16 * c.in_ok-count.count - 2 ≡ 16 * count_of b = omega (arith, n) in
    let columns = c.columns_in.ensures ∙ ap (λ (k : ℕ). columns_of (numbers_in (take k (drop 2 b)))) size in
    λ i. record { count = n i; columns = columns i }

-- how a system in memory is judged
abbrev number : StoredSystem → ℕ
number s = system.number s

pub returns-in_err-count : goal.returns-in_err-count
returns-in_err-count c =
    let e : c.from_residual.result ≡ Err c.in_err-count.field-0.0 = search rules in
    subst (Answered system c.args.bytes.now) (sym e) (not_there system (count_says WrongCount c.in_err-count.ensures).number)

pub overflow_mul-size : goal.overflow_mul-size
overflow_mul-size c = let n = count_says WrongCount c.in_ok-count.ensures in omega (arith, n.count, (there n.number).few)

pub overflow_add-size : goal.overflow_add-size
overflow_add-size c = let n = count_says WrongCount c.in_ok-count.ensures in omega (arith, n.count, (there n.number).few)

pub slice_bounds-columns_in-end : goal.slice_bounds-columns_in-end
slice_bounds-columns_in-end c = omega (arith, (there (count_says WrongCount c.in_ok-count.ensures).number).fits, (count_says WrongCount c.in_ok-count.ensures).count)

pub returns-in_err-admission_of : goal.returns-in_err-admission_of
returns-in_err-admission_of c =
    let p = goal.at.returns-in_err-admission_of c in
    let e : c.from_residual-in_err-admission_of.result ≡ Err c.in_err-admission_of.field-0.0 = search rules in
    subst (Answered system c.args.bytes.now) (sym e) (refused_there system (there (count_says WrongCount c.in_ok-count.ensures).number) (value p.After-columns_in) (ap outcome_number c.in_err-admission_of.ensures ∙ ap number c.view.ensures))

pub returns : goal.returns
returns c =
    let p = goal.at.returns c in
    answered system (there (count_says WrongCount c.in_ok-count.ensures).number) (ap (λ (k : ℕ). 2 + 16 * k) (count_says WrongCount c.in_ok-count.ensures).count) (value p.After-columns_in) (ap outcome_number c.in_ok-admission_of.ensures ∙ ap number c.view.ensures)
