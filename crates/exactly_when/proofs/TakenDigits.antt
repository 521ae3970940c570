-- "Nothing held and the next byte is no digit of the input system: stop, end 21. The byte is not taken." So every byte that a run took is a digit of the input system; a
-- refused run took none.
-- The argument: a step that takes a byte has tested it, the others take none, and what each step keeps a run keeps (crates/runs). The bytes taken are the first of the input.
use Rattle.whole.proofs.Laws.{subst, List, [], ◌∷◌, ◌++◌, Option, none, some, ℕ, ◌<◌, ltb-true, ltb, length, drop, get_or, List·getD-append}
use Rattle.digits.proofs.Laws.{System}
use Rattle.runs.proofs.Laws.{Supply, Deed, nothing, Course, Each, Going, took_x, gave, follow_each, each_test, keeps, runs, either}
use Rattle.states.proofs.Laws.{Held, None, Some, State, Stop, NotADigit, Refused, loaded, given, absorbed}
use Rattle.steps.proofs.Laws.{Setting, setting, plain, plan, plan_by, held_plan, chosen, given_matrix, absorbed_matrix, one_word, lawful, each_cancelled, Below, every_at, every_both}
use Rattle.judging.proofs.Laws.{refusal_of}
use Rattle.unary.proofs.Laws.{course_of, run_of, course_in_range}

module _ (y : Setting) (a : Deed) (digits : Below y.input.count a.x) (s : State) where
  abbrev Digits : State → Deed → Type 0
  Digits t d = Below y.input.count (a.x ++ d.x)

  -- where nothing is taken
  as_before : Below y.input.count (a.x ++ [])
  as_before = every_both (λ b. b < y.input.count) a.x [] digits tt

  held_takes : (h : ℕ) (o : Option ℕ) → Each Digits nothing (held_plan y s h o)
  unfolding Each
  held_takes h (some b) = each_cancelled (given s) (given_matrix y.output s b) Digits (gave b) (λ w. as_before)
  held_takes h none = each_cancelled (absorbed s) (absorbed_matrix y.input s h) Digits nothing (λ w. as_before)

  plan_takes : (h : Held) → Each Digits nothing (plan_by y s h)
  unfolding Each
  plan_takes None = λ b. each_test Digits (took_x b) (ltb b y.input.count) (loaded s b) NotADigit
      (λ w. every_both (λ b. b < y.input.count) a.x (b ∷ []) digits (ltb-true b y.input.count w, tt))
  plan_takes (Some h) = held_takes h (chosen y s h)

  step_takes : (r : Supply) → Going Digits ((plain y).step s r)
  step_takes r = follow_each Digits (plan y s) (plan_takes s.held) r

course_takes : (a b : System) (s : State) (input : List ℕ) (room list : ℕ) → Below a.count (course_of a b s input room list).did.x
unfolding course_of
course_takes a b s input room list =
    let y = setting a b in
    let r = one_word input room list in
    either (plain y) Refused (refusal_of y) s r (λ (q : Course State Stop). Below a.count q.did.x)
    (λ e. keeps (lawful y) (λ d t. Below a.count d.x) (λ d t u h. step_takes y d h t u) (runs (lawful y) s r) nothing tt)
    (λ n e. tt)

pub taken_are_digits : (a b : System) (s : State) (input output divisors : List ℕ) (p : ℕ) → p < (run_of a b s input output divisors).answer.taken.0 → get_or input p 0 < a.count
unfolding run_of
taken_are_digits a b s input output divisors p h =
    let took = (course_of a b s input (length output) (length divisors)).did.x in
    let rest = drop (length took) input in
    let front = (course_in_range a b s input (length output) (length divisors)).pays.x in
    subst (λ (l : List ℕ). get_or l p 0 < a.count) front (rw (List·getD-append took rest 0 p h) (every_at (λ b. b < a.count) took p (course_takes a b s input (length output) (length divisors)) h))
