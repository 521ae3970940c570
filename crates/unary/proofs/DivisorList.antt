-- The list of a run. How many numbers are listed is known from the other counts: one for each digit written and one for each absorbed, and absorbed is what was held or taken
-- and is not held now (`listed_counts`). So a list as long as input and output together, and one place more where a digit is held, never fills (`list_long_enough`). And a list
-- that did not fill could be any longer one (`more_list`).
-- The argument: each step keeps the count; a step ends 15 only where no place is left, with a digit held; and one that stops otherwise stops so before a longer list too.
use Rattle.whole.proofs.Laws.{◌≡◌, sym, ap, subst, ◌∙◌, true≢false, List, ◌++◌, inl, inr, ℕ, ◌+◌, ◌≤◌, arith, length, drop, length-append, append_assoc, drop-append-le}
use Rattle.digits.proofs.Laws.{System}
use Rattle.runs.proofs.Laws.{Supply, Deed, nothing, and_then, spend, Outcome, goes, halts, Going, Halting, Course, run, longer, written, within, runs, paid, keeps, last_step, same_longer, either, accepted_run, refused_run}
use Rattle.states.proofs.Laws.{State, Stop, ListFull, Refused, refused?, held_count}
use Rattle.steps.proofs.Laws.{Setting, setting, plain, plan, one_word, lawful, steady, Lists, step_lists, Why, step_why}
use Rattle.judging.proofs.Laws.{refusal_of}
use Rattle.unary.specs.Run.{course_of, answer_of, leaves, ran, run_of}
use Rattle.unary.proofs.Runs.{course_in_range}

-- ---- the count

-- so many are listed, from a state that holds h digits on
abbrev Counted : ℕ → Deed → State → Type 0
Counted h d t = length d.divisors + held_count t.held ≡ length d.x + length d.digits + h

-- a step's numbers are added to those before
counts_on : (h : ℕ) (a : Deed) (s : State) → Counted h a s → (v : Outcome State Stop) → Going (Lists s) v → Going (λ t d. Counted h (and_then a d) t) v
counts_on h a s c (goes t d) n = omega (arith, n.counted, c, length-append a.divisors d.divisors, length-append a.x d.x, length-append a.digits d.digits)
counts_on h a s c (halts e) n = tt

course_counts : (a b : System) (s : State) (input : List ℕ) (room list : ℕ) → let q = course_of a b s input room list in Counted (held_count s.held) q.did q.state
unfolding course_of
course_counts a b s input room list =
    let y = setting a b in
    let r = one_word input room list in
    let h = held_count s.held in
    either (plain y) Refused (refusal_of y) s r (λ (q : Course State Stop). Counted h q.did q.state)
    (λ e. keeps (lawful y) (Counted h) (λ d t u c. counts_on h d t c ((plain y).step t u) (step_lists y t u)) (runs (lawful y) s r) nothing (omega arith))
    (λ n e. omega arith)

-- one number for each step 4 or 5: so many as digits were written and digits were absorbed
pub listed_counts : (a b : System) (s : State) (inp out list : List ℕ) → let r = (run_of a b s inp out list).answer in
    r.listed.0 + held_count r.state.held ≡ r.taken.0 + r.written.0 + held_count s.held
unfolding run_of
listed_counts a b s inp out list = course_counts a b s inp (length out) (length list)

-- ---- a list that is long enough

module _ (a b : System) (s : State) (input : List ℕ) (room list : ℕ) where
  abbrev y : Setting
  y = setting a b

  abbrev q : Course State Stop
  q = course_of a b s input room list

  -- a run that ends 15 has filled its list, and holds a digit
  full : q.stop ≡ ListFull → (length q.did.divisors ≡ list) × (held_count q.state.held ≡ 1)
  unfolding course_of
  full = either (plain y) Refused (refusal_of y) s r (λ (q : Course State Stop). q.stop ≡ ListFull → (length q.did.divisors ≡ list) × (held_count q.state.held ≡ 1))
      (λ e f.
      let run_is = run (plain y) s r in
      let why = subst (Halting (Why run_is.state (plan y run_is.state) (spend run_is.did r))) (last_step (lawful y) (runs (lawful y) s r)) (step_why y run_is.state (spend run_is.did r)) in
      elim why [ inl w ↦ (omega (arith, w.1, (paid (lawful y) (runs (lawful y) s r)).list), w.2) | inr w ↦ absurd (w.0 f) ])
      (λ n e f. absurd (true≢false (ap refused? f)))
    where
      r : Supply
      r = one_word input room list

  -- where it did not, it is the same with any longer list
  same_course_longer : (k : ℕ) → (q.stop ≡ ListFull → ⊥) → course_of a b s input room (list + k) ≡ q
  unfolding course_of
  same_course_longer k = either (plain y) Refused (refusal_of y) s r (λ (q : Course State Stop). (q.stop ≡ ListFull → ⊥) → course_of a b s input room (list + k) ≡ q)
      (λ e f. accepted_run (plain y) Refused (refusal_of y) s (longer k r) e ∙ same_longer (lawful y) k (steady y _) (λ w. w ≡ ListFull → ⊥) halted s r f)
      (λ n e f. refused_run (plain y) Refused (refusal_of y) s (longer k r) n e)
    where
      r : Supply
      r = one_word input room list

      halted : (t : State) (u : Supply) (w : Stop) → (plain y).step t u ≡ halts w → (w ≡ ListFull → ⊥) → (plain y).step t (longer k u) ≡ halts w
      halted t u w p f = elim (subst (Halting (Why t (plan y t) u)) p (step_why y t u)) [ inl v ↦ absurd (f v.0) | inr v ↦ v.1 k ]

module _ (a b : System) (s : State) (inp out list : List ℕ) where
  pub list_long_enough : length inp + length out + held_count s.held ≤ length list → (run_of a b s inp out list).answer.stop ≡ ListFull → ⊥
  unfolding run_of
  list_long_enough h e =
      let f = full a b s inp (length out) (length list) e in
      let range = (course_in_range a b s inp (length out) (length list)).pays in
      omega (arith, f.0, f.1, listed_counts a b s inp out list, (within range).0, range.room)

  -- the same answer and the same output, and behind the list what stood there
  pub more_list : let r = run_of a b s inp out list in
      (r.answer.stop ≡ ListFull → ⊥) → (rest : List ℕ) → run_of a b s inp out (list ++ rest) ≡ ran r.answer r.output (r.divisors ++ rest)
  unfolding run_of
  more_list f rest =
      let q = course_of a b s inp (length out) (length list) in
      let d = q.did.divisors in
      let longer-is = ap (course_of a b s inp (length out)) (length-append list rest) ∙ same_course_longer a b s inp (length out) (length list) (length rest) f in
      let behind : written d (list ++ rest) ≡ written d list ++ rest =
      ap (λ (l : List ℕ). d ++ l) (drop-append-le (length d) list rest (course_in_range a b s inp (length out) (length list)).pays.list) ∙ sym (append_assoc d (drop (length d) list) rest) in
      ap (λ (p : Course State Stop). leaves p out (list ++ rest)) longer-is ∙ ap (ran (answer_of q) (written q.did.digits out)) behind
