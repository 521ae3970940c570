-- When a run ends how, with document 01's words both ways: it is refused by n exactly if RefusedBy says so, and else it ends 0, 15, 20, 21 or 22 exactly if the line that stops
-- so applies to the state and the counts that it answers.
-- The argument: a run that is not refused ends with a step that halts, in the state that is answered and before what it left; `step_exactly` says which line that is. The
-- counts are lengths: the first byte that is left is the byte behind the taken ones, and no room is left exactly if as many digits are written as there was room for; of the list the same.
use Rattle.whole.proofs.Laws.{◌≡◌, refl, sym, ap, subst, ◌∙◌, false, true≢false, List, ◌∷◌, inl, inr, ◌↔◌, ℕ, suc, ◌≤◌, ◌<◌, arith, length, drop, get_or, length-drop, drop_of_length-le}
use lib.Seq.{drop-cons}
use Rattle.digits.proofs.Laws.{System}
use Rattle.runs.proofs.Laws.{Supply, Course, Outcome, halts, Halting, Pays, spend, within, last_step}
use Rattle.states.proofs.Laws.{State, Stop, InputUsed, ListFull, NoRoom, NotADigit, RangeLeft, Refused, refused?}
use Rattle.steps.proofs.Laws.{Setting, setting, one_word, lawful}
use Rattle.unary.proofs.Laws.{course_of, run_of, course_in_range, refused_untouched}
use Rattle.unary.specs.Run.{Ran, answer_of}
use Rattle.exactly_when.specs.Lines.{Line, no_input, no_digit, takes, no_room, giving_unlisted, giving_leaves, gives, absorbing_unlisted, absorbing_leaves, absorbs}
use Rattle.exactly_when.specs.Ends.{RefusedBy, Passes, EndCase, RunCase}
use Rattle.exactly_when.proofs.StepExactly.{step_exactly}
use Rattle.exactly_when.proofs.RefusedExactly.{refused_not_0, refused_only, passes_exactly, some_refusal}
use Rattle.exactly_when.proofs.StepsRun.{steps_run}

-- ---- the line that halts, by what is left and by the counts

-- the first byte that is left
left_byte : (input : List ℕ) (t b : ℕ) (rest : List ℕ) → drop t input ≡ b ∷ rest → (t < length input) × (get_or input t 0 ≡ b)
left_byte input t b rest e =
    let there : t < length input = omega (arith, ap length e, length-drop t input) in
    (there, ap (λ (l : List ℕ). get_or l 0 0) (sym (drop-cons input t 0 there) ∙ e))

module _ (y : Setting) (input output divisors : List ℕ) (q : Course State Stop) (pays : Pays q.did (one_word input (length output) (length divisors))) where
  abbrev left : Supply
  left = spend q.did (one_word input (length output) (length divisors))

  taken_fits : length q.did.x ≤ length input
  taken_fits = (within pays).0

  line_ends : {v : Outcome State Stop} → Line y q.state left v → Halting (EndCase y input output divisors (answer_of q)) v
  line_ends (no_input e f) = record { free = e; all_taken = omega (arith, ap length f, length-drop (length q.did.x) input, taken_fits) }
  line_ends (no_digit e b rest f k) = let n = left_byte input (length q.did.x) b rest f in record { free = e; there = n.0; no_digit = omega (arith, n.1, k) }
  line_ends (takes e b rest f k) = tt
  line_ends (no_room h e b m f) = record { held = h; holds = e; digit = b; smallest = m; full = omega (arith, f, pays.room) }
  line_ends (giving_unlisted h e b m k f) = record { held = h; holds = e; step = inl (b, m, omega (arith, k), tt); full = omega (arith, f, pays.list) }
  line_ends (giving_leaves h e b m k p l) = record { held = h; holds = e; place = omega (arith, p); leaves = inl (b, m, omega (arith, k), l) }
  line_ends (gives h e b m k p w) = tt
  line_ends (absorbing_unlisted h e n f) = record { held = h; holds = e; step = inr (n, tt); full = omega (arith, f, pays.list) }
  line_ends (absorbing_leaves h e n p l) = record { held = h; holds = e; place = omega (arith, p); leaves = inr (n, l) }
  line_ends (absorbs h e n p w) = tt

  ends_line : (e : Stop) → EndCase y input output divisors (answer_of q) e → Line y q.state left (halts e)
  ends_line InputUsed c = let all : length input ≤ length q.did.x = omega (arith, c.all_taken) in no_input c.free (drop_of_length-le input all)
  ends_line NotADigit c = no_digit c.free (get_or input (length q.did.x) 0) (drop (suc (length q.did.x)) input) (drop-cons input (length q.did.x) 0 c.there) c.no_digit
  ends_line NoRoom c = no_room c.held c.holds c.digit c.smallest (omega (arith, c.full))
  ends_line RangeLeft c = elim c.leaves [
    | inl m ↦ giving_leaves c.held c.holds m.0 m.1 (omega (arith, m.2)) (omega (arith, c.place)) m.3
    | inr n ↦ absorbing_leaves c.held c.holds n.0 (omega (arith, c.place)) n.1
  ]
  ends_line ListFull c = elim c.step [
    | inl m ↦ giving_unlisted c.held c.holds m.0 m.1 (omega (arith, m.2)) (omega (arith, c.full))
    | inr n ↦ absorbing_unlisted c.held c.holds n.0 (omega (arith, c.full))
  ]
  ends_line (Refused n) c = absurd c

-- ---- the run

halts_one : {e f : Stop} → ◌≡◌ {A = Outcome State Stop} (halts e) (halts f) → e ≡ f
halts_one p = cc

refused_one : {m n : ℕ} → Refused m ≡ Refused n → m ≡ n
refused_one p = cc

module _ (a b : System) (s : State) (input output divisors : List ℕ) where
  abbrev y : Setting
  y = setting a b

  abbrev q : Course State Stop
  q = course_of a b s input (length output) (length divisors)

  -- a run that passes ends by one of the five lines, and by no other
  ended : Passes y s → (e : Stop) → (q.stop ≡ e) ↔ EndCase y input output divisors (answer_of q) e
  ended p e =
      let accepted = (passes_exactly y s).1 p in
      let c = course_in_range a b s input (length output) (length divisors) in
      let last = last_step (lawful y) (steps_run a b s input (length output) (length divisors) accepted) in
      let step = step_exactly y q.state (left y input output divisors q c.pays) (record { input = p.input; output = p.output; state = c.state accepted }) (halts e) in (
        λ f. line_ends y input output divisors q c.pays (step.0 (last ∙ ap halts f)),
        λ k. halts_one (sym last ∙ step.1 (ends_line y input output divisors q c.pays e k)),
      )

  -- one that is refused answers the number
  refused_stop : {n : ℕ} → RefusedBy y s n → q.stop ≡ Refused n
  unfolding run_of
  refused_stop k =
      let e = refused_only k in
      ap (λ (r : Ran). r.answer.stop) (refused_untouched a b s input output divisors (λ z. refused_not_0 k (sym e ∙ z))) ∙ ap Refused e

  by_line : (e : Stop) → refused? e ≡ false → (q.stop ≡ e) ↔ (Passes y s × EndCase y input output divisors (answer_of q) e)
  by_line e g = (λ f. let p = passes f in (p, (ended p e).0 f), λ c. (ended c.0 e).1 c.1)
    where
      passes : q.stop ≡ e → Passes y s
      passes f = elim (some_refusal y s) [ inl p ↦ p | inr k ↦ absurd (true≢false (ap refused? (sym (refused_stop k) ∙ f) ∙ g)) ]

  pub ends_exactly : (e : Stop) → let r = (run_of a b s input output divisors).answer in (r.stop ≡ e) ↔ RunCase (setting a b) s input output divisors r e
  unfolding run_of
  ends_exactly InputUsed = by_line InputUsed refl
  ends_exactly NotADigit = by_line NotADigit refl
  ends_exactly NoRoom = by_line NoRoom refl
  ends_exactly ListFull = by_line ListFull refl
  ends_exactly RangeLeft = by_line RangeLeft refl
  ends_exactly (Refused n) = (
    λ f. elim (some_refusal y s) [ inl p ↦ absurd ((ended p (Refused n)).0 f) | inr k ↦ subst (RefusedBy y s) (refused_one (sym (refused_stop k) ∙ f)) k ],
    refused_stop,
  )
