-- "What is kept for the digits a system hasn't got is 0 when it is read, and no answer depends on it": two pairs of systems with the same digits make the same run. They
-- are judged alike (`same_judgement` of crates/admission), and each step is the same (`same_plan` of crates/steps), since what is held stays a digit of the input system.
use Rattle.whole.proofs.Laws.{◌≡◌, sym, ap, ◌∙◌, cond, List, ℕ, length, unless_refused}
use Rattle.digits.proofs.Laws.{System, SameDigits}
use Rattle.admission.proofs.Laws.{refusal_number, admitted_few, same_judgement}
use Rattle.runs.proofs.Laws.{Plan, follow, Course, same_runs, either, accepted_run, refused_run}
use Rattle.states.proofs.Laws.{State, Stop, Refused, HeldDigit}
use Rattle.steps.proofs.Laws.{setting, plain, one_word, lawful, same_plan, step_holds}
use Rattle.judging.proofs.Laws.{state?, refusal_by, refusal_of, accepted}
use Rattle.unary.specs.Run.{course_of, leaves, run_of}

module _ (a a' b b' : System) (f : SameDigits a a') (g : SameDigits b b') (s : State) where
  pub same_refusal : refusal_of (setting a b) s ≡ refusal_of (setting a' b') s
  unfolding refusal_of refusal_by
  same_refusal =
      let p = same_judgement a a' f in
      let q = same_judgement b b' g in
      λ i. unless_refused (refusal_number (p i)) (λ n. n) (unless_refused (refusal_number (q i)) (λ n. n) (cond (state? (f.count i) s) 0 12))

  pub same_course : (input : List ℕ) (room list : ℕ) → course_of a b s input room list ≡ course_of a' b' s input room list
  unfolding course_of
  same_course input room list =
      let y = setting a b in
      let z = setting a' b' in
      let r = one_word input room list in
      either (plain y) Refused (refusal_of y) s r (λ q. q ≡ course_of a' b' s input room list)
      (λ e. let k = (accepted y s).0 e in
      same_runs (lawful y) (lawful z) (λ t. HeldDigit a.count t.held)
      (λ t r h. (ap (λ (p : Plan State Stop). follow p r) (same_plan y z f g (admitted_few a k.input) (admitted_few b k.output) t h), step_holds y t r h)) s r k.state.held_digit ∙
      sym (accepted_run (plain z) Refused (refusal_of z) s r (sym same_refusal ∙ e)))
      (λ n e. sym (refused_run (plain z) Refused (refusal_of z) s r n (sym same_refusal ∙ e)))

  pub same_run : (inp out list : List ℕ) → run_of a b s inp out list ≡ run_of a' b' s inp out list
  unfolding run_of
  same_run inp out list = ap (λ (q : Course State Stop). leaves q out list) (same_course inp (length out) (length list))
