-- "What is kept for the digits a system hasn't got is 0 when it is read, and no answer depends on it": two pairs of systems with the same digits make the same run over two words. They
-- are judged alike (`same_judgement` of crates/admission), and each step is the same (`same_plan` of crates/two_steps), since what is held stays digits of the input system.
use Rattle.whole.proofs.Laws.{◌≡◌, sym, ap, ◌∙◌, cond, List, ℕ, length, unless_refused}
use Rattle.digits.proofs.Laws.{System, SameDigits}
use Rattle.admission.proofs.Laws.{refusal_number, admitted_few, same_judgement}
use Rattle.runs.proofs.Laws.{Plan, follow, Course, same_runs, either, accepted_run, refused_run}
use Rattle.states.proofs.Laws.{Stop, Refused}
use Rattle.steps.proofs.Laws.{setting}
use Rattle.judging.proofs.Laws.{refusal_by}
use Rattle.two_states.proofs.Laws.{TwoState, two_state?}
use Rattle.two_steps.proofs.Laws.{pairs, two_words, lawful, Holds, same_plan, step_holds}
use Rattle.binary.specs.TwoRun.{two_refusal, two_course, leaves, two_run}
use Rattle.binary.proofs.TwoJudging.{two_accepted}

module _ (a a' b b' : System) (f : SameDigits a a') (g : SameDigits b b') (s : TwoState) where
  pub same_refusal : two_refusal (setting a b) s ≡ two_refusal (setting a' b') s
  unfolding two_refusal refusal_by
  same_refusal =
      let p = same_judgement a a' f in
      let q = same_judgement b b' g in
      λ i. unless_refused (refusal_number (p i)) (λ n. n) (unless_refused (refusal_number (q i)) (λ n. n) (cond (two_state? (f.count i) s) 0 12))

  pub same_course : (xs ys : List ℕ) (room : ℕ) → two_course a b s xs ys room ≡ two_course a' b' s xs ys room
  unfolding two_course
  same_course xs ys room =
      let y = setting a b in
      let z = setting a' b' in
      let r = two_words xs ys room in
      either (pairs y) Refused (two_refusal y) s r (λ q. q ≡ two_course a' b' s xs ys room)
      (λ e. let k = (two_accepted y s).0 e in
      same_runs (lawful y) (lawful z) (Holds a.count)
      (λ t r h. (ap (λ (p : Plan TwoState Stop). follow p r) (same_plan y z f g (admitted_few a k.0) (admitted_few b k.1) t h), step_holds y t r h)) s r
      (record { x = k.2.held_x; y = k.2.held_y }) ∙
      sym (accepted_run (pairs z) Refused (two_refusal z) s r (sym same_refusal ∙ e)))
      (λ n e. sym (refused_run (pairs z) Refused (two_refusal z) s r n (sym same_refusal ∙ e)))

  pub same_run : (xs ys out : List ℕ) → two_run a b s xs ys out ≡ two_run a' b' s xs ys out
  unfolding two_run
  same_run xs ys out = ap (λ (q : Course TwoState Stop). leaves q out) (same_course xs ys (length out))
