-- A run that is judged first is either refused, and did nothing, or it is the run: `either`, by which every statement on judged runs goes. A run hands back no state
-- that the next would refuse (`kept`), and a refused call is the same call again.
use Rattle.whole.proofs.Laws.{◌≡◌, refl, sym, ap, subst, ◌∙◌, ℕ, zero, suc, unless_refused}
use Rattle.runs.specs.Supply.{Supply, spend}
use Rattle.runs.specs.Machine.{Machine}
use Rattle.runs.specs.Run.{Course, stopped, followed_by, run, judged_run}
use Rattle.runs.specs.Asked.{join, Lawful, Steady}
use Rattle.runs.proofs.Runs.{behind_nothing, stops_again, cut_anywhere}

module _ {State Stop : Type 0} (m : Machine State Stop) (refused : ℕ → Stop) (judge : State → ℕ) (s : State) (r : Supply) where
  pub accepted_run : judge s ≡ 0 → judged_run m refused judge s r ≡ run m s r
  unfolding judged_run unless_refused
  accepted_run e = rw e

  -- "it then answers the number, counts 0 and 0, the state as handed in, and an untouched output"
  pub refused_run : (n : ℕ) → judge s ≡ suc n → judged_run m refused judge s r ≡ stopped (refused (suc n)) s
  unfolding judged_run unless_refused
  refused_run n e = rw e

  pub either : (P : Course State Stop → Type 0) →
      (judge s ≡ 0 → P (run m s r)) → ((n : ℕ) → judge s ≡ suc n → P (stopped (refused (suc n)) s)) → P (judged_run m refused judge s r)
  either P run_is refusal = by (judge s) refl
    where
      by : (n : ℕ) → judge s ≡ n → P (judged_run m refused judge s r)
      by zero e = subst P (sym (accepted_run e)) (run_is e)
      by (suc n) e = subst P (sym (refused_run n e)) (refusal n e)

module _ {State Stop : Type 0} {m : Machine State Stop} (lawful : Lawful m) (refused : ℕ → Stop) (judge : State → ℕ)
    (kept : (s : State) (r : Supply) → judge s ≡ 0 → judge (run m s r).state ≡ 0) (s : State) (r : Supply) where
  abbrev again : State → Supply → Course State Stop
  again = judged_run m refused judge

  pub judged_stops_again : let q = again s r in again q.state (spend q.did r) ≡ stopped q.stop q.state
  judged_stops_again = either m refused judge s r (λ q. again q.state (spend q.did r) ≡ stopped q.stop q.state)
      (λ e. let q = run m s r in accepted_run m refused judge q.state (spend q.did r) (kept s r e) ∙ stops_again lawful s r)
      (refused_run m refused judge s _)

  pub judged_cut_anywhere : {more : Supply} {Unseen : State → Supply → Type 0} → Steady m more Unseen → Unseen s r →
      let q = again s r in again s (join r more) ≡ followed_by q (again q.state (join (spend q.did r) more))
  judged_cut_anywhere {more} steady unseen = either m refused judge s r (λ q. again s (join r more) ≡ followed_by q (again q.state (join (spend q.did r) more)))
      (λ e. let q = run m s r in
      accepted_run m refused judge s (join r more) e ∙ cut_anywhere lawful steady s r unseen ∙
      ap (followed_by q) (sym (accepted_run m refused judge q.state (join (spend q.did r) more) (kept s r e))))
      (λ n e. refused_run m refused judge s (join r more) n e ∙ sym (ap (followed_by (stopped (refused (suc n)) s)) (refused_run m refused judge s _ n e) ∙ behind_nothing _))
