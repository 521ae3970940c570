-- A run that is not refused is its steps, one after the other, up to one that halts: it never uses up the steps that its definition grants it (crates/runs).
use Rattle.whole.proofs.Laws.{◌≡◌, sym, subst, List, ℕ}
use Rattle.digits.proofs.Laws.{System}
use Rattle.runs.proofs.Laws.{runs, accepted_run}
use Rattle.runs.specs.Run.{Runs}
use Rattle.states.proofs.Laws.{State, Refused}
use Rattle.steps.proofs.Laws.{setting, plain, one_word, lawful}
use Rattle.judging.proofs.Laws.{refusal_of}
use Rattle.unary.proofs.Laws.{course_of}

pub steps_run : (a b : System) (s : State) (input : List ℕ) (room list : ℕ) → refusal_of (setting a b) s ≡ 0 →
    Runs (plain (setting a b)) s (one_word input room list) (course_of a b s input room list)
unfolding course_of
steps_run a b s input room list e =
    let y = setting a b in
    let r = one_word input room list in
    subst (Runs (plain y) s r) (sym (accepted_run (plain y) Refused (refusal_of y) s r e)) (runs (lawful y) s r)
