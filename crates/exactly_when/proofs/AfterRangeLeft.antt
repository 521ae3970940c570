-- After end 22 a session is over: whatever bytes, whatever room and whatever list a call from that state is given, it does nothing and ends 22 again, or 20 where it is given
-- no room at all and a digit fits, or 15 where it is given no list at all. The digit that is held and the one that fits, if one does, are those of the state, so the same line
-- applies again, before any bytes; only whether there is room and a place in the list can differ, and they are asked for first. A run whose first step halts is that step.
use Rattle.whole.proofs.Laws.{◌≡◌, sym, ap, subst, ◌∙◌, List, inl, inr, ℕ, eq-zero-or-pos, length}
use Rattle.digits.proofs.Laws.{System}
use Rattle.runs.proofs.Laws.{Course, halts, only, stopped}
use Rattle.runs.specs.Run.{stops}
use Rattle.states.proofs.Laws.{State, Stop, ListFull, NoRoom, RangeLeft}
use Rattle.steps.proofs.Laws.{Setting, setting, one_word, lawful}
use Rattle.unary.proofs.Laws.{run_of, steps_of, in_range, run_accepted}
use Rattle.unary.specs.Run.{leaves}
use Rattle.exactly_when.specs.Lines.{Line, no_room, giving_unlisted, giving_leaves, absorbing_unlisted, absorbing_leaves}
use Rattle.exactly_when.specs.Ends.{Passes, EndCase, Over, with_room, none_fits, without_room, without_list, none_fits_unlisted}
use Rattle.exactly_when.proofs.StepExactly.{step_exactly}
use Rattle.exactly_when.proofs.RefusedExactly.{passes_exactly}
use Rattle.exactly_when.proofs.EndsExactly.{ends_exactly}

-- a run whose first step halts
halts_at_once : (a b : System) (t : State) (more room list : List ℕ) (e : Stop) → Passes (setting a b) t → Line (setting a b) t (one_word more (length room) (length list)) (halts e) →
    run_of a b t more room list ≡ leaves (stopped e t) room list
unfolding steps_of
halts_at_once a b t more room list e p l =
    let y = setting a b in
    let r = one_word more (length room) (length list) in
    run_accepted a b t more room list ((passes_exactly y t).1 p) ∙ ap (λ (q : Course State Stop). leaves q room list) (only (lawful y) (stops e ((step_exactly y t r p (halts e)).1 l)))

pub range_left_again : (a b : System) (s : State) (input output divisors : List ℕ) → let r = (run_of a b s input output divisors).answer in
    r.stop ≡ RangeLeft → (more room list : List ℕ) → Over (setting a b) r.state room list (run_of a b r.state more room list)
range_left_again a b s input output divisors e more room list =
    let c = case.1 in
    elim c.leaves [
      | inr n ↦ elim (eq-zero-or-pos (length list)) [
        | inl z ↦ over ListFull (absorbing_unlisted c.held c.holds n.0 z) (none_fits_unlisted c.held c.holds n.0 z)
        | inr p ↦ over RangeLeft (absorbing_leaves c.held c.holds n.0 p n.1) (none_fits c.held c.holds n.0 p)
      ]
      | inl m ↦ elim (eq-zero-or-pos (length room)) [
        | inl z ↦ over NoRoom (no_room c.held c.holds m.0 m.1 z) (without_room c.held c.holds m.0 m.1 z)
        | inr k ↦ elim (eq-zero-or-pos (length list)) [
          | inl z ↦ over ListFull (giving_unlisted c.held c.holds m.0 m.1 k z) (without_list k z)
          | inr p ↦ over RangeLeft (giving_leaves c.held c.holds m.0 m.1 k p m.3) (with_room k p)
        ]
      ]
    ]
  where
    y : Setting
    y = setting a b

    t : State
    t = (run_of a b s input output divisors).answer.state

    case : Passes y s × EndCase y input output divisors (run_of a b s input output divisors).answer RangeLeft
    case = (ends_exactly a b s input output divisors RangeLeft).0 e

    passes : Passes y t
    passes = record { input = case.0.input; output = case.0.output; state = (in_range a b s input output divisors).state ((passes_exactly y s).1 case.0) }

    -- the call, by the line that applies
    over : (w : Stop) → Line y t (one_word more (length room) (length list)) (halts w) → Over y t room list (leaves (stopped w t) room list) → Over y t room list (run_of a b t more room list)
    over w l o = subst (Over y t room list) (sym (halts_at_once a b t more room list w passes l)) o
