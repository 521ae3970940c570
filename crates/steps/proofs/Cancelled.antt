-- A step that cancels its product, in line 4 or in line 5: where its plan goes on, and with which words it stops.
use Rattle.whole.proofs.Laws.{◌≡◌, true, List, ℤ, gcd4, within?}
use Rattle.plane.proofs.Laws.{cancel_of}
use Rattle.runs.proofs.Laws.{Deed, and_then, listed, Each, EachStop, each_test, stop_test}
use Rattle.states.proofs.Laws.{State, Stop, ListFull, RangeLeft}
use Rattle.steps.specs.Step.{cancelled_plan}

module _ (new : List ℤ → State) (m : List ℤ) where
  abbrev t : State
  t = new (cancel_of m)

  pub each_cancelled : (R : State → Deed → Type 0) (a : Deed) → (within? 1000000000 t.matrix ≡ true → R t (and_then a (listed (gcd4 m)))) → Each R a (cancelled_plan new m)
  unfolding Each
  each_cancelled R a h = each_test R (and_then a (listed (gcd4 m))) (within? 1000000000 t.matrix) t RangeLeft h

  pub stop_cancelled : (R : Stop → Type 0) → R ListFull → R RangeLeft → EachStop R (cancelled_plan new m)
  unfolding EachStop
  stop_cancelled R full left = (full, stop_test R (within? 1000000000 t.matrix) t RangeLeft left)
