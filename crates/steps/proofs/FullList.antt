-- Where a step ends 15: no place is left in the list, and a digit is held. Where it stops otherwise, it stops so before a longer list too.
use Rattle.whole.proofs.Laws.{◌≡◌, refl, ap, ◌⊎◌, inl, inr, Bool, true, false, cond, List, [], ◌∷◌, Option, none, some, ℕ, zero, suc, ◌+◌, ◌-◌, arith, ltb, ℤ, gcd4, within?}
use Rattle.plane.proofs.Laws.{cancel_of}
use Rattle.runs.proofs.Laws.{Supply, halts, Halting, longer, Plan, stop, go, digit, divisor, listed, gave, took_x, first, follow, spend}
use Rattle.states.proofs.Laws.{Held, None, Some, State, Stop, ListFull, NotADigit, NoRoom, RangeLeft, held_count, end_number, loaded, given, absorbed}
use Rattle.steps.specs.Step.{Setting, cancelled_plan, load_plan, chosen, given_matrix, absorbed_matrix, held_plan, plan_by, plan, plain}

abbrev before : List ℕ → List ℕ → ℕ → ℕ → Supply
before xs ys room list = record { x = xs; y = ys; room = room; list = list }

-- why a plan stops
abbrev pub Why : State → Plan State Stop → Supply → Stop → Type 0
Why s p r e = ((e ≡ ListFull) × (r.list ≡ 0) × (held_count s.held ≡ 1)) ⊎ ((e ≡ ListFull → ⊥) × ((k : ℕ) → follow p (longer k r) ≡ halts e))

other : {e : Stop} → (end_number e ≡ 15 → ⊥) → e ≡ ListFull → ⊥
other f e = f (ap end_number e)

module _ (s : State) (xs ys : List ℕ) where
  cancelled_stops : (new : List ℤ → State) (m : List ℤ) → held_count s.held ≡ 1 → (room list : ℕ) → Halting (Why s (cancelled_plan new m) (before xs ys room list)) (follow (cancelled_plan new m) (before xs ys room list))
  unfolding follow
  cancelled_stops new m held room zero = inl (refl, refl, held)
  cancelled_stops new m held room (suc l) = by (within? 1000000000 (new (cancel_of m)).matrix) refl
    where
      by : (c : Bool) → within? 1000000000 (new (cancel_of m)).matrix ≡ c →
          Halting (Why s (cancelled_plan new m) (before xs ys room (suc l))) (first (listed (gcd4 m)) (follow (cond c (go (new (cancel_of m))) (stop RangeLeft)) (spend (listed (gcd4 m)) (before xs ys room (suc l)))))
      by true e = tt
      by false e = inr (other (λ n. omega (arith, n)), λ k. let p : suc l + k ≡ suc (l + k) = omega arith in rw (p, e))

  gives_stops : (new : List ℤ → State) (m : List ℤ) (b : ℕ) → held_count s.held ≡ 1 → (room list : ℕ) →
      Halting (Why s (digit NoRoom b (cancelled_plan new m)) (before xs ys room list)) (follow (digit NoRoom b (cancelled_plan new m)) (before xs ys room list))
  unfolding follow
  gives_stops new m b held zero list = inr (other (λ n. omega (arith, n)), λ k. refl)
  gives_stops new m b held (suc n) zero = inl (refl, refl, held)
  gives_stops new m b held (suc n) (suc l) = by (within? 1000000000 (new (cancel_of m)).matrix) refl
    where
      here : suc l - 0 ≡ suc l
      here = omega arith

      by : (c : Bool) → within? 1000000000 (new (cancel_of m)).matrix ≡ c → Halting (Why s (digit NoRoom b (cancelled_plan new m)) (before xs ys (suc n) (suc l)))
          (first (gave b) (follow (divisor ListFull (gcd4 m) (cond c (go (new (cancel_of m))) (stop RangeLeft))) (spend (gave b) (before xs ys (suc n) (suc l)))))
      by true e = rw here tt
      by false e = rw here (inr (other (λ n. omega (arith, n)), λ k. let p : suc l + k - 0 ≡ suc (l + k) = omega arith in rw (p, e)))

  loads_stop : (n room list : ℕ) → Halting (Why s (load_plan n s) (before xs ys room list)) (follow (load_plan n s) (before xs ys room list))
  unfolding follow
  loads_stop n room list = by_bytes xs
    where
      by_test : (b : ℕ) (rest : List ℕ) (c : Bool) → ltb b n ≡ c → Halting (Why s (load_plan n s) (before (b ∷ rest) ys room list))
          (first (took_x b) (follow (cond c (go (loaded s b)) (stop NotADigit)) (spend (took_x b) (before (b ∷ rest) ys room list))))
      by_test b rest true e = tt
      by_test b rest false e = inr (other (λ n. omega (arith, n)), λ k. rw e)

      by_bytes : (l : List ℕ) → Halting (Why s (load_plan n s) (before l ys room list)) (follow (load_plan n s) (before l ys room list))
      by_bytes [] = inr (other (λ n. omega (arith, n)), λ k. refl)
      by_bytes (b ∷ rest) = by_test b rest (ltb b n) refl

-- of the step
pub step_why : (y : Setting) (s : State) (r : Supply) → Halting (Why s (plan y s) r) ((plain y).step s r)
step_why y s r = by_held s.held refl
  where
    by_choice : (h : ℕ) (o : Option ℕ) → held_count s.held ≡ 1 → Halting (Why s (held_plan y s h o) r) (follow (held_plan y s h o) r)
    by_choice h (some b) e = gives_stops s r.x r.y (given s) (given_matrix y.output s b) b e r.room r.list
    by_choice h none e = cancelled_stops s r.x r.y (absorbed s) (absorbed_matrix y.input s h) e r.room r.list

    by_held : (h : Held) → s.held ≡ h → Halting (Why s (plan_by y s h) r) (follow (plan_by y s h) r)
    by_held None e = loads_stop s r.x r.y y.input.count r.room r.list
    by_held (Some h) e = by_choice h (chosen y s h) (ap held_count e)
