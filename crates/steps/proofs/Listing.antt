-- What a step lists: nothing where it takes a byte in, and one number where it gives a digit out or absorbs one, which it does only where a digit is held. So how many numbers a
-- run has listed is known from its other counts and from what is held (`step_lists`). And a step that takes a byte in does not look at the list (`any_list`).
use Rattle.whole.proofs.Laws.{◌≡◌, refl, ap, subst, ◌∙◌, Bool, true, false, cond, List, [], ◌∷◌, Option, none, some, ℕ, ◌+◌, ◌≤◌, arith, ltb, length}
use Rattle.runs.proofs.Laws.{Supply, Deed, nothing, Going, Each, go, stop, took_x, gave, first, follow, spend, follow_each, each_test}
use Rattle.states.proofs.Laws.{Held, None, Some, State, NotADigit, loaded, given, absorbed, held_count}
use Rattle.steps.specs.Types.{Move}
use Rattle.steps.specs.Step.{Setting, load_plan, chosen, given_matrix, absorbed_matrix, held_plan, plan_by, plan, plain, one_word}
use Rattle.steps.specs.Made.{Follows}
use Rattle.steps.proofs.Cancelled.{each_cancelled}

-- a step from s to t that did d
pub record Lists (s t : State) (d : Deed) : Type 0 where
  pub holding : length d.divisors ≤ held_count s.held
  pub counted : length d.divisors + held_count t.held ≡ length d.x + length d.digits + held_count s.held

module _ (y : Setting) (s : State) where
  held_lists : (h : ℕ) → s.held ≡ Some h → (o : Option ℕ) → Each (Lists s) nothing (held_plan y s h o)
  unfolding Each
  held_lists h e (some b) = each_cancelled (given s) (given_matrix y.output s b) (Lists s) (gave b) (λ w. record { holding = omega (arith, ap held_count e); counted = omega arith })
  held_lists h e none = each_cancelled (absorbed s) (absorbed_matrix y.input s h) (Lists s) nothing
      (λ w. record { holding = omega (arith, ap held_count e); counted = omega (arith, ap held_count e) })

  plan_lists : (h : Held) → s.held ≡ h → Each (Lists s) nothing (plan_by y s h)
  unfolding Each
  plan_lists None e = λ b. each_test (Lists s) (took_x b) (ltb b y.input.count) (loaded s b) NotADigit (λ w. record { holding = omega arith; counted = omega (arith, ap held_count e) })
  plan_lists (Some h) e = held_lists h e (chosen y s h)

  pub step_lists : (r : Supply) → Going (Lists s) ((plain y).step s r)
  step_lists r = follow_each (Lists s) (plan y s) (plan_lists s.held refl) r

-- ---- lines 1 to 3 before another list

loads_same : (n : ℕ) (s : State) (bytes : List ℕ) (room l k : ℕ) → follow (load_plan n s) (one_word bytes room l) ≡ follow (load_plan n s) (one_word bytes room k)
unfolding follow
loads_same n s [] room l k = refl
loads_same n s (b ∷ rest) room l k = by (ltb b n)
  where
    by : (c : Bool) → first (took_x b) (follow (cond c (go (loaded s b)) (stop NotADigit)) (spend (took_x b) (one_word (b ∷ rest) room l))) ≡
        first (took_x b) (follow (cond c (go (loaded s b)) (stop NotADigit)) (spend (took_x b) (one_word (b ∷ rest) room k)))
    by true = refl
    by false = refl

-- so what a step does is known where the free places are told right while a digit is held
pub any_list : (y : Setting) (s : State) (bytes : List ℕ) (room l k : ℕ) {m : Move} → (held_count s.held ≡ 1 → l ≡ k) →
    Follows (plan y s) s (one_word bytes room l) m → Follows (plan y s) s (one_word bytes room k) m
any_list y s bytes room l k {m} told = by s.held refl
  where
    by : (h : Held) → s.held ≡ h → Follows (plan_by y s h) s (one_word bytes room l) m → Follows (plan_by y s h) s (one_word bytes room k) m
    by None e f = record { outcome = f.outcome ∙ loads_same y.input.count s bytes room l k; stays = f.stays }
    by (Some h) e f = subst (λ (n : ℕ). Follows (plan_by y s (Some h)) s (one_word bytes room n) m) (told (ap held_count e)) f
