-- "One step, first line that applies": the step does v exactly if one of document 01's five lines says so. Each line, where it applies, is what the step computes
-- (`line_only`); and some line always applies: a digit is held or none, a byte is there or none, it is a digit or none, some U_b includes X·W_held or none
-- does, there is room or none, there is a place in the list or none, an entry leaves the range or none.
use Rattle.whole.proofs.Laws.{◌≡◌, refl, sym, subst, List, [], ◌∷◌, inl, inr, ◌↔◌, Option, none, some, ℕ, suc, ◌-◌, ◌<◌, dec_lt, eq-zero-or-pos, arith, le-ltb, lt-ltb, says_within}
use Rattle.runs.proofs.Laws.{Supply, Outcome, follow}
use Rattle.states.proofs.Laws.{Held, None, Some, State, Stop, HeldDigit}
use Rattle.steps.proofs.Laws.{Setting, chosen, plain}
use Rattle.exactly_when.specs.Lines.{Choice, given_x, absorbed_x, Line, no_input, no_digit, takes, no_room, giving_unlisted, giving_leaves, gives, absorbing_unlisted, absorbing_leaves, absorbs}
use Rattle.exactly_when.specs.Ends.{Passes}
use Rattle.exactly_when.proofs.Chosen.{chosen_exactly}
use Rattle.exactly_when.proofs.Leaving.{leaves_or_within, leaves_exactly}

module _ (y : Setting) (s : State) (r : Supply) (p : Passes y s) where
  choice_is : (h : ℕ) → s.held ≡ Some h → (o : Option ℕ) → (chosen y s h ≡ o) ↔ Choice y s h o
  choice_is h e = chosen_exactly y p.input.digits p.output.digits s (record { above = p.state.above }) h (subst (HeldDigit y.input.count) e p.state.held_digit)

  place_is : {n : ℕ} → 0 < n → n ≡ suc (n - 1)
  place_is k = omega arith

  -- the list, behind a digit that is written
  list_is : {n : ℕ} → 0 < n → n - 0 ≡ suc (n - 1)
  list_is k = omega arith

  line_only : {v : Outcome State Stop} → Line y s r v → (plain y).step s r ≡ v
  unfolding follow
  line_only (no_input e f) = rw (e, f)
  line_only (no_digit e b rest f k) = rw (e, f, le-ltb b y.input.count (omega arith))
  line_only (takes e b rest f k) = rw (e, f, lt-ltb b y.input.count (omega arith))
  line_only (no_room h e b m f) = rw (e, (choice_is h e (some b)).1 m, f)
  line_only (giving_unlisted h e b m k f) = let none : r.list - 0 ≡ 0 = omega arith in rw (e, (choice_is h e (some b)).1 m, place_is {n = r.room} (omega arith), none)
  line_only (giving_leaves h e b m k p l) =
      rw (e, (choice_is h e (some b)).1 m, place_is {n = r.room} (omega arith), list_is {n = r.list} (omega arith), (leaves_exactly (given_x y s b)).1 l)
  line_only (gives h e b m k p w) = rw (e, (choice_is h e (some b)).1 m, place_is {n = r.room} (omega arith), list_is {n = r.list} (omega arith), says_within w)
  line_only (absorbing_unlisted h e n f) = rw (e, (choice_is h e none).1 n, f)
  line_only (absorbing_leaves h e n p l) = rw (e, (choice_is h e none).1 n, place_is {n = r.list} (omega arith), (leaves_exactly (absorbed_x y s h)).1 l)
  line_only (absorbs h e n p w) = rw (e, (choice_is h e none).1 n, place_is {n = r.list} (omega arith), says_within w)

  abbrev Applies : Type 0
  Applies = (v : Outcome State Stop) × Line y s r v

  by_byte : s.held ≡ None → (l : List ℕ) → r.x ≡ l → Applies
  by_byte e [] f = (_, no_input e f)
  by_byte e (b ∷ rest) f = elim (dec_lt b y.input.count) [ yes k ↦ (_, takes e b rest f k) | no k ↦ (_, no_digit e b rest f (omega arith)) ]

  by_choice : (h : ℕ) → s.held ≡ Some h → (o : Option ℕ) → chosen y s h ≡ o → Applies
  by_choice h e none c =
      let n = (choice_is h e none).0 c in
      elim (eq-zero-or-pos r.list) [
        | inl z ↦ (_, absorbing_unlisted h e n z)
        | inr p ↦ elim (leaves_or_within (absorbed_x y s h)) [ inl l ↦ (_, absorbing_leaves h e n p l) | inr w ↦ (_, absorbs h e n p w) ]
      ]
  by_choice h e (some b) c =
      let m = (choice_is h e (some b)).0 c in
      elim (eq-zero-or-pos r.room) [
        | inl z ↦ (_, no_room h e b m z)
        | inr k ↦ elim (eq-zero-or-pos r.list) [
          | inl z ↦ (_, giving_unlisted h e b m k z)
          | inr p ↦ elim (leaves_or_within (given_x y s b)) [ inl l ↦ (_, giving_leaves h e b m k p l) | inr w ↦ (_, gives h e b m k p w) ]
        ]
      ]

  by_held : (k : Held) → s.held ≡ k → Applies
  by_held None e = by_byte e r.x refl
  by_held (Some h) e = by_choice h e (chosen y s h) refl

  pub step_says : Line y s r ((plain y).step s r)
  step_says = let c = by_held s.held refl in subst (Line y s r) (sym (line_only c.1)) c.1

  pub step_exactly : (v : Outcome State Stop) → ((plain y).step s r ≡ v) ↔ Line y s r v
  step_exactly v = (λ e. subst (Line y s r) e step_says, line_only)
