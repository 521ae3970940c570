-- What the plan of a step does, as the functions of src/ meet it: each test comes out, and the plan is followed to its end.
use Rattle.whole.proofs.Laws.{◌≡◌, refl, sym, Bool, true, false, cond, List, ℕ, zero, suc, ◌-◌, ◌<◌, ◌≤◌, arith, ltb, length, drop, get_or, drop_of_length-le, within?}
use Rattle.runs.proofs.Laws.{goes, halts, stop, go, digit, divisor, took_x, follow}
use lib.Seq.{drop-cons}
use Rattle.states.proofs.Laws.{State, InputUsed, ListFull, NoRoom, NotADigit, RangeLeft, loaded}
use Rattle.steps.specs.Types.{Kind, Load, Give, Absorb, Move}
use Rattle.steps.specs.Step.{one_word, ranged, load_plan}
use Rattle.steps.specs.Made.{move, halt, Follows}

-- ---- lines 1 to 3

module _ (n : ℕ) (s : State) (input : List ℕ) (i room list : ℕ) where
  pub load_ends : length input ≤ i → Follows (load_plan n s) s (one_word (drop i input) room list) (halt InputUsed s)
  unfolding follow
  load_ends h = record { outcome = rw (drop_of_length-le input h); stays = refl }

  loads : (c : Bool) → ltb (get_or input i 0) n ≡ c → i < length input →
      follow (load_plan n s) (one_word (drop i input) room list) ≡ cond c (goes (loaded s (get_or input i 0)) (took_x (get_or input i 0))) (halts NotADigit)
  unfolding follow
  loads true e h = rw (drop-cons input i 0 h, e)
  loads false e h = rw (drop-cons input i 0 h, e)

  pub load_takes : i < length input → ltb (get_or input i 0) n ≡ true →
      Follows (load_plan n s) s (one_word (drop i input) room list) (move (Load (get_or input i 0)) (loaded s (get_or input i 0)))
  load_takes h e = record { outcome = sym (loads true e h); stays = tt }

  pub load_refuses : i < length input → ltb (get_or input i 0) n ≡ false → Follows (load_plan n s) s (one_word (drop i input) room list) (halt NotADigit s)
  load_refuses h e = record { outcome = sym (loads false e h); stays = refl }

-- ---- lines 4 and 5: a new state, if there is a place for the divisor of its step and it is in the range

-- what `in_range` answers
abbrev pub ranged_move : State → Kind → State → Move
ranged_move s k t = cond (within? 1000000000 t.matrix) (move k t) (halt RangeLeft s)

module _ (s t : State) (g : ℕ) (bytes : List ℕ) where
  absorbs_by : (room l : ℕ) (c : Bool) → Follows (divisor ListFull g (cond c (go t) (stop RangeLeft))) s (one_word bytes room (suc l)) (cond c (move (Absorb g) t) (halt RangeLeft s))
  unfolding follow
  absorbs_by room l true = record { outcome = refl; stays = tt }
  absorbs_by room l false = record { outcome = refl; stays = refl }

  pub absorbs : (room free : ℕ) → (free ≡ 0 → ⊥) → Follows (divisor ListFull g (ranged t)) s (one_word bytes room free) (ranged_move s (Absorb g) t)
  absorbs room zero f = absurd (f refl)
  absorbs room (suc l) f = absorbs_by room l (within? 1000000000 t.matrix)

  pub absorb_unlisted : (room free : ℕ) → free ≡ 0 → Follows (divisor ListFull g (ranged t)) s (one_word bytes room free) (halt ListFull s)
  unfolding follow
  absorb_unlisted room free e = record { outcome = rw e; stays = refl }

  gives_by : (b n l : ℕ) (c : Bool) →
      Follows (digit NoRoom b (divisor ListFull g (cond c (go t) (stop RangeLeft)))) s (one_word bytes (suc n) (suc l)) (cond c (move (Give b g) t) (halt RangeLeft s))
  unfolding follow
  gives_by b n l true = let free : suc l - 0 ≡ suc l = omega arith in record { outcome = rw free; stays = tt }
  gives_by b n l false = let free : suc l - 0 ≡ suc l = omega arith in record { outcome = rw free; stays = refl }

  pub gives : (b room free : ℕ) → (room ≡ 0 → ⊥) → (free ≡ 0 → ⊥) → Follows (digit NoRoom b (divisor ListFull g (ranged t))) s (one_word bytes room free) (ranged_move s (Give b g) t)
  gives b zero free f h = absurd (f refl)
  gives b (suc n) zero f h = absurd (h refl)
  gives b (suc n) (suc l) f h = gives_by b n l (within? 1000000000 t.matrix)

  pub no_room : (b room free : ℕ) → room ≡ 0 → Follows (digit NoRoom b (divisor ListFull g (ranged t))) s (one_word bytes room free) (halt NoRoom s)
  unfolding follow
  no_room b room free e = record { outcome = rw e; stays = refl }

  pub give_unlisted : (b room free : ℕ) → (room ≡ 0 → ⊥) → free ≡ 0 → Follows (digit NoRoom b (divisor ListFull g (ranged t))) s (one_word bytes room free) (halt ListFull s)
  unfolding follow
  give_unlisted b zero free f e = absurd (f refl)
  give_unlisted b (suc n) free f e = let none : free - 0 ≡ 0 = omega arith in record { outcome = rw none; stays = refl }
