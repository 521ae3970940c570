-- What the plan of a step does, as the functions of src/ meet it: each test comes out, and the plan is followed to its end.
use Rattle.whole.proofs.Laws.{◌≡◌, refl, sym, ◌∙◌, Bool, true, false, true≢false, false≢true, cond, List, [], ◌∷◌, Option, none, some, ℕ, zero, suc, ◌-◌, arith, ltb}
use Rattle.whole.proofs.Laws.{le-leb}
use borrow.Author.Tests.{leb-true}
use Rattle.bilinear.proofs.Laws.{cancel_form, within_form?}
use Rattle.runs.proofs.Laws.{Supply, Deed, nothing, and_then, spend, Outcome, goes, stop, go, digit, took_x, took_y, first, with_byte, follow}
use Rattle.states.proofs.Laws.{Stop, InputUsed, NoRoom, NotADigit, RangeLeft}
use Rattle.steps.proofs.Laws.{Setting}
use Rattle.two_states.proofs.Laws.{Turn, OfX, OfY, TwoState, loaded_by, absorbed_by}
use Rattle.two_steps.specs.Types.{Result, Ok, Err, Kind, Load, Give, Absorb, Move}
use Rattle.two_steps.specs.TwoStep.{two_words, ranged, load_by, absorb, both_held}
use Rattle.two_steps.specs.Made.{next_of, word_of, move, halt, outcome_by, StaysBy, Follows, absorbed_product, product_by, finished_by, no_room?}

-- ---- a missing digit: the move by the word's next byte

abbrev pub load_move : Turn → TwoState → Result ℕ Stop → Move
load_move word s (Ok b) = move (Load word b) (loaded_by word s b)
load_move word s (Err e) = halt e s

-- one word, whichever it is: of what is taken of it
module _ (word : Turn) (took : ℕ → Deed) (s : TwoState) (takes : (b : ℕ) (t : TwoState) → outcome_by (Load word b) t ≡ goes t (and_then (took b) nothing))
    (count : ℕ) (rest : ℕ → Supply) where
  abbrev answer : List ℕ → Move
  answer bytes = load_move word s (next_of count bytes)

  abbrev as_planned : ℕ → Outcome TwoState Stop
  as_planned b = first (took b) (follow (cond (ltb b count) (go (loaded_by word s b)) (stop NotADigit)) (rest b))

  by_byte : (bytes : List ℕ) → let m = answer bytes in (outcome_by m.kind m.state ≡ with_byte InputUsed bytes as_planned) × StaysBy s m.kind m.state
  unfolding follow
  by_byte [] = (refl, refl)
  by_byte (b ∷ bytes) = by (ltb b count)
    where
      by : (c : Bool) → let m = load_move word s (cond c (Ok b) (Err NotADigit)) in
          (outcome_by m.kind m.state ≡ first (took b) (follow (cond c (go (loaded_by word s b)) (stop NotADigit)) (rest b))) × StaysBy s m.kind m.state
      by true = (takes b (loaded_by word s b), tt)
      by false = (refl, refl)

module _ (count : ℕ) (s : TwoState) (xs ys : List ℕ) (room : ℕ) where
  pub loads : (word : Turn) (next : Result ℕ Stop) → next ≡ next_of count (word_of word xs ys) → Follows (load_by word count s) s (two_words xs ys room) (load_move word s next)
  unfolding follow
  loads OfX next e =
      let p = by_byte OfX took_x s (λ b t. refl) count (λ b. spend (took_x b) (two_words xs ys room)) xs in
      rw e (record { outcome = p.0; stays = p.1 })
  loads OfY next e =
      let p = by_byte OfY took_y s (λ b t. refl) count (λ b. spend (took_y b) (two_words xs ys room)) ys in
      rw e (record { outcome = p.0; stays = p.1 })

-- ---- where both digits are held: cancelled numbers, if they are in the range

module _ (s t : TwoState) (xs ys : List ℕ) where
  abbrev ranged_move : Kind → Move
  ranged_move k = cond (within_form? 1000000000 t.form) (move k t) (halt RangeLeft s)

  -- absorbing, by either word
  absorbs : (room : ℕ) → Follows (ranged t) s (two_words xs ys room) (ranged_move Absorb)
  unfolding follow
  absorbs room = by (within_form? 1000000000 t.form)
    where
      by : (c : Bool) → Follows (cond c (go t) (stop RangeLeft)) s (two_words xs ys room) (cond c (move Absorb t) (halt RangeLeft s))
      by true = record { outcome = refl; stays = tt }
      by false = record { outcome = refl; stays = refl }

  -- giving, with room
  gives : (c room : ℕ) → (room ≡ 0 → ⊥) → Follows (digit NoRoom c (ranged t)) s (two_words xs ys room) (ranged_move (Give c))
  unfolding follow
  gives c zero f = absurd (f refl)
  gives c (suc room) f = by (within_form? 1000000000 t.form)
    where
      by : (w : Bool) → Follows (digit NoRoom c (cond w (go t) (stop RangeLeft))) s (two_words xs ys (suc room)) (cond w (move (Give c) t) (halt RangeLeft s))
      by true = record { outcome = refl; stays = tt }
      by false = record { outcome = refl; stays = refl }

-- the held digits are known, and the one that was found is
module _ (y : Setting) (s : TwoState) (a b : ℕ) (xs ys : List ℕ) (o room : ℕ) where
  abbrev Told : Option ℕ → Move → Type 0
  Told fit = Follows (both_held y s a b fit) s (two_words xs ys (room - o))

  pub stops_full : (fit : Option ℕ) → no_room? fit o room ≡ true → Told fit (halt NoRoom s)
  unfolding follow
  stops_full none e = absurd (false≢true e)
  stops_full (some c) e = let none_left : room - o ≡ 0 = omega (arith, leb-true room o e) in record { outcome = rw none_left; stays = refl }

  -- by whose turn it is
  abbrev absorbing : Turn → Move
  absorbing w = let new = cancel_form (absorbed_product y.input s a b w).form in cond (within_form? 1000000000 new) (move Absorb (absorbed_by s new w)) (halt RangeLeft s)

  by_turn : (w : Turn) → Follows (absorb y.input s a b w) s (two_words xs ys (room - o)) (absorbing w)
  by_turn OfX = absorbs s _ xs ys (room - o)
  by_turn OfY = absorbs s _ xs ys (room - o)

  pub finishes : (fit : Option ℕ) → no_room? fit o room ≡ false → Told fit (finished_by s (product_by y s a b fit) fit)
  finishes none e = by_turn s.turn
  finishes (some c) e = gives s _ xs ys c (room - o) (λ z. true≢false (sym (le-leb room o (omega (arith, z))) ∙ e))
