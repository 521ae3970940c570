-- "Some U_b includes X·W_held: let b be the smallest", and "No U_b does": the digit that the step chooses is the smallest whose interval includes X·W_held, in the sense of
-- the sentence "every point inside I is inside J", and none is chosen exactly if none does.
-- The argument: the choice is the first number that passes the test of inclusion (`fitting_exactly`, crates/fitting). X·W_held and U_b are intervals, since det X > 0 and the digits are digits; so the test
-- says the sentence (crates/inclusion).
use Rattle.whole.proofs.Laws.{◌≡◌, sym, ◌∙◌, Bool, true, false, true≢false, List, ◌↔◌, Option, none, some, ℕ, ◌<◌, arith, ℤ, false_by}
use Rattle.plane.proofs.Laws.{DetAbove, Interval, image_of, interval_moves}
use Rattle.inclusion.proofs.Laws.{included_says, says_included}
use Rattle.digits.proofs.Laws.{interval}
use Rattle.admission.proofs.Laws.{Digits}
use Rattle.fitting.proofs.Laws.{fits?, fitting_exactly}
use Rattle.states.proofs.Laws.{State}
use Rattle.steps.proofs.Laws.{Setting, chosen}
use Rattle.meaning.specs.Moments.{Fits}
use Rattle.exactly_when.specs.Lines.{Choice}

module _ (y : Setting) (inputs : Digits y.input) (outputs : Digits y.output) (s : State) (above : DetAbove s.matrix) (h : ℕ) (held : h < y.input.count) where
  -- X·W_held
  abbrev moved : List ℤ
  moved = image_of s.matrix (interval y.input h)

  abbrev passes? : ℕ → Bool
  passes? = fits? y.output moved

  is_interval : Interval moved
  is_interval = interval_moves above (inputs h held).interval

  passes_fits : (b : ℕ) → b < y.output.count → passes? b ≡ true → Fits y s h b
  passes_fits b k e = record { digit = k; includes = included_says is_interval (outputs b k).interval e }

  fits_passes : (b : ℕ) → Fits y s h b → passes? b ≡ true
  fits_passes b f = says_included is_interval (outputs b f.digit).interval f.includes

  fails_misfits : (b : ℕ) → passes? b ≡ false → Fits y s h b → ⊥
  fails_misfits b e f = true≢false (sym (fits_passes b f) ∙ e)

  misfits_fails : (b : ℕ) → b < y.output.count → (Fits y s h b → ⊥) → passes? b ≡ false
  misfits_fails b k n = false_by (passes? b) (λ e. n (passes_fits b k e))

  pub chosen_exactly : (o : Option ℕ) → (chosen y s h ≡ o) ↔ Choice y s h o
  chosen_exactly (some b) =
      let exactly = fitting_exactly y.output moved (some b) in (
        λ e. let f = exactly.0 e in record { fits = passes_fits b f.0 f.1; smallest = λ c k. fails_misfits c (f.2 c (omega arith)) },
        λ m. exactly.1 (m.fits.digit, fits_passes b m.fits, λ c k. misfits_fails c (omega (arith, m.fits.digit)) (m.smallest c (omega arith))),
      )
  chosen_exactly none =
      let exactly = fitting_exactly y.output moved none in
      (λ e b f. fails_misfits b (exactly.0 e b f.digit) f, λ n. exactly.1 (λ b k. misfits_fails b k (n b)))
