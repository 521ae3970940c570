-- What is left of a session, saved as a job, goes on as the session would: an opened job takes the held digit first, and then stands where the session stood.
use Rattle.whole.proofs.Laws.{◌≡◌, sym, ap, ◌∙◌, List, ◌∷◌, ◌++◌, ℕ, ◌-◌, ◌<◌, add-one, add-zero, arith, lt-ltb, length, ℤ, Within, written}
use Rattle.plane.proofs.Laws.{cancel_kept}
use Rattle.digits.proofs.Laws.{System}
use Rattle.states.proofs.Laws.{Held, None, Some, State, opened, loaded, StateRules}
use Rattle.opening.proofs.Laws.{Opens, open_of, opens, hands_out}
use Rattle.runs.proofs.Laws.{Course, run, runs, only, took_x, goes, follow}
use Rattle.runs.specs.Run.{behind, makes}
use Rattle.states.specs.Types.{Stop}
use Rattle.steps.proofs.Laws.{Setting, setting, plain, one_word, lawful}
use Rattle.judging.proofs.Laws.{refusal_of, accepted}
use Rattle.judging.specs.Refusal.{Accepted}
use Rattle.unary.proofs.Laws.{ran, run_of, steps_of, run_accepted}
use Rattle.unary.specs.Run.{answered, leaves}
use Rattle.round_trips.specs.GoesOn.{held_bytes, took_more, GoesOn}

-- the matrix is cancelled already
opens_so : (s : State) {n : ℕ} → StateRules n s → length s.matrix ≡ 4 → Within 1000 s.matrix → open_of s.matrix ≡ record { opening = Opens; state = opened s.matrix }
opens_so s h four w =
    hands_out s.matrix Opens ((opens s.matrix Opens).1 (w, h.above)) ∙ ap (λ (m : List ℤ). record { opening = Opens; state = opened m }) (sym (cancel_kept s.matrix four h.cancelled))

-- ---- the held digit is loaded again

module _ (y : Setting) (m : List ℤ) (h : ℕ) (digit : h < y.input.count) (word : List ℕ) (room list : ℕ) where
  loads : (plain y).step (opened m) (one_word (h ∷ word) room list) ≡ goes (loaded (opened m) h) (took_x h)
  unfolding follow
  loads = rw (lt-ltb h y.input.count digit)

  loaded_first : run (plain y) (opened m) (one_word (h ∷ word) room list) ≡ behind (took_x h) 1 (run (plain y) (loaded (opened m) h) (one_word word room list))
  loaded_first =
      let free : room - 0 ≡ room = omega arith in
      let left : list - 0 ≡ list = omega arith in
      only (lawful y) (makes (loaded (opened m) h) (took_x h) loads (runs (lawful y) _ _)) ∙
      (λ i. behind (took_x h) 1 (run (plain y) (loaded (opened m) h) (one_word word (free i) (left i))))

module _ (a b : System) (m : List ℤ) where
  -- the opened state keeps the rules too, and so neither run is refused
  not_held : {h : Held} → Accepted (setting a b) (record { matrix = m; held = h }) → refusal_of (setting a b) (opened m) ≡ 0
  not_held k = (accepted (setting a b) (opened m)).1 (record {
    input = k.input;
    output = k.output;
    state = record { cancelled = k.state.cancelled; above = k.state.above; in_range = k.state.in_range; held_digit = tt };
  })

  goes_on : (h : Held) → Accepted (setting a b) (record { matrix = m; held = h }) → (word output divisors : List ℕ) →
      run_of a b (opened m) (held_bytes h ++ word) output divisors ≡ took_more (length (held_bytes h)) (run_of a b (record { matrix = m; held = h }) word output divisors)
  unfolding steps_of
  goes_on None k word output divisors = let r = run_of a b (opened m) word output divisors in
      λ i. ran (answered r.answer.stop (sym (add-zero r.answer.taken.0) i) r.answer.written.0 r.answer.listed.0 r.answer.state) r.output r.divisors
  goes_on (Some h) k word output divisors =
      let y = setting a b in
      let s = loaded (opened m) h in
      let q = run (plain y) s (one_word word (length output) (length divisors)) in
      run_accepted a b (opened m) (h ∷ word) output divisors (not_held k) ∙
      ap (λ (q : Course State Stop). leaves q output divisors) (loaded_first y m h k.state.held_digit word (length output) (length divisors)) ∙
      (λ i. ran (answered q.stop (sym (add-one (length q.did.x)) i) (length q.did.digits) (length q.did.divisors) q.state) (written q.did.digits output) (written q.did.divisors divisors)) ∙
      ap (took_more 1) (sym (run_accepted a b s word output divisors ((accepted y s).1 k)))

pub saved_goes_on : (a b : System) (s : State) → Accepted (setting a b) s → length s.matrix ≡ 4 → Within 1000 s.matrix → GoesOn a b s
saved_goes_on a b s k four w = record { opens = opens_so s k.state four w; runs = goes_on a b s.matrix s.held k }
