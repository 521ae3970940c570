-- A turn of the loop is a step of the run, in the loop's variables: i bytes taken, o digits written. How many divisors are listed the loop does not keep: it follows from these two
-- and from what is held, now and at the start (`Stands`). One law for each kind of step.
use Rattle.whole.proofs.Laws.{◌≡◌, refl, sym, ap, subst, ◌∙◌, List, [], ◌∷◌, ℕ, ◌+◌, ◌-◌, ◌≤◌, ◌<◌, arith, length, drop, set, length-drop, length-take-le}
use Rattle.runs.proofs.Laws.{Supply, Deed, nothing, and_then, Pays, written, goes, Going, took_x, gave_by, listed, within, does, Lent, took_none, took_front, wrote_none, wrote_one, here_first}
use Rattle.states.proofs.Laws.{State, Stop, StateRules, held_count, one_held}
use Rattle.steps.proofs.Laws.{Kind, Load, Give, Absorb, Halt, Move, Setting, plan, plain, one_word, outcome_by, StaysBy, Follows, Ready, lawful, Lists, step_lists, any_list, Kept, step_keeps}
use Rattle.runs.proofs.Laws as loop
use Rattle.unary.specs.Run.{answered, ran, steps_of}

-- ---- the loop: one word, a list for digits, a list for divisors

abbrev pub lent_to : List ℕ → List ℕ → List ℕ → Lent
lent_to input output divisors = record { x = input; y = []; out = output; list = divisors }

abbrev Here : Setting → State → Lent → List ℕ → List ℕ → State → ℕ → ℕ → ℕ → Type 0
Here y s₀ l out list s i o p = loop.Here (plain y) s₀ l out list s i 0 o p

-- p divisors are listed, one for each digit written and each absorbed
pub record Stands (y : Setting) (s₀ : State) (l : Lent) (out list : List ℕ) (s : State) (i o : ℕ) : Type 0 where
  pub p : ℕ
  pub counted : p + held_count s.held ≡ i + o + held_count s₀.held
  pub here : Here y s₀ l out list s i o p

pub stands_first : (y : Setting) (s₀ : State) (l : Lent) → Stands y s₀ l l.out l.list s₀ 0 0
stands_first y s₀ l = record { p = 0; counted = omega arith; here = here_first (plain y) s₀ l }

abbrev pub steps_left : Setting → Lent → State → ℕ → ℕ → ℕ
steps_left y l s i o = loop.steps_left (plain y) l s i 0 o

-- behind a step the loop stands at another place, with fewer steps left
pub record Onward (y : Setting) (s₀ : State) (l : Lent) (s : State) (i o : ℕ) (out list : List ℕ) (t : State) (i' o' : ℕ) : Type 0 where
  pub falls : steps_left y l t i' o' < steps_left y l s i o
  pub stands : Stands y s₀ l out list t i' o'

-- k is 1 if nothing was held at the start, and else 0: so the place of the next divisor is i + o - k
pub record Turn (y : Setting) (s₀ : State) (l : Lent) (k : ℕ) (out list : List ℕ) (s : State) (i o : ℕ) (m : Move) : Type 0 where
  pub load : (b : ℕ) → m.kind ≡ Load b → (i < length l.x) × Onward y s₀ l s i o out list m.state (i + 1) o
  pub give : (b g : ℕ) → m.kind ≡ Give b g →
      (o < length out) × (k ≤ i + o) × (i + o - k < length list) × Onward y s₀ l s i o (set out o b) (set list (i + o - k) g) m.state i (o + 1)
  pub absorb : (g : ℕ) → m.kind ≡ Absorb g → (k ≤ i + o) × (i + o - k < length list) × Onward y s₀ l s i o out (set list (i + o - k) g) m.state i o
  pub halt : (e : Stop) → m.kind ≡ Halt e →
      (k ≤ i + o + 1 - held_count m.state.held) ×
      (ran (answered e i o (i + o + 1 - held_count m.state.held - k) m.state) out list ≡ steps_of y s₀ l.x l.out l.list)

module _ (y : Setting) (s₀ : State) (input out₀ list₀ : List ℕ) (k : ℕ) (out list : List ℕ) (s : State) (i o : ℕ) (m : Move) (first : k + held_count s₀.held ≡ 1)
    (stands : Stands y s₀ (lent_to input out₀ list₀) out list s i o) (told : Follows (plan y s) s (one_word (drop i input) (length out - o) (length list + k - (i + o))) m) where
  abbrev l : Lent
  l = lent_to input out₀ list₀

  abbrev p : ℕ
  p = stands.p

  abbrev here : Here y s₀ l out list s i o p
  here = stands.here

  abbrev before : Supply
  before = loop.ahead l i 0 o p

  -- the free places of the list are told right while a digit is held
  made : Follows (plan y s) s (one_word (drop i input) (length out - o) (length list - p)) m
  made = any_list y s (drop i input) (length out - o) (length list + k - (i + o)) (length list - p) (λ h. omega (arith, h, first, stands.counted)) told

  -- the step that is made here
  made_here : (j : Kind) → m.kind ≡ j → (plain y).step s before ≡ outcome_by j m.state
  made_here j e = rw (← here.out_length, ← here.list_length) (sym made.outcome ∙ ap (λ (j : Kind). outcome_by j m.state) e)

  -- what it does can be done
  pays : (j : Kind) (d : Deed) → m.kind ≡ j → outcome_by j m.state ≡ goes m.state d → Pays d before
  pays j d e f = (does (lawful y) s m.state before d (made_here j e ∙ f)).pays

  -- and what it lists
  lists : (j : Kind) (d : Deed) → m.kind ≡ j → outcome_by j m.state ≡ goes m.state d → Lists s m.state d
  lists j d e f = subst (Going (Lists s)) (made_here j e ∙ f) (step_lists y s before)

  on_load : (b : ℕ) → m.kind ≡ Load b → (i < length input) × Onward y s₀ l s i o out list m.state (i + 1) o
  on_load b e =
      let c = pays (Load b) (took_x b) e refl in
      let g = loop.goes_to (plain y) s₀ l (lawful y) here m.state (took_x b) (made_here (Load b) e)
      (took_front input i (b ∷ []) c.x) (took_none [] 0) (wrote_none out o) (wrote_none list p) in
      let count = (lists (Load b) (took_x b) e refl).counted in (
        omega (arith, (within c).0, length-drop i input),
        record { falls = g.0; stands = record { p = p; counted = omega (arith, count, stands.counted); here = g.1 } },
      )

  -- where a digit is held, p is i + o - k
  place : 1 ≤ held_count s.held → (k ≤ i + o) × (p ≡ i + o - k)
  place h = (omega (arith, h, one_held s.held, first, stands.counted), omega (arith, h, one_held s.held, first, stands.counted))

  on_give : (b g : ℕ) → m.kind ≡ Give b g →
      (o < length out) × (k ≤ i + o) × (i + o - k < length list) × Onward y s₀ l s i o (set out o b) (set list (i + o - k) g) m.state i (o + 1)
  on_give b g e =
      let c = pays (Give b g) (gave_by b g) e refl in
      let n = lists (Give b g) (gave_by b g) e refl in
      let at = place n.holding in
      let room : o < length out = omega (arith, c.room, here.out_length) in
      let free : p < length list = omega (arith, c.list, here.list_length) in
      let g = loop.goes_to (plain y) s₀ l (lawful y) here m.state (gave_by b g) (made_here (Give b g) e)
      (took_none input i) (took_none [] 0) (wrote_one out o b room) (wrote_one list p g free) in
      (room, at.0, omega (arith, free, at.1), rw (← at.1) (record { falls = g.0; stands = record { p = p + 1; counted = omega (arith, n.counted, stands.counted); here = g.1 } }))

  on_absorb : (g : ℕ) → m.kind ≡ Absorb g → (k ≤ i + o) × (i + o - k < length list) × Onward y s₀ l s i o out (set list (i + o - k) g) m.state i o
  on_absorb g e =
      let c = pays (Absorb g) (listed g) e refl in
      let n = lists (Absorb g) (listed g) e refl in
      let at = place n.holding in
      let free : p < length list = omega (arith, c.list, here.list_length) in
      let g = loop.goes_to (plain y) s₀ l (lawful y) here m.state (listed g) (made_here (Absorb g) e)
      (took_none input i) (took_none [] 0) (wrote_none out o) (wrote_one list p g free) in
      (at.0, omega (arith, free, at.1), rw (← at.1) (record { falls = g.0; stands = record { p = p + 1; counted = omega (arith, n.counted, stands.counted); here = g.1 } }))

  on_halt : (e : Stop) → m.kind ≡ Halt e →
      (k ≤ i + o + 1 - held_count m.state.held) ×
      (ran (answered e i o (i + o + 1 - held_count m.state.held - k) m.state) out list ≡ steps_of y s₀ input out₀ list₀)
  unfolding steps_of
  on_halt e j =
      let q = loop.ends_with (plain y) s₀ l (lawful y) here e (made_here (Halt e) j) in
      let stays : m.state ≡ s = subst (λ (j : Kind). StaysBy s j m.state) j made.stays in
      let held = ap (λ (t : State). held_count t.held) stays in
      let count : p ≡ i + o + 1 - held_count m.state.held - k = omega (arith, held, one_held s.held, first, stands.counted) in (
        omega (arith, held, one_held s.held, first, stands.counted),
        sym (λ n. ran (answered
            (q.stop n)
            ((ap (λ (d : Deed). length d.x) q.did ∙ length-take-le i input here.x) n)
            ((ap (λ (d : Deed). length d.digits) q.did ∙ length-take-le o out (omega (arith, here.room, here.out_length))) n)
            ((ap (λ (d : Deed). length d.divisors) q.did ∙ length-take-le p list (omega (arith, here.list_room, here.list_length)) ∙ count) n)
            ((q.state ∙ sym stays) n))
            ((ap (λ (d : Deed). written d.digits out₀) q.did ∙ q.out_is) n)
            ((ap (λ (d : Deed). written d.divisors list₀) q.did ∙ q.list_is) n)),
      )

  turn_here : Turn y s₀ l k out list s i o m
  turn_here = record { load = on_load; give = on_give; absorb = on_absorb; halt = on_halt }

pub turn : {y : Setting} {s₀ : State} {input out₀ list₀ : List ℕ} {k : ℕ} {out list : List ℕ} {s : State} {i o : ℕ} {m : Move} → k + held_count s₀.held ≡ 1 →
    Stands y s₀ (lent_to input out₀ list₀) out list s i o → Follows (plan y s) s (one_word (drop i input) (length out - o) (length list + k - (i + o))) m →
    Turn y s₀ (lent_to input out₀ list₀) k out list s i o m
turn {y} {s₀} {input} {out₀} {list₀} {k} {out} {list} {s} {i} {o} {m} = turn_here y s₀ input out₀ list₀ k out list s i o m

-- ---- what the steps rely on is kept

rules_kept : (y : Setting) (s : State) → StateRules y.input.count s → (k : Kind) (t : State) → Going (λ t d. Kept y (and_then nothing d) t) (outcome_by k t) → StaysBy s k t →
    StateRules y.input.count t
rules_kept y s r (Load b) t g h = g.state
rules_kept y s r (Give b d) t g h = g.state
rules_kept y s r (Absorb d) t g h = g.state
rules_kept y s r (Halt e) t g h = subst (StateRules y.input.count) (sym h) r

pub ready_kept : {y : Setting} {s : State} (m : Move) (supply : Supply) → Ready y s → Follows (plan y s) s supply m → Ready y m.state
ready_kept {y} {s} m supply r made = record {
  input = r.input;
  output = r.output;
  state = rules_kept y s r.state m.kind m.state
      (subst (Going (λ t d. Kept y (and_then nothing d) t)) (sym made.outcome)
      (step_keeps y r.input.digits r.output.digits nothing s supply (record { digits = tt; divisors = tt; state = r.state }))) made.stays;
}
