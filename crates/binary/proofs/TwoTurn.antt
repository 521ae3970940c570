-- A turn of the loop is a step of the run, in the loop's variables: i and j bytes of the two words taken, o digits written. One law for each kind of step.
use Rattle.whole.proofs.Laws.{◌≡◌, refl, sym, ap, subst, ◌∙◌, List, [], ◌∷◌, ℕ, ◌+◌, ◌-◌, ◌<◌, arith, length, drop, set, length-drop, length-take-le}
use Rattle.runs.proofs.Laws.{Supply, Deed, nothing, and_then, Pays, written, goes, Going, took_x, took_y, gave, within, does, Lent, Took, took_none, took_front, Wrote, wrote_none, wrote_one, here_first}
use Rattle.states.proofs.Laws.{Stop}
use Rattle.steps.proofs.Laws.{Setting}
use Rattle.two_states.proofs.Laws.{OfX, OfY, TwoState, TwoRules}
use Rattle.two_steps.proofs.Laws.{Kind, Load, Give, Absorb, Halt, Move, two_plan, pairs, two_words, outcome_by, StaysBy, Follows, Ready, lawful, Kept, step_keeps}
use Rattle.runs.proofs.Laws as loop
use Rattle.binary.specs.TwoRun.{answered, two_ran, two_steps_of}

-- ---- the loop: two words and a list for digits

abbrev pub lent_to : List ℕ → List ℕ → List ℕ → Lent
lent_to xs ys output = record { x = xs; y = ys; out = output; list = [] }

abbrev pub Stands : Setting → TwoState → Lent → List ℕ → TwoState → ℕ → ℕ → ℕ → Type 0
Stands y s₀ l out s i j o = loop.Here (pairs y) s₀ l out [] s i j o 0

pub stands_first : (y : Setting) (s₀ : TwoState) (xs ys out : List ℕ) → Stands y s₀ (lent_to xs ys out) out s₀ 0 0 0
stands_first y s₀ xs ys out = here_first (pairs y) s₀ (lent_to xs ys out)

abbrev pub steps_left : Setting → Lent → TwoState → ℕ → ℕ → ℕ → ℕ
steps_left y l s i j o = loop.steps_left (pairs y) l s i j o

-- behind a step the loop stands at another place, with fewer steps left
pub record Further (y : Setting) (s₀ : TwoState) (l : Lent) (s : TwoState) (i j o : ℕ) (out : List ℕ) (t : TwoState) (i' j' o' : ℕ) : Type 0 where
  pub falls : steps_left y l t i' j' o' < steps_left y l s i j o
  pub stands : Stands y s₀ l out t i' j' o'

pub record TurnBy (y : Setting) (s₀ : TwoState) (l : Lent) (out : List ℕ) (s : TwoState) (i j o : ℕ) (m : Move) : Type 0 where
  pub load_x_lem : (a : ℕ) → m.kind ≡ Load OfX a → (i < length l.x) × Further y s₀ l s i j o out m.state (i + 1) j o
  pub load_y_lem : (b : ℕ) → m.kind ≡ Load OfY b → (j < length l.y) × Further y s₀ l s i j o out m.state i (j + 1) o
  pub give : (c : ℕ) → m.kind ≡ Give c → (o < length out) × Further y s₀ l s i j o (set out o c) m.state i j (o + 1)
  pub absorb : m.kind ≡ Absorb → Further y s₀ l s i j o out m.state i j o
  pub halt : (e : Stop) → m.kind ≡ Halt e → two_ran (answered e i j o m.state) out ≡ two_steps_of y s₀ l.x l.y l.out

module _ (y : Setting) (s₀ : TwoState) (xs ys out₀ out : List ℕ) (s : TwoState) (i j o : ℕ) (m : Move)
    (here : Stands y s₀ (lent_to xs ys out₀) out s i j o) (made : Follows (two_plan y s) s (two_words (drop i xs) (drop j ys) (length out - o)) m) where
  abbrev l : Lent
  l = lent_to xs ys out₀

  abbrev before : Supply
  before = loop.ahead l i j o 0

  -- the step that is made here
  made_here : (k : Kind) → m.kind ≡ k → (pairs y).step s before ≡ outcome_by k m.state
  made_here k e = rw (← here.out_length) (sym made.outcome ∙ ap (λ (k : Kind). outcome_by k m.state) e)

  -- what it does can be done
  pays : (k : Kind) (d : Deed) → m.kind ≡ k → outcome_by k m.state ≡ goes m.state d → Pays d before
  pays k d e f = (does (lawful y) s m.state before d (made_here k e ∙ f)).pays

  -- and where it leads to
  leads : (k : Kind) (d : Deed) → m.kind ≡ k → outcome_by k m.state ≡ goes m.state d → d.divisors ≡ [] → {i' j' o' : ℕ} {out' : List ℕ} →
      Took xs i d.x i' → Took ys j d.y j' → Wrote out o d.digits out' o' → Further y s₀ l s i j o out' m.state i' j' o'
  leads k d e f none tx ty wo =
      let g = loop.goes_to (pairs y) s₀ l (lawful y) here m.state d (made_here k e ∙ f) tx ty wo
      (subst (λ (things : List ℕ). Wrote [] 0 things [] 0) (sym none) (wrote_none [] 0)) in
      record { falls = g.0; stands = g.1 }

  on_load_x : (a : ℕ) → m.kind ≡ Load OfX a → (i < length xs) × Further y s₀ l s i j o out m.state (i + 1) j o
  on_load_x a e =
      let c = pays (Load OfX a) (took_x a) e refl in
      (omega (arith, (within c).0, length-drop i xs), leads (Load OfX a) (took_x a) e refl refl (took_front xs i (a ∷ []) c.x) (took_none ys j) (wrote_none out o))

  on_load_y : (b : ℕ) → m.kind ≡ Load OfY b → (j < length ys) × Further y s₀ l s i j o out m.state i (j + 1) o
  on_load_y b e =
      let c = pays (Load OfY b) (took_y b) e refl in
      (omega (arith, (within c).1, length-drop j ys), leads (Load OfY b) (took_y b) e refl refl (took_none xs i) (took_front ys j (b ∷ []) c.y) (wrote_none out o))

  on_give : (c : ℕ) → m.kind ≡ Give c → (o < length out) × Further y s₀ l s i j o (set out o c) m.state i j (o + 1)
  on_give c e =
      let room : o < length out = omega (arith, (pays (Give c) (gave c) e refl).room, here.out_length) in
      (room, leads (Give c) (gave c) e refl refl (took_none xs i) (took_none ys j) (wrote_one out o c room))

  on_absorb : m.kind ≡ Absorb → Further y s₀ l s i j o out m.state i j o
  on_absorb e = leads Absorb nothing e refl refl (took_none xs i) (took_none ys j) (wrote_none out o)

  on_halt : (e : Stop) → m.kind ≡ Halt e → two_ran (answered e i j o m.state) out ≡ two_steps_of y s₀ xs ys out₀
  unfolding two_steps_of
  on_halt e k =
      let q = loop.ends_with (pairs y) s₀ l (lawful y) here e (made_here (Halt e) k) in
      let stays : m.state ≡ s = subst (λ (k : Kind). StaysBy s k m.state) k made.stays in
      sym (λ n. two_ran (answered
      (q.stop n)
      ((ap (λ (d : Deed). length d.x) q.did ∙ length-take-le i xs here.x) n)
      ((ap (λ (d : Deed). length d.y) q.did ∙ length-take-le j ys here.y) n)
      ((ap (λ (d : Deed). length d.digits) q.did ∙ length-take-le o out (omega (arith, here.room, here.out_length))) n)
      ((q.state ∙ sym stays) n))
      ((ap (λ (d : Deed). written d.digits out₀) q.did ∙ q.out_is) n))

  turn_here : TurnBy y s₀ l out s i j o m
  turn_here = record { load_x_lem = on_load_x; load_y_lem = on_load_y; give = on_give; absorb = on_absorb; halt = on_halt }

pub turn : {y : Setting} {s₀ : TwoState} {xs ys out₀ out : List ℕ} {s : TwoState} {i j o : ℕ} {m : Move} → Stands y s₀ (lent_to xs ys out₀) out s i j o →
    Follows (two_plan y s) s (two_words (drop i xs) (drop j ys) (length out - o)) m → TurnBy y s₀ (lent_to xs ys out₀) out s i j o m
turn {y} {s₀} {xs} {ys} {out₀} {out} {s} {i} {j} {o} {m} = turn_here y s₀ xs ys out₀ out s i j o m

-- ---- what the steps rely on is kept

rules_kept : (y : Setting) (s : TwoState) → TwoRules y.input.count s → (k : Kind) (t : TwoState) → Going (λ t d. Kept y (and_then nothing d) t) (outcome_by k t) → StaysBy s k t →
    TwoRules y.input.count t
rules_kept y s r (Load OfX a) t g h = g.state
rules_kept y s r (Load OfY b) t g h = g.state
rules_kept y s r (Give c) t g h = g.state
rules_kept y s r Absorb t g h = g.state
rules_kept y s r (Halt e) t g h = subst (TwoRules y.input.count) (sym h) r

pub ready_kept : {y : Setting} {s : TwoState} (m : Move) (supply : Supply) → Ready y s → Follows (two_plan y s) s supply m → Ready y m.state
ready_kept {y} {s} m supply r made = record {
  input = r.input;
  output = r.output;
  state = rules_kept y s r.state m.kind m.state
      (subst (Going (λ t d. Kept y (and_then nothing d) t)) (sym made.outcome)
      (step_keeps y r.input.digits r.output.digits nothing s (record { digits = tt; state = r.state }) supply)) made.stays;
}
