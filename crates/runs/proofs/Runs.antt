-- What holds of every run of a lawful machine. The list of its steps, `Runs`, and what is worked out, `run`, agree: it ends, and has one answer (`runs`, `only`). It
-- took the first bytes that were there and wrote no more than there was room for (`paid`); what each step keeps, it keeps (`keeps`); its steps are as many as the bytes
-- taken and the digits written allow (`few_steps`); stopped, it stops again (`stops_again`); it may be cut anywhere (`cut_anywhere`); a list that did not fill
-- could be any longer one (`same_longer`); and two machines that make the same steps make the same runs (`same_runs`). Each is an induction over the steps.
use Rattle.whole.proofs.Laws.{◌≡◌, refl, sym, ap, subst, ◌∙◌, [], append-nil, ℕ, zero, suc, ◌+◌, ◌≤◌, ◌<◌, add-zero, arith, length, length-append}
use Rattle.runs.specs.Supply.{Supply, Deed, nothing, and_then, spend}
use Rattle.runs.specs.Machine.{Outcome, goes, halts, Machine, most_steps}
use Rattle.runs.specs.Run.{Course, stopped, behind, followed_by, Runs, stops, makes, after, run_by, run}
use Rattle.runs.specs.Asked.{Pays, join, longer, cost, Going, Does, Lawful, Same, Steady}
use Rattle.runs.proofs.Spending.{nothing_pays, spend_nothing, pays_both, spend_both, spend_join, cost_both, and_nothing, and_then_lem}

pub behind_nothing : {State Stop : Type 0} (q : Course State Stop) → behind nothing 0 q ≡ q
behind_nothing q = λ i. record { stop = q.stop; state = q.state; did = q.did; steps = add-zero q.steps i }

module _ {State Stop : Type 0} {m : Machine State Stop} (lawful : Lawful m) where
  pub does : (s t : State) (r : Supply) (d : Deed) → m.step s r ≡ goes t d → Does m s r t d
  does s t r d e = subst (Going (Does m s r)) e (lawful.each s r)

  -- each step that does not halt makes `most_steps` smaller
  falls : (s t : State) (r : Supply) (d : Deed) → m.step s r ≡ goes t d → most_steps m t (spend d r) < most_steps m s r
  falls s t r d e =
      let c = does s t r d e in
      let p = c.pays in
      omega (arith, c.costs, p.room, ap length p.x, ap length p.y, length-append d.x (spend d r).x, length-append d.y (spend d r).y)

  -- ---- one run from each place

  next : (s : State) (r : Supply) (k : ℕ) (v : Outcome State Stop) → m.step s r ≡ v → run_by m (suc k) s r ≡ after (run_by m k) s r v
  unfolding run_by
  next s r k v e = rw e

  -- whatever number of steps is granted, if it is more than `most_steps`
  pub granted : {s : State} {r : Supply} {q : Course State Stop} → Runs m s r q → (k : ℕ) → most_steps m s r < k → run_by m k s r ≡ q
  granted g zero h = absurd (omega arith)
  granted {s} {r} (stops e p) (suc k) h = next s r k (halts e) p
  granted {s} {r} (makes t d p g) (suc k) h = next s r k (goes t d) p ∙ ap (behind d 1) (granted {s = t} {r = spend d r} g k (omega (arith, falls s t r d p)))

  pub only : {s : State} {r : Supply} {q : Course State Stop} → Runs m s r q → run m s r ≡ q
  unfolding run
  only {s} {r} g = granted g (suc (most_steps m s r)) (omega arith)

  -- there is a run from each place: by its first step, and then by what is left
  Some : State → Supply → Type 0
  Some s r = (q : Course State Stop) × Runs m s r q

  by_step : (s : State) (r : Supply) → ((t : State) (d : Deed) → m.step s r ≡ goes t d → Some t (spend d r)) → (v : Outcome State Stop) → m.step s r ≡ v → Some s r
  unfolding Some
  by_step s r more (goes t d) e = let g = more t d e in (behind d 1 g.0, makes t d e g.1)
  by_step s r more (halts e) p = (stopped e s, stops e p)

  by_left : (n : ℕ) (s : State) (r : Supply) → most_steps m s r < n → Some s r
  by_left zero s r h = absurd (omega arith)
  by_left (suc n) s r h = by_step s r (λ t d e. by_left n t (spend d r) (omega (arith, falls s t r d e))) (m.step s r) refl

  pub runs : (s : State) (r : Supply) → Runs m s r (run m s r)
  unfolding Some
  runs s r = let g = by_left (suc (most_steps m s r)) s r (omega arith) in subst (Runs m s r) (sym (only g.1)) g.1

  -- ---- what it did could be done, and in how many steps

  pub paid : {s : State} {r : Supply} {q : Course State Stop} → Runs m s r q → Pays q.did r
  paid {s} {r} (stops e p) = nothing_pays r
  paid {s} {r} (makes t d p g) = pays_both (does s t r d p).pays (paid g)

  pub few_steps : {s : State} {r : Supply} {q : Course State Stop} → Runs m s r q → q.steps + m.held q.state ≤ cost q.did + m.held s
  few_steps (stops e p) = omega arith
  few_steps {s} {r} (makes {q = q} t d p g) = omega (arith, few_steps g, (does s t r d p).costs, cost_both d q.did)

  -- what each step keeps of what was done so far and the state, a run keeps
  pub keeps : (P : Deed → State → Type 0) → ((a : Deed) (s : State) (r : Supply) → P a s → Going (λ t d. P (and_then a d) t) (m.step s r)) →
      {s : State} {r : Supply} {q : Course State Stop} → Runs m s r q → (a : Deed) → P a s → P (and_then a q.did) q.state
  keeps P each {s} {r} (stops e p) a h = subst (λ (c : Deed). P c s) (sym (and_nothing a)) h
  keeps P each {s} {r} (makes {q = q} t d p g) a h =
      subst (λ (c : Deed). P c q.state) (and_then_lem a d q.did) (keeps P each g (and_then a d) (subst (Going (λ t d. P (and_then a d) t)) p (each a s r h)))

  -- ---- "A stopped run called again .. stops the same way": its last step halts, in the state and before the supply that it hands back

  pub last_step : {s : State} {r : Supply} {q : Course State Stop} → Runs m s r q → m.step q.state (spend q.did r) ≡ halts q.stop
  last_step {s} {r} (stops e p) = rw (spend_nothing r) p
  last_step {s} {r} (makes {q = q} t d p g) = rw (← (spend_both d q.did r)) (last_step g)

  pub stops_again : (s : State) (r : Supply) → let q = run m s r in run m q.state (spend q.did r) ≡ stopped q.stop q.state
  stops_again s r = only (stops (run m s r).stop (last_step (runs s r)))

  -- ---- a run may be cut anywhere: the long run makes the steps of the short one, up to the one that halts, and there it stands before what was left, and more

  module _ {more : Supply} {Unseen : State → Supply → Type 0} (steady : Steady m more Unseen) where
    goes_on : {s : State} {r : Supply} {q long : Course State Stop} → Runs m s r q → Unseen s r → Runs m q.state (join (spend q.did r) more) long → Runs m s (join r more) (followed_by q long)
    goes_on {s} {r} {long = long} (stops e p) u g = rw (behind_nothing long) (subst (λ (a : Supply). Runs m s (join a more) long) (spend_nothing r) g)
    goes_on {s} {r} {long = long} (makes {q = q} t d p f) u g =
        let same : Same m more Unseen s r t d = subst (Going (Same m more Unseen s r)) p (steady.each s r u) in
        let rest = goes_on {long = long} f same.still_unseen (subst (λ (a : Supply). Runs m q.state (join a more) long) (sym (spend_both d q.did r)) g) in
        let n : long.steps + q.steps + 1 ≡ long.steps + (q.steps + 1) = omega arith in
        subst (Runs m s (join r more)) (λ i. record { stop = long.stop; state = long.state; did = sym (and_then_lem d q.did long.did) i; steps = n i })
        (makes {q = followed_by q long} t d same.same_outcome (rw (spend_join more (does s t r d p).pays) rest))

    pub cut_anywhere : (s : State) (r : Supply) → Unseen s r → let q = run m s r in
        run m s (join r more) ≡ followed_by q (run m q.state (join (spend q.did r) more))
    cut_anywhere s r u = only (goes_on (runs s r) u (runs (run m s r).state (join (spend (run m s r).did r) more)))

-- where a run never can tell
abbrev pub Always : {State : Type 0} → State → Supply → Type 0
Always s r = Unit {0}

-- ---- a run that stops by a word which it would stop by before a longer list too is the same before any longer list

longer_join : (k : ℕ) (r : Supply) → join r (record { x = []; y = []; room = 0; list = k }) ≡ longer k r
longer_join k r = λ i. record { x = append-nil r.x i; y = append-nil r.y i; room = add-zero r.room i; list = r.list + k }

pub same_longer : {State Stop : Type 0} {m : Machine State Stop} → Lawful m → (k : ℕ) → Steady m (record { x = []; y = []; room = 0; list = k }) Always → (P : Stop → Type 0) →
    ((s : State) (r : Supply) (e : Stop) → m.step s r ≡ halts e → P e → m.step s (longer k r) ≡ halts e) →
    (s : State) (r : Supply) → P (run m s r).stop → run m s (longer k r) ≡ run m s r
same_longer {State} {Stop} {m} lawful k steady P halted s r h = only lawful (subst (λ (a : Supply). Runs m s a (run m s r)) (longer_join k r) (by (runs lawful s r) h))
  where
    more : Supply
    more = record { x = []; y = []; room = 0; list = k }

    by : {s : State} {r : Supply} {q : Course State Stop} → Runs m s r q → P q.stop → Runs m s (join r more) q
    by {s} {r} (stops e p) h = stops e (ap (m.step s) (longer_join k r) ∙ halted s r e p h)
    by {s} {r} (makes {q = q} t d p g) h =
        let same : Same m more Always s r t d = subst (Going (Same m more Always s r)) p (steady.each s r tt) in
        makes {q = q} t d same.same_outcome (rw (spend_join more (does lawful s t r d p).pays) (by g h))

-- ---- two machines that make the same steps wherever P holds, which each step keeps

pub same_runs : {State Stop : Type 0} {m n : Machine State Stop} → Lawful m → Lawful n → (P : State → Type 0) →
    ((s : State) (r : Supply) → P s → (m.step s r ≡ n.step s r) × Going (λ t d. P t) (m.step s r)) → (s : State) (r : Supply) → P s → run m s r ≡ run n s r
same_runs {State} {Stop} {m} {n} lawful lawful' P same s r h = sym (only lawful' (by (runs lawful s r) h))
  where
    by : {s : State} {r : Supply} {q : Course State Stop} → Runs m s r q → P s → Runs n s r q
    by {s} {r} (stops e p) h = stops e (sym (same s r h).0 ∙ p)
    by {s} {r} (makes t d p g) h = let k = same s r h in makes t d (sym k.0 ∙ p) (by g (subst (Going (λ t d. P t)) p k.1))
