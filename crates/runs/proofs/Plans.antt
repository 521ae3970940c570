-- Whatever plan is followed, what it does can be done and is paid for, and it does the same before more. So a machine that goes by plans is lawful if its plans are
-- cheap, and steady if more does not change which plan is chosen.
use Rattle.whole.proofs.Laws.{◌≡◌, refl, sym, ap, subst, ◌∙◌, Bool, true, false, cond, List, [], ◌∷◌, ℕ, zero, suc, ◌+◌, ◌-◌, ◌≤◌, arith}
use Rattle.runs.specs.Supply.{Supply, Deed, nothing, and_then, spend}
use Rattle.runs.specs.Machine.{Outcome, goes, halts}
use Rattle.runs.specs.Plan.{Plan, stop, go, byte_x, byte_y, digit, divisor, took_x, took_y, gave, listed, first, with_byte, with_place, follow, planned}
use Rattle.runs.specs.Asked.{Pays, join, cost, Going, Halting, Does, Lawful, Same, Steady, Each, EachStop}
use Rattle.runs.proofs.Spending.{nothing_pays, pays_both, spend_join, and_nothing, and_then_lem}
use Rattle.runs.proofs.Runs.{Always}

-- ---- what a plan asks for can be done where it is there

abbrev pub ahead : List ℕ → List ℕ → ℕ → ℕ → Supply
ahead xs ys room list = record { x = xs; y = ys; room = room; list = list }

x_pays : (b : ℕ) (xs ys : List ℕ) (room list : ℕ) → Pays (took_x b) (ahead (b ∷ xs) ys room list)
x_pays b xs ys room list = record { x = refl; y = refl; room = omega arith; list = omega arith }

y_pays : (b : ℕ) (xs ys : List ℕ) (room list : ℕ) → Pays (took_y b) (ahead xs (b ∷ ys) room list)
y_pays b xs ys room list = record { x = refl; y = refl; room = omega arith; list = omega arith }

digit_pays : (g : ℕ) (xs ys : List ℕ) (n list : ℕ) → Pays (gave g) (ahead xs ys (suc n) list)
digit_pays g xs ys n list = record { x = refl; y = refl; room = omega arith; list = omega arith }

divisor_pays : (g : ℕ) (xs ys : List ℕ) (room n : ℕ) → Pays (listed g) (ahead xs ys room (suc n))
divisor_pays g xs ys room n = record { x = refl; y = refl; room = omega arith; list = omega arith }

-- ---- every plan pays

module _ {State Stop : Type 0} where
  and_pays : (r : Supply) (d : Deed) (v : Outcome State Stop) → Pays d r → Going (λ t e. Pays e (spend d r)) v → Going (λ t e. Pays e r) (first d v)
  and_pays r d (goes t e) p h = pays_both p h
  and_pays r d (halts e) p h = tt

  follow_pays : (p : Plan State Stop) (xs ys : List ℕ) (room list : ℕ) → Going (λ t d. Pays d (ahead xs ys room list)) (follow p (ahead xs ys room list))
  unfolding follow
  follow_pays (stop e) xs ys room list = tt
  follow_pays (go t) xs ys room list = nothing_pays (ahead xs ys room list)
  follow_pays (byte_x e k) [] ys room list = tt
  follow_pays (byte_x e k) (b ∷ xs) ys room list =
      and_pays (ahead (b ∷ xs) ys room list) (took_x b) (follow (k b) (ahead xs ys (room - 0) (list - 0))) (x_pays b xs ys room list) (follow_pays (k b) xs ys (room - 0) (list - 0))
  follow_pays (byte_y e k) xs [] room list = tt
  follow_pays (byte_y e k) xs (b ∷ ys) room list =
      and_pays (ahead xs (b ∷ ys) room list) (took_y b) (follow (k b) (ahead xs ys (room - 0) (list - 0))) (y_pays b xs ys room list) (follow_pays (k b) xs ys (room - 0) (list - 0))
  follow_pays (digit e g p) xs ys zero list = tt
  follow_pays (digit e g p) xs ys (suc n) list =
      and_pays (ahead xs ys (suc n) list) (gave g) (follow p (ahead xs ys (suc n - 1) (list - 0))) (digit_pays g xs ys n list) (follow_pays p xs ys (suc n - 1) (list - 0))
  follow_pays (divisor e g p) xs ys room zero = tt
  follow_pays (divisor e g p) xs ys room (suc n) =
      and_pays (ahead xs ys room (suc n)) (listed g) (follow p (ahead xs ys (room - 0) (suc n - 1))) (divisor_pays g xs ys room n) (follow_pays p xs ys (room - 0) (suc n - 1))

-- ---- what holds wherever a plan goes on holds of the outcome

module _ {State Stop : Type 0} (R : State → Deed → Type 0) where
  abbrev Behind : Deed → Outcome State Stop → Type 0
  Behind a v = Going (λ t d. R t (and_then a d)) v

  and_each : (a d : Deed) (v : Outcome State Stop) → Behind (and_then a d) v → Behind a (first d v)
  and_each a d (goes t e) h = subst (R t) (and_then_lem a d e) h
  and_each a d (halts e) h = tt

  each_behind : (p : Plan State Stop) (a : Deed) → Each R a p → (xs ys : List ℕ) (room list : ℕ) → Behind a (follow p (ahead xs ys room list))
  unfolding follow Each
  each_behind (stop e) a h xs ys room list = tt
  each_behind (go t) a h xs ys room list = subst (R t) (sym (and_nothing a)) h
  each_behind (byte_x e k) a h [] ys room list = tt
  each_behind (byte_x e k) a h (b ∷ xs) ys room list =
      and_each a (took_x b) (follow (k b) (ahead xs ys (room - 0) (list - 0))) (each_behind (k b) (and_then a (took_x b)) (h b) xs ys (room - 0) (list - 0))
  each_behind (byte_y e k) a h xs [] room list = tt
  each_behind (byte_y e k) a h xs (b ∷ ys) room list =
      and_each a (took_y b) (follow (k b) (ahead xs ys (room - 0) (list - 0))) (each_behind (k b) (and_then a (took_y b)) (h b) xs ys (room - 0) (list - 0))
  each_behind (digit e g p) a h xs ys zero list = tt
  each_behind (digit e g p) a h xs ys (suc n) list =
      and_each a (gave g) (follow p (ahead xs ys (suc n - 1) (list - 0))) (each_behind p (and_then a (gave g)) h xs ys (suc n - 1) (list - 0))
  each_behind (divisor e g p) a h xs ys room zero = tt
  each_behind (divisor e g p) a h xs ys room (suc n) =
      and_each a (listed g) (follow p (ahead xs ys (room - 0) (suc n - 1))) (each_behind p (and_then a (listed g)) h xs ys (room - 0) (suc n - 1))

  pub follow_each : (p : Plan State Stop) → Each R nothing p → (r : Supply) → Going R (follow p r)
  follow_each p h r = each_behind p nothing h r.x r.y r.room r.list

-- ---- and with which words it stops

module _ {State Stop : Type 0} (R : Stop → Type 0) where
  first_halts : (d : Deed) (v : Outcome State Stop) → Halting R v → Halting R (first d v)
  first_halts d (goes t e) h = tt
  first_halts d (halts e) h = h

  byte_halts : (e : Stop) (l : List ℕ) (k : ℕ → Outcome State Stop) → R e → ((b : ℕ) → Halting R (k b)) → Halting R (with_byte e l k)
  byte_halts e [] k h more = h
  byte_halts e (b ∷ l) k h more = more b

  place_halts : (e : Stop) (n : ℕ) (v : Outcome State Stop) → R e → Halting R v → Halting R (with_place e n v)
  place_halts e zero v h more = h
  place_halts e (suc n) v h more = more

  pub follow_halts : (p : Plan State Stop) → EachStop R p → (r : Supply) → Halting R (follow p r)
  unfolding follow EachStop
  follow_halts (stop e) h r = h
  follow_halts (go t) h r = tt
  follow_halts (byte_x e k) h r = byte_halts e r.x _ h.0 (λ b. first_halts (took_x b) (follow (k b) (spend (took_x b) r)) (follow_halts (k b) (h.1 b) (spend (took_x b) r)))
  follow_halts (byte_y e k) h r = byte_halts e r.y _ h.0 (λ b. first_halts (took_y b) (follow (k b) (spend (took_y b) r)) (follow_halts (k b) (h.1 b) (spend (took_y b) r)))
  follow_halts (digit e g p) h r = place_halts e r.room _ h.0 (first_halts (gave g) (follow p (spend (gave g) r)) (follow_halts p h.1 (spend (gave g) r)))
  follow_halts (divisor e g p) h r = place_halts e r.list _ h.0 (first_halts (listed g) (follow p (spend (listed g) r)) (follow_halts p h.1 (spend (listed g) r)))

-- to go on or to stop, by a test
pub stop_test : {State Stop : Type 0} (R : Stop → Type 0) (c : Bool) (t : State) (e : Stop) → R e → EachStop {State = State} R (cond c (go t) (stop e))
unfolding EachStop
stop_test R true t e h = tt
stop_test R false t e h = h

pub each_test : {State Stop : Type 0} (R : State → Deed → Type 0) (a : Deed) (c : Bool) (t : State) (e : Stop) → (c ≡ true → R t a) → Each R a (cond c (go t) (stop e))
unfolding Each
each_test R a true t e h = h refl
each_test R a false t e h = tt

-- a plan pays for its state: two for each byte and one for each digit, and one is left over
abbrev pub Cheap : {State Stop : Type 0} → (State → ℕ) → ℕ → Plan State Stop → Type 0
Cheap held n p = Each (λ t d. suc (held t) ≤ cost d + n) nothing p

pub planned_lawful : {State Stop : Type 0} (plan : State → Supply → Plan State Stop) (held : State → ℕ) (idle : Stop) →
    ((s : State) (r : Supply) → Cheap held (held s) (plan s r)) → Lawful (planned plan held idle)
planned_lawful {State} {Stop} plan held idle cheap = record {
  each = λ s r. by s r (follow (plan s r) r) (follow_pays (plan s r) r.x r.y r.room r.list)
      (follow_each (λ t d. suc (held t) ≤ cost d + held s) (plan s r) (cheap s r) r);
}
  where
    by : (s : State) (r : Supply) (v : Outcome State Stop) → Going (λ t d. Pays d r) v → Going (λ t d. suc (held t) ≤ cost d + held s) v →
        Going (Does (planned plan held idle) s r) v
    by s r (goes t d) h k = record { pays = h; costs = k }
    by s r (halts e) h k = tt

-- ---- every plan does the same before more

module _ {State Stop : Type 0} (more : Supply) where
  -- two moves that are the same where the second goes on
  abbrev SameOutcome : Outcome State Stop → Outcome State Stop → Type 0
  SameOutcome long v = Going (λ t d. long ≡ goes t d) v

  first_same : (d : Deed) (long v : Outcome State Stop) → SameOutcome long v → SameOutcome (first d long) (first d v)
  first_same d long (goes t e) h = ap (first d) h
  first_same d long (halts e) h = tt

  and_same : (p : Plan State Stop) (r : Supply) (d : Deed) → Pays d r → SameOutcome (follow p (join (spend d r) more)) (follow p (spend d r)) →
      SameOutcome (first d (follow p (spend d (join r more)))) (first d (follow p (spend d r)))
  and_same p r d f h = first_same d (follow p (spend d (join r more))) (follow p (spend d r)) (rw (spend_join more f) h)

  place_more : (e : Stop) (n k : ℕ) (m : Outcome State Stop) → with_place e (suc n + k) m ≡ m
  place_more e n k m = let p : suc n + k ≡ suc (n + k) = omega arith in rw p

  follow_same : (p : Plan State Stop) (xs ys : List ℕ) (room list : ℕ) → SameOutcome (follow p (join (ahead xs ys room list) more)) (follow p (ahead xs ys room list))
  unfolding follow
  follow_same (stop e) xs ys room list = tt
  follow_same (go t) xs ys room list = refl
  follow_same (byte_x e k) [] ys room list = tt
  follow_same (byte_x e k) (b ∷ xs) ys room list =
      and_same (k b) (ahead (b ∷ xs) ys room list) (took_x b) (x_pays b xs ys room list) (follow_same (k b) xs ys (room - 0) (list - 0))
  follow_same (byte_y e k) xs [] room list = tt
  follow_same (byte_y e k) xs (b ∷ ys) room list =
      and_same (k b) (ahead xs (b ∷ ys) room list) (took_y b) (y_pays b xs ys room list) (follow_same (k b) xs ys (room - 0) (list - 0))
  follow_same (digit e g p) xs ys zero list = tt
  follow_same (digit e g p) xs ys (suc n) list =
      rw (place_more e n more.room) (and_same p (ahead xs ys (suc n) list) (gave g) (digit_pays g xs ys n list) (follow_same p xs ys (suc n - 1) (list - 0)))
  follow_same (divisor e g p) xs ys room zero = tt
  follow_same (divisor e g p) xs ys room (suc n) =
      rw (place_more e n more.list) (and_same p (ahead xs ys room (suc n)) (listed g) (divisor_pays g xs ys room n) (follow_same p xs ys (room - 0) (suc n - 1)))

-- where more does not change the plan, and the run can't tell afterwards either
pub planned_steady : {State Stop : Type 0} (plan : State → Supply → Plan State Stop) (held : State → ℕ) (idle : Stop) (more : Supply) (Unseen : State → Supply → Type 0) →
    ((s : State) (r : Supply) → Unseen s r → Going (λ t d. (plan s (join r more) ≡ plan s r) × Unseen t (spend d r)) (follow (plan s r) r)) →
    Steady (planned plan held idle) more Unseen
planned_steady {State} {Stop} plan held idle more Unseen same = record {
  each = λ s r u. by s r (follow (plan s r) r) (follow_same more (plan s r) r.x r.y r.room r.list) (same s r u);
}
  where
    by : (s : State) (r : Supply) (v : Outcome State Stop) → Going (λ t d. follow (plan s r) (join r more) ≡ goes t d) v →
        Going (λ t d. (plan s (join r more) ≡ plan s r) × Unseen t (spend d r)) v → Going (Same (planned plan held idle) more Unseen s r) v
    by s r (goes t d) h k = record { same_outcome = ap (λ (p : Plan State Stop). follow p (join r more)) k.0 ∙ h; still_unseen = k.1 }
    by s r (halts e) h k = tt

-- a plan that is chosen by the state alone
pub steady_always : {State Stop : Type 0} (plan : State → Plan State Stop) (held : State → ℕ) (idle : Stop) (more : Supply) → Steady (planned (λ s r. plan s) held idle) more Always
steady_always {State} {Stop} plan held idle more = planned_steady (λ s r. plan s) held idle more Always (λ s r u. by s r (follow (plan s) r))
  where
    by : (s : State) (r : Supply) (v : Outcome State Stop) → Going (λ t d. (plan s ≡ plan s) × Always t (spend d r)) v
    by s r (goes t d) = (refl, tt)
    by s r (halts e) = tt
