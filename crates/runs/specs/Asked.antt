-- What is asked of a machine, and what can be said of every way that a plan may go: for theorems. A reader of a contract needs none of it.
use Rattle.std.specs.Prelude.{◌≡◌, ◌++◌, ℕ, suc, ◌+◌, ◌*◌, ◌≤◌, length, drop}
use Rattle.runs.specs.Supply.{Supply, Deed, and_then, spend}
use Rattle.runs.specs.Machine.{Outcome, goes, halts, Machine}
use Rattle.runs.specs.Plan.{Plan, stop, go, byte_x, byte_y, digit, divisor, took_x, took_y, gave, listed}

-- ---- deeds

-- a deed that can be done: the bytes taken are the first that lie there, and there is room
pub record Pays (d : Deed) (r : Supply) : Type 0 where
  pub x : d.x ++ drop (length d.x) r.x ≡ r.x
  pub y : d.y ++ drop (length d.y) r.y ≡ r.y
  pub room : length d.digits ≤ r.room
  pub list : length d.divisors ≤ r.list

-- more bytes behind those that are there, and more places
abbrev pub join : Supply → Supply → Supply
join r more = record { x = r.x ++ more.x; y = r.y ++ more.y; room = r.room + more.room; list = r.list + more.list }

-- the same before so many places more for divisors
abbrev pub longer : ℕ → Supply → Supply
longer k r = record { x = r.x; y = r.y; room = r.room; list = r.list + k }

-- two for each byte taken, one for each digit given out
abbrev pub cost : Deed → ℕ
cost d = 2 * length d.x + 2 * length d.y + length d.digits

-- ---- machines

-- where a step goes on, P holds of the new state and the deed
abbrev pub Going : {State Stop : Type 0} → (State → Deed → Type 0) → Outcome State Stop → Type 0
Going P (goes t d) = P t d
Going P (halts e) = Unit {0}

-- where it halts, P holds of the word with which it does
abbrev pub Halting : {State Stop : Type 0} → (Stop → Type 0) → Outcome State Stop → Type 0
Halting P (goes t d) = Unit {0}
Halting P (halts e) = P e

module _ {State Stop : Type 0} where
  -- what is asked of a step that goes from s, before r, to t and does d: it does what can be done, and it takes a byte for each digit that it holds
  -- more, or gives a digit out, or holds one less
  pub record Does (m : Machine State Stop) (s : State) (r : Supply) (t : State) (d : Deed) : Type 0 where
    pub pays : Pays d r
    pub costs : suc (m.held t) ≤ cost d + m.held s

  pub record Lawful (m : Machine State Stop) : Type 0 where
    pub each : (s : State) (r : Supply) → Going (Does m s r) (m.step s r)

  -- and, for a run to be cut: before more it does the same, in the places where it can't tell (`Unseen`), and there it can't tell afterwards either
  pub record Same (m : Machine State Stop) (more : Supply) (Unseen : State → Supply → Type 0) (s : State) (r : Supply) (t : State) (d : Deed) : Type 0 where
    pub same_outcome : m.step s (join r more) ≡ goes t d
    pub still_unseen : Unseen t (spend d r)

  pub record Steady (m : Machine State Stop) (more : Supply) (Unseen : State → Supply → Type 0) : Type 0 where
    pub each : (s : State) (r : Supply) → Unseen s r → Going (Same m more Unseen s r) (m.step s r)

-- ---- plans

module _ {State Stop : Type 0} where
  -- R holds wherever a plan goes on, behind a, of the state and of what was done: whatever bytes it finds
  unfoldable pub Each : (State → Deed → Type 0) → Deed → Plan State Stop → Type 0
  Each R a (stop e) = Unit {0}
  Each R a (go t) = R t a
  Each R a (byte_x e k) = (b : ℕ) → Each R (and_then a (took_x b)) (k b)
  Each R a (byte_y e k) = (b : ℕ) → Each R (and_then a (took_y b)) (k b)
  Each R a (digit e g p) = Each R (and_then a (gave g)) p
  Each R a (divisor e g p) = Each R (and_then a (listed g)) p

  -- R holds of every word with which a plan may stop
  unfoldable pub EachStop : (Stop → Type 0) → Plan State Stop → Type 0
  EachStop R (stop e) = R e
  EachStop R (go t) = Unit {0}
  EachStop R (byte_x e k) = R e × ((b : ℕ) → EachStop R (k b))
  EachStop R (byte_y e k) = R e × ((b : ℕ) → EachStop R (k b))
  EachStop R (digit e g p) = R e × EachStop R p
  EachStop R (divisor e g p) = R e × EachStop R p
