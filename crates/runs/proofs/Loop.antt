-- A loop that makes the steps of a run, in its own variables: i and j bytes of the two words are taken, o digits and p divisors are written. So what was done in all is
-- the first i bytes of x, the first o of the output, and so on. `Here` says that, `goes_to` that a turn which does a step's deed keeps it and leaves fewer steps, and
-- `ends_with` what the run gives where a step halts.
use Rattle.whole.proofs.Laws.{◌≡◌, refl, sym, ap, subst, ◌∙◌, List, [], ◌∷◌, ◌++◌, append-nil, ℕ, ◌+◌, ◌*◌, ◌-◌, ◌≤◌, ◌<◌, add-one, arith, length, take, drop, set, length-set, length-drop, take-append-drop, length-take-le, take-add, take-append_seam, drop-drop}
use lib.Seq.{take-suc-set, drop-set-lt}
use Rattle.runs.specs.Supply.{Supply, Deed, nothing, and_then, spend, written}
use Rattle.runs.specs.Machine.{goes, halts, Machine}
use Rattle.runs.specs.Run.{Course, behind, Runs, stops, makes, run}
use Rattle.runs.specs.Asked.{Pays, Lawful}
use Rattle.runs.proofs.Spending.{nothing_pays, spend_nothing, pays_both, spend_both, and_nothing, and_then_lem, within}
use Rattle.runs.proofs.Runs.{behind_nothing, does, only}

-- ---- one variable: bytes that are taken behind the first i of a word, and things that are written behind the first o of a list

pub record Took (word : List ℕ) (i : ℕ) (bytes : List ℕ) (j : ℕ) : Type 0 where
  pub count : j ≡ i + length bytes
  pub front : take i word ++ bytes ≡ take j word

pub took_none : (word : List ℕ) (i : ℕ) → Took word i [] i
took_none word i = record { count = omega arith; front = append-nil (take i word) }

pub took_front : (word : List ℕ) (i : ℕ) (bytes : List ℕ) → bytes ++ drop (length bytes) (drop i word) ≡ drop i word → Took word i bytes (i + length bytes)
took_front word i bytes e = record {
  count = refl;
  front = ap (λ (l : List ℕ). take i word ++ l) (sym (ap (take (length bytes)) (sym e) ∙ take-append_seam bytes (drop (length bytes) (drop i word)))) ∙ sym (take-add i (length bytes) word);
}

pub record Wrote (out : List ℕ) (o : ℕ) (things : List ℕ) (new : List ℕ) (p : ℕ) : Type 0 where
  pub count : p ≡ o + length things
  pub front : take o out ++ things ≡ take p new
  pub same_length : length new ≡ length out
  pub behind : drop p new ≡ drop p out

pub wrote_none : (out : List ℕ) (o : ℕ) → Wrote out o [] out o
wrote_none out o = record { count = omega arith; front = append-nil (take o out); same_length = refl; behind = refl }

pub wrote_one : (out : List ℕ) (o b : ℕ) → o < length out → Wrote out o (b ∷ []) (set out o b) (o + 1)
wrote_one out o b h = record {
  count = refl;
  front = rw (add-one o) (sym (take-suc-set out o b h));
  same_length = length-set out o b;
  behind = drop-set-lt (o + 1) out o b (omega arith);
}

-- what is unchanged behind o is unchanged behind p
further : (out out₀ : List ℕ) (o p : ℕ) → o ≤ p → drop o out ≡ drop o out₀ → drop p out ≡ drop p out₀
further out out₀ o p h e =
    let n : o + (p - o) ≡ p = omega arith in
    rw n at (sym (drop-drop (p - o) o out) ∙ ap (drop (p - o)) e ∙ drop-drop (p - o) o out₀)

-- ---- the loop

-- what is lent: the words, the list for digits and the list for divisors
pub record Lent : Type 0 where
  pub x : List ℕ
  pub y : List ℕ
  pub out : List ℕ
  pub list : List ℕ

abbrev pub supply : Lent → Supply
supply l = record { x = l.x; y = l.y; room = length l.out; list = length l.list }

abbrev pub done : Lent → List ℕ → List ℕ → ℕ → ℕ → ℕ → ℕ → Deed
done l out list i j o p = record { x = take i l.x; y = take j l.y; digits = take o out; divisors = take p list }

abbrev pub ahead : Lent → ℕ → ℕ → ℕ → ℕ → Supply
ahead l i j o p = record { x = drop i l.x; y = drop j l.y; room = length l.out - o; list = length l.list - p }

-- the loop's measure
abbrev pub steps_left : {State Stop : Type 0} → Machine State Stop → Lent → State → ℕ → ℕ → ℕ → ℕ
steps_left m l s i j o = 2 * (length l.x - i) + 2 * (length l.y - j) + (length l.out - o) + m.held s

-- the steps that were made are one with those to come: whatever run follows from here, behind what was done, is the whole run
pub record Stand {State Stop : Type 0} (m : Machine State Stop) (s₀ : State) (r₀ : Supply) (d : Deed) (s : State) : Type 0 where
  pub made : ℕ
  pub pays : Pays d r₀
  pub whole : {q : Course State Stop} → Runs m s (spend d r₀) q → Runs m s₀ r₀ (behind d made q)

start : {State Stop : Type 0} {m : Machine State Stop} {s₀ : State} {r₀ : Supply} → Stand m s₀ r₀ nothing s₀
start {State} {Stop} {m} {s₀} {r₀} = record { made = 0; pays = nothing_pays r₀; whole = λ {q} g. rw (behind_nothing q) (subst (λ (r : Supply). Runs m s₀ r q) (spend_nothing r₀) g) }

onward : {State Stop : Type 0} {m : Machine State Stop} {s₀ : State} {r₀ : Supply} → Lawful m → {d : Deed} {s : State} (t : State) (e : Deed) →
    Stand m s₀ r₀ d s → m.step s (spend d r₀) ≡ goes t e → Stand m s₀ r₀ (and_then d e) t
onward {State} {Stop} {m} {s₀} {r₀} lawful {d} {s} t e here p = record {
  made = 1 + here.made;
  pays = pays_both here.pays (does lawful s t (spend d r₀) e p).pays;
  whole = λ {q} g. subst (Runs m s₀ r₀) (same q) (here.whole (makes t e p (rw (spend_both d e r₀) g)));
}
  where
    same : (q : Course State Stop) → behind d here.made (behind e 1 q) ≡ behind (and_then d e) (1 + here.made) q
    same q =
        let n : q.steps + 1 + here.made ≡ q.steps + (1 + here.made) = omega arith in
        λ i. record { stop = q.stop; state = q.state; did = sym (and_then_lem d e q.did) i; steps = n i }

module _ {State Stop : Type 0} (m : Machine State Stop) (s₀ : State) (l : Lent) where
  pub record Here (out list : List ℕ) (s : State) (i j o p : ℕ) : Type 0 where
    pub x : i ≤ length l.x
    pub y : j ≤ length l.y
    pub room : o ≤ length l.out
    pub list_room : p ≤ length l.list
    pub out_length : length out ≡ length l.out
    pub list_length : length list ≡ length l.list
    pub out_behind : drop o out ≡ drop o l.out
    pub list_behind : drop p list ≡ drop p l.list
    pub stand : Stand m s₀ (supply l) (done l out list i j o p) s

  pub here_first : Here l.out l.list s₀ 0 0 0 0
  here_first = record {
    x = omega arith;
    y = omega arith;
    room = omega arith;
    list_room = omega arith;
    out_length = refl;
    list_length = refl;
    out_behind = refl;
    list_behind = refl;
    stand = start;
  }

  module _ (lawful : Lawful m) {out list : List ℕ} {s : State} {i j o p : ℕ} (here : Here out list s i j o p) where
    -- what lies before the loop is what is left of what was lent
    ahead_is : spend (done l out list i j o p) (supply l) ≡ ahead l i j o p
    ahead_is = rw (
      length-take-le i l.x here.x,
      length-take-le j l.y here.y,
      length-take-le o out (omega (arith, here.room, here.out_length)),
      length-take-le p list (omega (arith, here.list_room, here.list_length)),
    )

    pub goes_to : (t : State) (d : Deed) → m.step s (ahead l i j o p) ≡ goes t d → {i' j' o' p' : ℕ} {out' list' : List ℕ} →
        Took l.x i d.x i' → Took l.y j d.y j' → Wrote out o d.digits out' o' → Wrote list p d.divisors list' p' →
        (steps_left m l t i' j' o' < steps_left m l s i j o) × Here out' list' t i' j' o' p'
    goes_to t d e {i'} {j'} {o'} {p'} {out'} {list'} tx ty wo wl =
        let c = does lawful s t (ahead l i j o p) d e in
        let n = within c.pays in
        let x_fits : i' ≤ length l.x = omega (arith, n.0, here.x, tx.count, length-drop i l.x) in
        let y-fits : j' ≤ length l.y = omega (arith, n.1, here.y, ty.count, length-drop j l.y) in
        let out-fits : o' ≤ length l.out = omega (arith, c.pays.room, here.room, wo.count) in (
          omega (arith, c.costs, tx.count, ty.count, wo.count),
          record {
            x = x_fits;
            y = y-fits;
            room = out-fits;
            list_room = omega (arith, c.pays.list, here.list_room, wl.count);
            out_length = wo.same_length ∙ here.out_length;
            list_length = wl.same_length ∙ here.list_length;
            out_behind = wo.behind ∙ further out l.out o o' (omega (arith, wo.count)) here.out_behind;
            list_behind = wl.behind ∙ further list l.list p p' (omega (arith, wl.count)) here.list_behind;
            stand = subst (λ (a : Deed). Stand m s₀ (supply l) a t) (λ k. record { x = tx.front k; y = ty.front k; digits = wo.front k; divisors = wl.front k })
                (onward lawful t d here.stand (ap (m.step s) ahead_is ∙ e));
          },
        )

    whole : (new old : List ℕ) (n : ℕ) → n ≤ length new → drop n new ≡ drop n old → written (take n new) old ≡ new
    whole new old n h q = rw (length-take-le n new h, ← q) (take-append-drop n new)

    -- the lists hold what was written, and behind it what stood there
    pub record Ended (e : Stop) : Type 0 where
      pub stop : (run m s₀ (supply l)).stop ≡ e
      pub state : (run m s₀ (supply l)).state ≡ s
      pub did : (run m s₀ (supply l)).did ≡ done l out list i j o p
      pub out_is : written (take o out) l.out ≡ out
      pub list_is : written (take p list) l.list ≡ list

    pub ends_with : (e : Stop) → m.step s (ahead l i j o p) ≡ halts e → Ended e
    ends_with e q =
        let r = only lawful (here.stand.whole (stops e (ap (m.step s) ahead_is ∙ q))) in
        record {
          stop = ap (λ (a : Course State Stop). a.stop) r;
          state = ap (λ (a : Course State Stop). a.state) r;
          did = ap (λ (a : Course State Stop). a.did) r ∙ and_nothing (done l out list i j o p);
          out_is = whole out l.out o (omega (arith, here.room, here.out_length)) here.out_behind;
          list_is = whole list l.list p (omega (arith, here.list_room, here.list_length)) here.list_behind;
        }
