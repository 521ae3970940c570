-- Deeds one after the other: they can be done as one, and leave the same.
use Rattle.whole.proofs.Laws.{◌≡◌, refl, ap, List, ◌++◌, append_assoc, append-nil, ℕ, ◌+◌, ◌-◌, ◌≤◌, arith, length, drop, length-append, drop-drop, drop-append-le}
use Rattle.runs.specs.Supply.{Supply, Deed, nothing, and_then, spend}
use Rattle.runs.specs.Asked.{Pays, join, cost}

-- ---- of one list: a front that is taken, and then another

taken_fits : (a l : List ℕ) → a ++ drop (length a) l ≡ l → length a ≤ length l
taken_fits a l e = omega (arith, ap length e, length-append a (drop (length a) l))

drop_both : (a b l : List ℕ) → drop (length b) (drop (length a) l) ≡ drop (length (a ++ b)) l
drop_both a b l = rw (drop-drop, length-append)

take_both : (a b l : List ℕ) → a ++ drop (length a) l ≡ l → b ++ drop (length b) (drop (length a) l) ≡ drop (length a) l → (a ++ b) ++ drop (length (a ++ b)) l ≡ l
take_both a b l e f = rw (← (drop_both a b l), append_assoc, f) e

-- ---- of deeds

pub nothing_pays : (r : Supply) → Pays nothing r
nothing_pays r = record { x = refl; y = refl; room = omega arith; list = omega arith }

pub spend_nothing : (r : Supply) → spend nothing r ≡ r
spend_nothing r =
    let p : r.room - 0 ≡ r.room = omega arith in
    let q : r.list - 0 ≡ r.list = omega arith in
    λ i. record { x = r.x; y = r.y; room = p i; list = q i }

pub pays_both : {d e : Deed} {r : Supply} → Pays d r → Pays e (spend d r) → Pays (and_then d e) r
pays_both {d} {e} {r} p q = record {
  x = take_both d.x e.x r.x p.x q.x;
  y = take_both d.y e.y r.y p.y q.y;
  room = omega (arith, p.room, q.room, length-append d.digits e.digits);
  list = omega (arith, p.list, q.list, length-append d.divisors e.divisors);
}

pub spend_both : (d e : Deed) (r : Supply) → spend e (spend d r) ≡ spend (and_then d e) r
spend_both d e r =
    let p : r.room - length d.digits - length e.digits ≡ r.room - length (d.digits ++ e.digits) = omega (arith, length-append d.digits e.digits) in
    let q : r.list - length d.divisors - length e.divisors ≡ r.list - length (d.divisors ++ e.divisors) = omega (arith, length-append d.divisors e.divisors) in
    λ i. record { x = drop_both d.x e.x r.x i; y = drop_both d.y e.y r.y i; room = p i; list = q i }

-- a deed leaves of a larger supply what it leaves of the smaller, and what is more
pub spend_join : {d : Deed} {r : Supply} (more : Supply) → Pays d r → spend d (join r more) ≡ join (spend d r) more
spend_join {d} {r} more p =
    let m : r.room + more.room - length d.digits ≡ r.room - length d.digits + more.room = omega (arith, p.room) in
    let l : r.list + more.list - length d.divisors ≡ r.list - length d.divisors + more.list = omega (arith, p.list) in
    λ i. record {
      x = drop-append-le (length d.x) r.x more.x (taken_fits d.x r.x p.x) i;
      y = drop-append-le (length d.y) r.y more.y (taken_fits d.y r.y p.y) i;
      room = m i;
      list = l i;
    }

-- "counts within the lengths"
pub within : {d : Deed} {r : Supply} → Pays d r → (length d.x ≤ length r.x) × (length d.y ≤ length r.y)
within {d} {r} p = (taken_fits d.x r.x p.x, taken_fits d.y r.y p.y)

pub cost_both : (d e : Deed) → cost (and_then d e) ≡ cost d + cost e
cost_both d e = omega (arith, length-append d.x e.x, length-append d.y e.y, length-append d.digits e.digits)

pub and_nothing : (d : Deed) → and_then d nothing ≡ d
and_nothing d = λ i. record { x = append-nil d.x i; y = append-nil d.y i; digits = append-nil d.digits i; divisors = append-nil d.divisors i }

pub and_then_lem : (a b c : Deed) → and_then (and_then a b) c ≡ and_then a (and_then b c)
and_then_lem a b c = λ i. record {
  x = append_assoc a.x b.x c.x i;
  y = append_assoc a.y b.y c.y i;
  digits = append_assoc a.digits b.digits c.digits i;
  divisors = append_assoc a.divisors b.divisors c.divisors i;
}
