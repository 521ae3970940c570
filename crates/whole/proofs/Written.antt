-- A lent list after something was written into it: `written new out`, that is new, and behind it what stood there.
use Rattle.whole.proofs.Base.{◌≡◌, sym, ap, ◌∙◌, List, ◌++◌, append_assoc, append-nil, ℕ, ◌-◌, ◌≤◌, arith, length, take, drop, length-append, length-drop, drop-drop, drop-append-le, drop_of_length-le, take_all, take-append_seam}
use Rattle.whole.specs.Written.{written}
use lib.Seq.{drop-append_seam}
use borrow.Rule.Slice.PartMut.{put_mid}

-- "Bytes of the output beyond the written ones are unchanged."
pub behind_unchanged : (new out : List ℕ) → drop (length new) (written new out) ≡ drop (length new) out
behind_unchanged new out = drop-append_seam new (drop (length new) out)

pub front_written : (new out : List ℕ) → take (length new) (written new out) ≡ new
front_written new out = take-append_seam new (drop (length new) out)

pub length_written : (new out : List ℕ) → length new ≤ length out → length (written new out) ≡ length out
length_written new out h = omega (arith, length-append new (drop (length new) out), length-drop (length new) out)

-- written twice, the second time into what was left and more
pub written_both : (a b out more : List ℕ) → length a ≤ length out → written (a ++ b) (out ++ more) ≡ a ++ written b (drop (length a) out ++ more)
written_both a b out more h = rw (append_assoc, length-append, ← (drop-drop (length b) (length a) (out ++ more)), drop-append-le)

-- what is left of it, and the same in these words
pub room_left : (new out : List ℕ) → length out - length new ≡ length (drop (length new) (written new out))
room_left new out = sym (ap length (behind_unchanged new out) ∙ length-drop (length new) out)

pub written_twice : (new next out more : List ℕ) → length new ≤ length out →
    written (new ++ next) (out ++ more) ≡ take (length new) (written new out) ++ written next (drop (length new) (written new out) ++ more)
written_twice new next out more h = rw (front_written new out, behind_unchanged new out) (written_both new next out more h)

-- ---- "each section is written into the rest of the buffer behind the ones before it"

-- next written into the rest behind new, which has n bytes
written_behind : (new next out : List ℕ) {n : ℕ} → length new ≡ n → take n (written new out) ++ written next (drop n (written new out)) ≡ written (new ++ next) out
written_behind new next out e = rw (← e, front_written new out, behind_unchanged new out, append_assoc, length-append, ← (drop-drop (length next) (length new) out))

-- as code does it: the part of a buffer from the place n on is lent, and comes back
pub put_behind : (new next out : List ℕ) {n : ℕ} {mid rest : List ℕ} → mid ≡ written new out → length new ≡ n → rest ≡ written next (take (length mid - n) (drop n mid)) →
    put_mid n (length mid - n) mid rest ≡ written (new ++ next) out
put_behind new next out {n} {mid} {rest} m e r =
    let all : length (drop n mid) ≤ length mid - n = omega (arith, length-drop n mid) in
    ap (λ (l : List ℕ). take n mid ++ (rest ++ l)) (drop_of_length-le (drop n mid) all) ∙ ap (λ (l : List ℕ). take n mid ++ l) (append-nil rest) ∙
    ap (λ (l : List ℕ). take n mid ++ l) (r ∙ ap (written next) (take_all (length mid - n) (drop n mid) all)) ∙
    ap (λ (l : List ℕ). take n l ++ written next (drop n l)) m ∙ written_behind new next out e
