-- Every interval of B is narrower than a right angle: the checker computes it of the table that document 01 prints. So a wide image is included in none of them.
use Rattle.whole.proofs.Laws.{◌≡◌, refl, sym, ap, Bool, true, ◌&&◌, List, ℕ, arith, lt_z, lt_true, both_true, pos, ℤ, every_below?, every_passes, first, none_first}
use Rattle.plane.proofs.Laws.{Interval, det, left, right, dot}
use Rattle.inclusion.proofs.Laws.{wide?, wide_not_included}
use Rattle.digits.proofs.Laws.{table_of, printed_b, interval, interval_by, four_by}
use Rattle.fitting.proofs.Laws.{None, fitting, fits?, fitting_of}

-- an interval narrower than a right angle
narrow? : List ℤ → Bool
narrow? w = lt_z (det (left w) (right w)) (pos 0) && lt_z (pos 0) (dot (left w) (right w))

abbrev narrow_digit? : ℕ → Bool
narrow_digit? a = narrow? (interval (table_of printed_b) a)

all_narrow : every_below? narrow_digit? 8 ≡ true
unfolding first narrow? interval_by four_by
all_narrow = refl

pub wide_in_none : (image : List ℤ) → Interval image → wide? image ≡ true → None ≡ fitting (fitting_of (table_of printed_b) image)
unfolding fitting_of narrow?
wide_in_none image p e = sym (ap fitting (none_first (fits? (table_of printed_b) image) 8 0 (λ a l h.
    let w = interval (table_of printed_b) a in
    let n = both_true (lt_z (det (left w) (right w)) (pos 0)) (lt_z (pos 0) (dot (left w) (right w))) (every_passes narrow_digit? 8 all_narrow a (omega arith)) in
    wide_not_included p (record { below = lt_true _ _ n.0 }) (lt_true _ _ n.1) e)))
