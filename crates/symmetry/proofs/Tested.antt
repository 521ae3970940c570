-- For rows that are written out: the test of what turning and reflecting ask, which the checker runs.
use Rattle.whole.proofs.Laws.{◌≡◌, Bool, true, ◌&&◌, List, ℤ, pos, lt_z, both_true, lt_true, within?, within_says}
use Rattle.plane.proofs.Laws.{det, left, right, determinant_of}
use Rattle.symmetry.specs.Row.{transformation_in, interval_in, SmallRow, Turnable}

abbrev pub small? : List ℤ → Bool
small? r = within? 100 (transformation_in r) && within? 100 (interval_in r)

abbrev pub turnable? : List ℤ → Bool
turnable? r = small? r && (lt_z (pos 0) (determinant_of (transformation_in r)) && lt_z (det (left (interval_in r)) (right (interval_in r))) (pos 0))

pub small_says : (r : List ℤ) → small? r ≡ true → SmallRow r
small_says r e =
    let p = both_true (within? 100 (transformation_in r)) (within? 100 (interval_in r)) e in
    record { numbers_f = within_says 100 (transformation_in r) p.0; numbers_w = within_says 100 (interval_in r) p.1 }

pub turnable_says : (r : List ℤ) → turnable? r ≡ true → Turnable r
turnable_says r e =
    let p = both_true (small? r) (lt_z (pos 0) (determinant_of (transformation_in r)) && lt_z (det (left (interval_in r)) (right (interval_in r))) (pos 0)) e in
    let q = both_true (lt_z (pos 0) (determinant_of (transformation_in r))) (lt_z (det (left (interval_in r)) (right (interval_in r))) (pos 0)) p.1 in
    record { small = small_says r p.0; above = record { above = lt_true _ _ q.0 }; interval = record { below = lt_true _ _ q.1 } }
