-- What one step does to the product and to the numbers, of any matrices.
-- Write P for the product of the output digits, X for the state, C for M cancelled and Q for the product of the absorbed digits, and let k·(P·X) = d·(C·Q).
--   b is given out:   X becomes X' with g·X' = pseudoinverse(G_b)·X, and P becomes P·G_b. So g·(P·G_b·X') = P·G_b·pseudoinverse(G_b)·X = det G_b·(P·X): k grows by g, and
--                     d by det G_b. And G_b(X'(t)) is X(t) again, as a point.
--   h is absorbed:    X becomes X' with g·X' = X·F_h, and Q becomes Q·F_h. So g·(P·X') = (P·X)·F_h: k grows by g. And X'(t) is X(F_h(t)), as a point.
use Rattle.whole.proofs.Laws.{◌≡◌, sym, ◌∙◌, ap, subst, List, ℕ, ◌*◌, ℤ, pos, ◌*ℤ◌, gcd4, ◌⊗◌, ◌≗◌, law, up<}
use Rattle.plane.proofs.Laws.{Pair, SamePoint, apply, determinant_of, pseudoinverse_of, multiply_of, cancel_of, scale_of, DetAbove, above_not_0, multiply_assoc, multiply_scale_left, multiply_scale_right, scale_scale, multiply_pseudoinverse, times_entries, cancel_times, apply_multiply, det_above_multiply, det_above_pseudoinverse, same_sym, same_trans, same_moves, same_redone, same_scaled, cancel_says}
use Rattle.meaning.specs.Names.{UpToScale}

-- ---- the product

-- the divisor times the cancelled matrix is the matrix, also behind a factor
uncancelled : (a n : List ℤ) → scale_of (pos (gcd4 n)) (multiply_of a (cancel_of n)) ≡ multiply_of a n
unfolding multiply_of
uncancelled a n = sym (multiply_scale_right (pos (gcd4 n)) a (cancel_of n)) ∙ ap (multiply_of a) (times_entries (cancel_times n))

pub scale_by : (k l : ℤ) (a : List ℤ) {b : List ℤ} → scale_of l a ≡ b → scale_of (k *ℤ l) a ≡ scale_of k b
scale_by k l a e = sym (scale_scale k l a) ∙ ap (scale_of k) e

pub scale_turned : (k l : ℤ) (a : List ℤ) → scale_of k (scale_of l a) ≡ scale_of l (scale_of k a)
scale_turned k l a = scale_scale k l a ∙ ap (λ (z : ℤ). scale_of z a) (law 2 (λ k l. k ⊗ l ≗ l ⊗ k) tt k l) ∙ sym (scale_scale l k a)

pub gave_scale : (k : ℕ) (d : ℤ) (p x r g : List ℤ) → scale_of (pos k) (multiply_of p x) ≡ scale_of d r →
    let n = multiply_of (pseudoinverse_of g) x in scale_of (pos (k * gcd4 n)) (multiply_of (multiply_of p g) (cancel_of n)) ≡ scale_of (d *ℤ determinant_of g) r
gave_scale k d p x r g e =
    let n = multiply_of (pseudoinverse_of g) x in
    let undone : multiply_of (multiply_of p g) n ≡ scale_of (determinant_of g) (multiply_of p x) =
    multiply_assoc p g n ∙ ap (multiply_of p) (multiply_pseudoinverse g x) ∙ multiply_scale_right (determinant_of g) p x in
    scale_by (pos k) (pos (gcd4 n)) (multiply_of (multiply_of p g) (cancel_of n)) (uncancelled (multiply_of p g) n ∙ undone) ∙
    scale_turned (pos k) (determinant_of g) (multiply_of p x) ∙ ap (scale_of (determinant_of g)) e ∙ scale_turned (determinant_of g) d r ∙ scale_scale d (determinant_of g) r

pub absorbed_scale : (k : ℕ) (d : ℤ) (p x c q f : List ℤ) → scale_of (pos k) (multiply_of p x) ≡ scale_of d (multiply_of c q) →
    let n = multiply_of x f in scale_of (pos (k * gcd4 n)) (multiply_of p (cancel_of n)) ≡ scale_of d (multiply_of c (multiply_of q f))
absorbed_scale k d p x c q f e =
    let n = multiply_of x f in
    scale_by (pos k) (pos (gcd4 n)) (multiply_of p (cancel_of n)) (uncancelled p n ∙ sym (multiply_assoc p x f)) ∙
    sym (multiply_scale_left (pos k) (multiply_of p x) f) ∙ ap (λ (z : List ℤ). multiply_of z f) e ∙ multiply_scale_left d (multiply_of c q) f ∙
    ap (scale_of d) (multiply_assoc c q f)

-- M is its divisor times M cancelled
pub job_scale : (k : ℕ) (d : ℤ) (m a q : List ℤ) → scale_of (pos k) a ≡ scale_of d (multiply_of (cancel_of m) q) → scale_of (pos (gcd4 m * k)) a ≡ scale_of d (multiply_of m q)
unfolding multiply_of
job_scale k d m a q e =
    scale_by (pos (gcd4 m)) (pos k) a e ∙ scale_turned (pos (gcd4 m)) d (multiply_of (cancel_of m) q) ∙
    ap (scale_of d) (sym (multiply_scale_left (pos (gcd4 m)) (cancel_of m) q) ∙ ap (λ (z : List ℤ). multiply_of z q) (times_entries (cancel_times m)))

-- ---- the numbers: the same points

pub cancelled_same : (m n : List ℤ) (t : Pair) → DetAbove m → DetAbove n → SamePoint (apply m (apply n t)) (apply (cancel_of (multiply_of m n)) t)
cancelled_same m n t k l =
    same_sym (subst (SamePoint (apply (cancel_of (multiply_of m n)) t)) (apply_multiply m n t) ((cancel_says (multiply_of m n) (det_above_multiply k l).above).same t))

pub gave_same : (g x : List ℤ) (t : Pair) → DetAbove g → DetAbove x → SamePoint (apply x t) (apply g (apply (cancel_of (multiply_of (pseudoinverse_of g) x)) t))
gave_same g x t k l = same_trans (same_redone k (apply x t)) (same_moves g (cancelled_same (pseudoinverse_of g) x t (det_above_pseudoinverse k) l))

-- "up to a positive scale" makes the same points
pub scale_same : {a b : List ℤ} → UpToScale a b → (t : Pair) → SamePoint (apply a t) (apply b t)
scale_same {a} {b} s t =
    same_trans (same_scaled (pos s.p) a t (above_not_0 (up< s.p_above)))
    (subst (λ (x : List ℤ). SamePoint (apply x t) (apply b t)) (sym s.equal) (same_sym (same_scaled (pos s.q) b t (above_not_0 (up< s.q_above)))))
