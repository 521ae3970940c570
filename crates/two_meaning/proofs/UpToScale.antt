-- "Equals, up to a positive scale", of eight numbers: p·A = q·B for some whole numbers p and q above 0. It goes from A to B and on to C, it goes through giving and absorbing,
-- and whatever is equal so makes the same point of two points.
-- So what a step does is said without its scale. Write X for the state and X' for the next one. Cancelling changes nothing (`up_cancelled`). Where c is given out, G_c·X' is X
-- (`up_given`): X' is pseudoinverse(G_c)·X cancelled, and G_c times that is det G_c times X. Where a is absorbed in x, X' is X(F_a x, y) and in y it is X(x, F_a y), by `up_cancelled`.
use Rattle.whole.proofs.Laws.{◌≡◌, sym, ◌∙◌, ap, subst, List, ◌*◌, ◌<◌, arith, ℤ, pos, ◌<ℤ◌, ◌⊗◌, #, ◌≗◌, law, up<}
use Rattle.plane.proofs.Laws.{Pair, SamePoint, apply, multiply_of, determinant_of, above_not_0, same_point}
use Rattle.bilinear.proofs.Laws.{Form, apply_two, into_x, into_y, times_form, given_form, scale_form, gcd8, cancel_form, apply_into_x, apply_into_y, apply_times, apply_scale_form, scale_scale_form, scale_one_form, into_x_scale, into_y_scale, times_scale, times_twice, times_into_x, times_into_y, into_x_twice, into_y_twice, into_y_into_x, times_given, cancel_scale}
use Rattle.meaning.proofs.Laws.{natural}
use native.Mathlib.Nat as N
use Rattle.two_meaning.specs.TwoSession.{UpToScaleForm}

-- ---- an equivalence

pub up_equal : {m n : Form} → m ≡ n → UpToScaleForm m n
up_equal e = record { p = 1; q = 1; p_above = omega arith; q_above = omega arith; equal = ap (scale_form (pos 1)) e }

pub up_turned : {m n : Form} → UpToScaleForm m n → UpToScaleForm n m
up_turned u = record { p = u.q; q = u.p; p_above = u.q_above; q_above = u.p_above; equal = sym u.equal }

-- p·A = q·B and k·B = l·C make (k·p)·A = (q·l)·C
pub up_trans : {m n o : Form} → UpToScaleForm m n → UpToScaleForm n o → UpToScaleForm m o
up_trans {m} {n} {o} u v = record {
  p = v.p * u.p;
  q = u.q * v.q;
  p_above = N.mul-pos v.p_above u.p_above;
  q_above = N.mul-pos u.q_above v.q_above;
  equal = sym (scale_scale_form (pos v.p) (pos u.p) m) ∙ ap (scale_form (pos v.p)) u.equal ∙ scale_scale_form (pos v.p) (pos u.q) n ∙
      ap (λ (z : ℤ). scale_form z n) (law 2 (λ a b. a ⊗ b ≗ b ⊗ a) tt (pos v.p) (pos u.q)) ∙
      sym (scale_scale_form (pos u.q) (pos v.p) n) ∙ ap (scale_form (pos u.q)) v.equal ∙ scale_scale_form (pos u.q) (pos v.q) o;
}

-- ---- through giving and absorbing: whatever factors go through

through : (f : Form → Form) → ((k : ℤ) (m : Form) → f (scale_form k m) ≡ scale_form k (f m)) → {m n : Form} → UpToScaleForm m n → UpToScaleForm (f m) (f n)
through f factor {m} {n} u = record {
  p = u.p;
  q = u.q;
  p_above = u.p_above;
  q_above = u.q_above;
  equal = sym (factor (pos u.p) m) ∙ ap f u.equal ∙ factor (pos u.q) n;
}

pub up_times : (p : List ℤ) {m n : Form} → UpToScaleForm m n → UpToScaleForm (times_form p m) (times_form p n)
up_times p = through (times_form p) (times_scale p)

pub up_into_x : (f : List ℤ) {m n : Form} → UpToScaleForm m n → UpToScaleForm (into_x m f) (into_x n f)
up_into_x f = through (λ m. into_x m f) (λ k m. into_x_scale k m f)

pub up_into_y : (f : List ℤ) {m n : Form} → UpToScaleForm m n → UpToScaleForm (into_y m f) (into_y n f)
up_into_y f = through (λ m. into_y m f) (λ k m. into_y_scale k m f)

-- ---- cancelling, and giving undone

pub up_cancelled : (m : Form) → 0 < gcd8 m → UpToScaleForm (cancel_form m) m
up_cancelled m above = record { p = gcd8 m; q = 1; p_above = above; q_above = omega arith; equal = cancel_scale m ∙ sym (scale_one_form m) }

up_scaled : (k : ℤ) (m : Form) → pos 0 <ℤ k → UpToScaleForm (scale_form k m) m
up_scaled k m above =
    let n = natural above in
    record {
      p = 1;
      q = n.0;
      p_above = omega arith;
      q_above = n.1;
      equal = scale_scale_form (pos 1) k m ∙ ap (λ (z : ℤ). scale_form z m) (law 1 (λ z. # 1 ⊗ z ≗ z) tt k ∙ sym n.2);
    }

pub up_given : (g : List ℤ) (m : Form) → pos 0 <ℤ determinant_of g → 0 < gcd8 (given_form g m) → UpToScaleForm (times_form g (cancel_form (given_form g m))) m
up_given g m above divisor =
    up_trans (up_times g (up_cancelled (given_form g m) divisor)) (up_trans (up_equal (times_given g m)) (up_scaled (determinant_of g) m above))

-- ---- the same point of two points

pub up_same : {m n : Form} → UpToScaleForm m n → (x y : Pair) → SamePoint (apply_two m x y) (apply_two n x y)
up_same {m} {n} u x y = same_point (pos u.p) (pos u.q) (above_not_0 (up< u.p_above)) (above_not_0 (up< u.q_above))
    (sym (apply_scale_form (pos u.p) m x y) ∙ ap (λ (f : Form). apply_two f x y) u.equal ∙ apply_scale_form (pos u.q) n x y)

-- ---- each kind of step, where P·X is Op(Q_x x, Q_y y) up to a positive scale

-- c is given out: P becomes P·G_c
pub gave_product : (p g : List ℤ) (x r : Form) → UpToScaleForm (times_form g (cancel_form (given_form g x))) x → UpToScaleForm (times_form p x) r →
    UpToScaleForm (times_form (multiply_of p g) (cancel_form (given_form g x))) r
gave_product p g x r u v = up_trans (up_equal (sym (times_twice p g (cancel_form (given_form g x))))) (up_trans (up_times p u) v)

-- a is absorbed, in x or in y: Q_x becomes Q_x·F_a, or Q_y does
pub absorbed_x_product : (p f qx qy : List ℤ) (x op : Form) → UpToScaleForm (cancel_form (into_x x f)) (into_x x f) →
    UpToScaleForm (times_form p x) (into_y (into_x op qx) qy) → UpToScaleForm (times_form p (cancel_form (into_x x f))) (into_y (into_x op (multiply_of qx f)) qy)
absorbed_x_product p f qx qy x op u v =
    up_trans (up_times p u) (up_trans (up_equal (times_into_x p x f)) (up_trans (up_into_x f v)
    (up_equal (sym (into_y_into_x (into_x op qx) f qy) ∙ ap (λ (m : Form). into_y m qy) (into_x_twice op qx f)))))

pub absorbed_y_product : (p f qx qy : List ℤ) (x op : Form) → UpToScaleForm (cancel_form (into_y x f)) (into_y x f) →
    UpToScaleForm (times_form p x) (into_y (into_x op qx) qy) → UpToScaleForm (times_form p (cancel_form (into_y x f))) (into_y (into_x op qx) (multiply_of qy f))
absorbed_y_product p f qx qy x op u v =
    up_trans (up_times p u) (up_trans (up_equal (times_into_y p x f)) (up_trans (up_into_y f v) (up_equal (into_y_twice (into_x op qx) qy f))))

-- and as points: X(r, t) is G_c of X'(r, t); X(F_a r, t), or X(r, F_a t), is X'(r, t)
pub gave_same : (g : List ℤ) (x : Form) → UpToScaleForm (times_form g (cancel_form (given_form g x))) x → (r t : Pair) →
    SamePoint (apply_two x r t) (apply g (apply_two (cancel_form (given_form g x)) r t))
gave_same g x u r t = subst (SamePoint (apply_two x r t)) (apply_times g (cancel_form (given_form g x)) r t) (up_same (up_turned u) r t)

pub absorbed_x_same : (f : List ℤ) (x : Form) → UpToScaleForm (cancel_form (into_x x f)) (into_x x f) → (r t : Pair) → SamePoint (apply_two x (apply f r) t) (apply_two (cancel_form (into_x x f)) r t)
absorbed_x_same f x u r t = subst (λ (z : Pair). SamePoint z (apply_two (cancel_form (into_x x f)) r t)) (apply_into_x x f r t) (up_same (up_turned u) r t)

pub absorbed_y_same : (f : List ℤ) (x : Form) → UpToScaleForm (cancel_form (into_y x f)) (into_y x f) → (r t : Pair) → SamePoint (apply_two x r (apply f t)) (apply_two (cancel_form (into_y x f)) r t)
absorbed_y_same f x u r t = subst (λ (z : Pair). SamePoint z (apply_two (cancel_form (into_y x f)) r t)) (apply_into_y x f r t) (up_same (up_turned u) r t)
