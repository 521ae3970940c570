-- The sentences of demand 3, read off what is meant (`Meant`, Moments): from any state of a session to a later one, and from the opened state on.
-- There is one list of absorbed digits and no other, since the held one is known and went in last. The product's equation has a scale above 0 on both sides; and
-- matrices that are equal up to a positive scale move every number to the same point.
use Rattle.whole.proofs.Laws.{◌≡◌, sym, ◌∙◌, ap, subst, List, ◌++◌, ℕ, ◌*◌, ◌<◌, ℤ, pos, +ℤ_idl, ◌<ℤ◌, gcd4, gap, ≤-of-<, down<}
use Rattle.plane.proofs.Laws.{Pair, apply, multiply_of, cancel_of, SamePoint, scale_of, apply_multiply, point_moves, divisor_above, DetAbove}
use Rattle.digits.proofs.Laws.{System}
use Rattle.runs.proofs.Laws.{Deed}
use Rattle.states.proofs.Laws.{Held, State, opened}
use Rattle.steps.proofs.Laws.{setting}
use mathlib.Core.List.{append_cancel_right}
use native.Mathlib.Nat as N
use Rattle.meaning.specs.Names.{named_from, product_of, determinants_of, times_all, held_digits, OfTheAbsorbed, UpToScale}
use Rattle.meaning.specs.Session.{ProductHolds, ScaleNamed, NamedHolds, NumbersHold, ToCome}
use Rattle.meaning.proofs.Products.{product_names}
use Rattle.meaning.proofs.OneStep.{job_scale, scale_same}
use Rattle.meaning.proofs.Moments.{MeantBy}

-- what holds of the absorbed digits holds of any list that is theirs
pub of_the : {bytes : List ℕ} {h : Held} {Claim : List ℕ → Type 0} → OfTheAbsorbed bytes h Claim → (absorbed : List ℕ) → absorbed ++ held_digits h ≡ bytes → Claim absorbed
of_the {Claim = Claim} o absorbed e = subst Claim (sym (o.no_other absorbed e)) o.holds

-- and there is no other list
pub the_absorbed : (absorbed : List ℕ) {bytes : List ℕ} (h : Held) {Claim : List ℕ → Type 0} → absorbed ++ held_digits h ≡ bytes → Claim absorbed → OfTheAbsorbed bytes h Claim
the_absorbed absorbed h e c = record {
  absorbed = absorbed;
  with_the_held = e;
  no_other = λ other f. append_cancel_right other absorbed (held_digits h) (f ∙ sym e);
  holds = c;
}

-- a whole number above 0 is a natural one
pub natural : {z : ℤ} → pos 0 <ℤ z → (n : ℕ) × (0 < n) × (pos n ≡ z)
natural h =
    let g = gap (≤-of-< h) in
    let e = g.1 ∙ +ℤ_idl (pos g.0) in
    (g.0, down< (subst (λ (z : ℤ). pos 0 <ℤ z) e h), sym e)

-- what two products make of a number, where they are equal up to a positive scale
product_same : (a b : System) (given absorbed : List ℕ) (x c : List ℤ) → UpToScale (multiply_of (product_of b given) x) (multiply_of c (product_of a absorbed)) → (t : Pair) →
    SamePoint (named_from b given (apply x t)) (apply c (named_from a absorbed t))
product_same a b given absorbed x c u t =
    rw (apply_multiply (product_of b given) x t, apply_multiply c (product_of a absorbed) t, product_names b given (apply x t), product_names a absorbed t) at (scale_same u t)

-- ---- from any state on

module _ {a b : System} {o : State} (done : Deed) {s : State} (h : MeantBy (setting a b) o done s) where
  pub meant_absorbed : {Claim : List ℕ → Type 0} → Claim h.absorbed → OfTheAbsorbed (held_digits o.held ++ done.x) s.held Claim
  meant_absorbed = the_absorbed h.absorbed s.held h.with_the_held

  -- both sides scaled by numbers above 0: those of `Meant`, and for another matrix c in the place of o's what makes it equal
  scaled : (n : ℕ) (c : List ℤ) → 0 < n →
      scale_of (pos n) (multiply_of (product_of b done.digits) s.matrix) ≡ scale_of (determinants_of b done.digits) (multiply_of c (product_of a h.absorbed)) →
      UpToScale (multiply_of (product_of b done.digits) s.matrix) (multiply_of c (product_of a h.absorbed))
  scaled n c above e =
      let q = natural h.outputs_above in
      record { p = n; q = q.0; p_above = above; q_above = q.1; equal = e ∙ ap (λ (z : ℤ). scale_of z (multiply_of c (product_of a h.absorbed))) (sym q.2) }

  pub meant_to_come : ToCome a b o done s
  meant_to_come = meant_absorbed (λ t point.
      product_same a b done.digits h.absorbed s.matrix o.matrix (scaled (times_all done.divisors) o.matrix h.scale_above h.scale) t)

-- ---- from the opened state on

module _ {a b : System} {m : List ℤ} (above : DetAbove m) (done : Deed) {s : State} (h : MeantBy (setting a b) (opened (cancel_of m)) done s) where
  -- M is its divisor times M cancelled
  job_product : UpToScale (multiply_of (product_of b done.digits) s.matrix) (multiply_of m (product_of a h.absorbed))
  job_product =
      let k = times_all done.divisors in
      scaled done h (gcd4 m * k) m (N.mul-pos (divisor_above above) h.scale_above)
      (job_scale k (determinants_of b done.digits) m (multiply_of (product_of b done.digits) s.matrix) (product_of a h.absorbed) h.scale)

  pub meant_product : ProductHolds a b m done s
  meant_product = meant_absorbed done h job_product

  pub meant_scale : ScaleNamed a b m done s
  meant_scale = meant_absorbed done h h.scale

  pub meant_named : NamedHolds a b m done s
  meant_named = meant_absorbed done h (λ t point. record {
    still_to_come = point_moves h.sound.above point;
    same_number = product_same a b done.digits h.absorbed s.matrix m job_product t;
  })

  pub meant_numbers : NumbersHold a b m done s
  meant_numbers = meant_absorbed done h (λ t point each first. h.intervals t each first)
