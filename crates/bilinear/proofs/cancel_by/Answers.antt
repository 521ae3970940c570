-- `bilinear::cancel_by` meets its contract: a divisor of 1 is 1 and leaves the eight numbers, `halved` has the case of 2, and else the two calls of `shared` find it.
use Rattle.whole.proofs.Laws.{◌≡◌, ◌∙◌, ap, subst, ℕ, ◌<◌, ◌∣◌, arith, gcd, gcd4}
use native.Mathlib.Nat.{eq-one_of_dvd-one, pos_of_dvd_of_pos}
use Rattle.bilinear.specs.Types.{Form}
use Rattle.bilinear.specs.Form.{form}
use Rattle.bilinear.specs.Lowest.{gcd8, cancel_form, divided_form, Divides8, WithinForm}
use Rattle.bilinear.proofs.Divisor8.{gcd8_divides, kept8, of_multiple8}
use Rattle.bilinear.proofs.Sizes.{gcd8_within}
use Rattle.std.proofs.Common.{rules}
use Rattle.bilinear.proofs.cancel_by.Goals as goal

-- the number that is found, by the two calls of `shared`, and what may be divided by it
module _ (m : Form) (d : ℕ) {e g : ℕ} (divides : gcd8 m ∣ d) (first : e ≡ gcd (gcd4 m.numerator) d) (second : g ≡ gcd (gcd4 m.denominator) e) where
  found : g ≡ gcd8 m
  found = second ∙ ap (gcd (gcd4 m.denominator)) first ∙ of_multiple8 m d divides

  by_it : 0 < d → WithinForm 200000000000 m → (Divides8 g m) × (0 < g) × (g < 9223372036854775808)
  by_it above w =
      let p : 0 < gcd8 m = pos_of_dvd_of_pos divides above in
      let l : gcd8 m < 9223372036854775808 = omega (arith, gcd8_within w p) in
      rw found (gcd8_divides m, p, l)

pub returns-then-d-eq1 : goal.returns-then-d-eq1
returns-then-d-eq1 c = kept8 c.args.m (search rules) (search rules) (eq-one_of_dvd-one (subst (λ (k : ℕ). gcd8 c.args.m ∣ k) c.if-d-eq1.true c.requires.2))

pub halved-requires : goal.halved-requires
halved-requires c = subst (λ (k : ℕ). gcd8 c.args.m ∣ k) c.if-d-eq2.true c.requires.2

pub quotients-requires : goal.quotients-requires
quotients-requires c = let b = by_it c.args.m c.args.d c.requires.2 c.shared.ensures c.shared-g.ensures c.requires.1 c.requires.0 in (b.0.over, b.1, b.2)

pub quotients-requires-2 : goal.quotients-requires-2
quotients-requires-2 c = let b = by_it c.args.m c.args.d c.requires.2 c.shared.ensures c.shared-g.ensures c.requires.1 c.requires.0 in (b.0.under, b.1, b.2)

pub returns : goal.returns
unfolding cancel_form
returns c =
    (λ i. form (c.quotients.ensures i) (c.quotients-2.ensures i)) ∙
    ap (divided_form c.args.m) (found c.args.m c.args.d c.requires.2 c.shared.ensures c.shared-g.ensures)
