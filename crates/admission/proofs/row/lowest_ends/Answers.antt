-- `admission::row::lowest_ends` meets its contract: what is handed of each end's two words is the greatest common divisor of its two numbers.
use Rattle.whole.proofs.Laws.{eq-eqb, ne_eqb, ◌≡◌, sym, ◌∙◌, ap, ℕ, eqb, ℤ, nat_abs, at, gcd, back_of_lem, held, Fits}
use Rattle.admission.proofs.row.lowest_ends.Goals.{After-divisor_of_two}
use Rattle.admission.proofs.row.lowest_ends.Goals as goal

-- the two numbers x and y of an end
lowest : (x y : ℤ) {g : ℕ} → Fits x → Fits y → g ≡ gcd (nat_abs (held x)) (nat_abs (held y)) → eqb g 1 ≡ eqb (gcd (nat_abs x) (nat_abs y)) 1
lowest x y p q e = ap (λ (g : ℕ). eqb g 1) (e ∙ (λ i. gcd (nat_abs (back_of_lem x p i)) (nat_abs (back_of_lem y q i))))

left_end : (c : After-divisor_of_two) → let w = c.args.w in eqb c.divisor_of_two.result 1 ≡ eqb (gcd (nat_abs (at w 0)) (nat_abs (at w 1))) 1
left_end c =
    let w = c.args.w in
    lowest (at w 0) (at w 1) c.divisor_of_two-arg-1.given c.divisor_of_two-arg-2-1.given c.divisor_of_two.ensures

pub returns-then-divisor_of_two-ne1 : goal.returns-then-divisor_of_two-ne1
returns-then-divisor_of_two-ne1 c = rw (sym (left_end c.before), ne_eqb _ _ c.if-divisor_of_two-ne1.true)

pub returns : goal.returns
returns c =
    let l = c.before.before.before in
    let w = l.args.w in
    rw (sym (left_end l.before), eq-eqb _ _ l.if-divisor_of_two-ne1.false)
    (lowest (at w 2) (at w 3) c.divisor_of_two-arg-3-1.given c.divisor_of_two-arg-4-1.given c.divisor_of_two-2.ensures)
