-- What four lengths are, where the test of them passes.
use Rattle.whole.proofs.Laws.{◌≡◌, refl, Bool, true, false, ◌&&◌, ℕ, arith, eqb, eqb-true}

both : (s t : Bool) → (s && t) ≡ true → (s ≡ true) × (t ≡ true)
both true t e = (refl, e)
both false t e = absurd (let z : ◌≡◌ {A = ℕ} 0 1 = cc in omega arith)

pub four_lengths : {a b c d w x y z : ℕ} → (eqb a w && eqb b x && eqb c y && eqb d z) ≡ true → (a ≡ w) × (b ≡ x) × (c ≡ y) × (d ≡ z)
four_lengths {a} {b} {c} {d} {w} {x} {y} {z} e =
    let p = both (eqb a w && eqb b x && eqb c y) (eqb d z) e in
    let q = both (eqb a w && eqb b x) (eqb c y) p.0 in
    let r = both (eqb a w) (eqb b x) q.0 in (eqb-true a w r.0, eqb-true b x r.1, eqb-true c y q.1, eqb-true d z p.1)
