-- "if an entry leaves the range": one of the four entries is out of ±1,000,000,000 exactly if the test of the range fails.
use Rattle.whole.proofs.Laws.{◌≡◌, sym, ◌∙◌, false, true≢false, List, ◌⊎◌, inl, inr, ◌↔◌, ℕ, zero, suc, ◌≤◌, ◌<◌, dec_le, arith, ℤ, nat_abs, at, Within, within?, within_says, says_within, false_by}
use Rattle.exactly_when.specs.Lines.{Leaves}

entry_near : {b : ℕ} {m : List ℤ} → Within b m → (i : ℕ) → i < 4 → nat_abs (at m i) ≤ b
entry_near w zero k = w.n0.near
entry_near w (suc zero) k = w.n1.near
entry_near w (suc (suc zero)) k = w.n2.near
entry_near w (suc (suc (suc zero))) k = w.n3.near
entry_near w (suc (suc (suc (suc i)))) k = absurd (omega arith)

pub leaves_or_within : (m : List ℤ) → Leaves m ⊎ Within 1000000000 m
leaves_or_within m = elim (dec_le (nat_abs (at m 0)) 1000000000) [
  | no f ↦ inl (record { entry = 0; one_of_four = omega arith; out = omega arith })
  | yes p ↦ elim (dec_le (nat_abs (at m 1)) 1000000000) [
    | no f ↦ inl (record { entry = 1; one_of_four = omega arith; out = omega arith })
    | yes q ↦ elim (dec_le (nat_abs (at m 2)) 1000000000) [
      | no f ↦ inl (record { entry = 2; one_of_four = omega arith; out = omega arith })
      | yes r ↦ elim (dec_le (nat_abs (at m 3)) 1000000000) [
        | no f ↦ inl (record { entry = 3; one_of_four = omega arith; out = omega arith })
        | yes t ↦ inr (record { n0 = record { near = p }; n1 = record { near = q }; n2 = record { near = r }; n3 = record { near = t } })
      ]
    ]
  ]
]

pub leaves_exactly : (m : List ℤ) → (within? 1000000000 m ≡ false) ↔ Leaves m
leaves_exactly m = (
  λ e. elim (leaves_or_within m) [ inl l ↦ l | inr w ↦ absurd (true≢false (sym (says_within w) ∙ e)) ],
  λ l. false_by (within? 1000000000 m) (λ e. omega (arith, entry_near (within_says 1000000000 m e) l.entry l.one_of_four, l.out)),
)
