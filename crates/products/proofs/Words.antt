-- A sum of two products of numbers that words hold: what `dot` asks, and what its answer is then; and what `multiply` asks of two matrices.
use Rattle.whole.proofs.Laws.{◌≡◌, ◌∙◌, sym, subst, List, [], ◌∷◌, ℕ, ◌+◌, ◌*◌, ◌^◌, T, ltb, ℤ, ◌+ℤ◌, ◌*ℤ◌, Near, Within, ok_back, held, Fits, Stands}
use Rattle.plane.proofs.Laws.{Products, FactorsFit}

near_held : {s : ℕ} {z : ℤ} → Stands s (held z) z → Near s (held z)
near_held {s} h = subst (Near s) (sym h.is) h.near

module _ {s t : ℕ} {a b x y : ℤ} (ha : Stands s (held a) a) (hb : Stands s (held b) b) (hx : Stands t (held x) x) (hy : Stands t (held y) y) where
  pub dot_asks : T (ltb (s * t + s * t) (2 ^ 63)) → Products (held a ∷ held b ∷ held x ∷ held y ∷ [])
  dot_asks small = record { a = s; b = t; n0 = near_held ha; n1 = near_held hb; n2 = near_held hx; n3 = near_held hy; small = small }

  pub dot_held : {r : ℤ} → Fits r → r ≡ held a *ℤ held x +ℤ held b *ℤ held y → held r ≡ a *ℤ x +ℤ b *ℤ y
  dot_held fits e = ok_back fits ∙ e ∙ (λ i. ha.is i *ℤ hx.is i +ℤ hb.is i *ℤ hy.is i)

-- two matrices within bounds
pub factors_fit : {s t : ℕ} {m n : List ℤ} → Within s m → Within t n → T (ltb (s * t + s * t) (2 ^ 63)) → FactorsFit m n
factors_fit {s} {t} v w small = record { a = s; b = t; first = v; second = w; small = small }
