-- `products::multiply` meets its contract: each entry is what `dot` ensures of four entries, which are read back as they are.
use Rattle.whole.proofs.Laws.{List, ℕ, ℤ, at, held, Within, Fits, Stands, arith}
use Rattle.plane.proofs.Laws.{multiply_of, four_equal, read}
use Rattle.products.proofs.Words.{dot_held}
use Rattle.products.proofs.multiply.Goals as goal

-- four entries that were read, within b
pub record Entries (b : ℕ) (m : List ℤ) : Type 0 where
  pub e0 : Stands b (held (at m 0)) (at m 0)
  pub e1 : Stands b (held (at m 1)) (at m 1)
  pub e2 : Stands b (held (at m 2)) (at m 2)
  pub e3 : Stands b (held (at m 3)) (at m 3)

entries : {b : ℕ} {m : List ℤ} → Within b m → Fits (at m 0) → Fits (at m 1) → Fits (at m 2) → Fits (at m 3) → Entries b m
entries w f g h k = record { e0 = read f w.n0; e1 = read g w.n1; e2 = read h w.n2; e3 = read k w.n3 }

pub returns : goal.returns
unfolding multiply_of
returns c =
    let m = entries c.requires.first (omega arith) (omega arith) (omega arith) (omega arith) in
    let n = entries c.requires.second (omega arith) (omega arith) (omega arith) (omega arith) in
    four_equal
    (dot_held m.e0 m.e1 n.e0 n.e2 c.dot.type_inv c.dot.ensures)
    (dot_held m.e0 m.e1 n.e1 n.e3 c.dot-2.type_inv c.dot-2.ensures)
    (dot_held m.e2 m.e3 n.e0 n.e2 c.dot-3.type_inv c.dot-3.ensures)
    (dot_held m.e2 m.e3 n.e1 n.e3 c.dot-4.type_inv c.dot-4.ensures)
