-- A search for the digit that fits whose loop is written out: where it finds one, and where it has tried all.
use Rattle.whole.proofs.Laws.{◌≡◌, sym, ap, true, List, ℕ, ◌<◌, ◌≤◌, ℤ, Standing, hits, ends}
use Rattle.digits.proofs.Laws.{System}
use Rattle.fitting.proofs.Laws.{Some, None, fitting, fits?, fitting_of}

module _ (s : System) (image : List ℤ) {b : ℕ} (before : Standing (fits? s image) s.count b) where
  pub found : b < s.count → fits? s image b ≡ true → Some b ≡ fitting (fitting_of s image)
  unfolding fitting_of
  found below e = sym (ap fitting (hits before below e))

  pub nowhere : s.count ≤ b → None ≡ fitting (fitting_of s image)
  unfolding fitting_of
  nowhere all = sym (ap fitting (ends before all))
