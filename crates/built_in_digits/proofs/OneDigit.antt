-- What a function answers for the digit k, where the digit asked for is k.
use Rattle.whole.proofs.Laws.{◌≡◌, ap, sym, ◌∙◌, List, ℕ, ℤ}

pub one_digit : (f : ℕ → List ℤ) {a k : ℕ} {r : List ℤ} → a ≡ k → r ≡ f k → r ≡ f a
one_digit f e p = p ∙ ap f (sym e)
