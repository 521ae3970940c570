-- Answers that decide: `all` over a range decides what holds exactly if each of its numbers passes; and who decides a sentence decides one that says the same.
use Rattle.std.specs.Bool.{MatchBool}
use Rattle.std.specs.List.{AllWithin, HoldsAt, range_with_len}
use Rattle.std.proofs.lemmas.List.FromFn.{get_or-range_with_len, length-range_with_len}
use native.Mathlib.Nat.{zero-add}
use Rattle.whole.proofs.Laws.{sym, ◌∙◌, subst, Bool, true, false, false≢true, true≢false, List, ℕ, ◌<◌, arith, length}
use Rattle.built_in.specs.Recognised.{Decides}

-- the numbers below n
abbrev range : ℕ → List ℕ
range n = range_with_len 0 n

pub from_all : {r : Bool} (n : ℕ) (Yes : ℕ → Type 0) {P : Type 0} →
    MatchBool r (AllWithin Yes (range n) 0 (length (range n))) ((k : ℕ) × (k < length (range n)) × HoldsAt (λ j. Yes j → ⊥) (range n) k) →
    (((j : ℕ) → j < n → Yes j) → P) → (P → (j : ℕ) → j < n → Yes j) → Decides r P
from_all {r = true} n Yes m to from = record {
  yes = λ e. to (λ j h. subst Yes (get_or-range_with_len 0 n j 0 h ∙ zero-add j) (m j 0 (omega arith) (omega (arith, length-range_with_len 0 n, h))));
  no = λ e. absurd (true≢false e);
}
from_all {r = false} n Yes m to from = record {
  yes = λ e. absurd (false≢true e);
  no = λ e p. let h : m.0 < n = omega (arith, length-range_with_len 0 n, m.1) in m.2 0 (subst Yes (sym (get_or-range_with_len 0 n m.0 0 h ∙ zero-add m.0)) (from p m.0 h));
}

pub same_sentence : {r : Bool} {P Q : Type 0} → (P → Q) → (Q → P) → Decides r P → Decides r Q
same_sentence to from d = record { yes = λ e. to (d.yes e); no = λ e q. d.no e (from q) }
