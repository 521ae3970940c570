-- The laws of texts that are written into a buffer.
use Rattle.whole.proofs.Laws.{◌≡◌, sym, ap, ap₂, ◌∙◌, subst, List, [], ◌∷◌, ◌++◌, ℕ, suc, ◌+◌, ◌≤◌, le_trans, arith, length, drop, set, length-append, sets, written}
use lib.Seq.{sets-eq}
use Rattle.text.specs.Wrote.{Wrote}

sets_sets : (s t l : List ℕ) (i : ℕ) → sets l i (s ++ t) ≡ sets (sets l i s) (i + length s) t
sets_sets [] t l i = let e : i ≡ i + 0 = omega arith in ap (λ (k : ℕ). sets l k t) e
sets_sets (a ∷ s) t l i =
    let e : suc i + length s ≡ i + suc (length s) = omega arith in
    sets_sets s t (set l i a) (suc i) ∙ ap (λ (k : ℕ). sets (sets (set l i a) (suc i) s) k t) e

-- this, then that
pub and_then_lem : {old s mid t new : List ℕ} {at j m k r : ℕ} → Wrote old at s j mid m → Wrote mid m t k new r → Wrote old at (s ++ t) (j + k) new r
and_then_lem {old} {s} {mid} {t} {new} {at} p q = record {
  place = omega (arith, length-append s t, p.place, q.place);
  few = omega (arith, length-append s t, p.few, q.few);
  bytes = q.bytes ∙ ap₂ (λ (l : List ℕ) (i : ℕ). sets l i t) p.bytes p.place ∙ sym (sets_sets s t old at);
}

-- the same text under another name; a larger bound
pub wrote_as : {old s t new : List ℕ} {at j r : ℕ} → s ≡ t → Wrote old at s j new r → Wrote old at t j new r
wrote_as {old} {s} {t} {new} {at} {j} {r} e p = subst (λ (x : List ℕ). Wrote old at x j new r) e p

pub at_most : {old s new : List ℕ} {at j k r : ℕ} → j ≤ k → Wrote old at s j new r → Wrote old at s k new r
at_most h p = record { place = p.place; few = le_trans p.few h; bytes = p.bytes }

-- what is written from the front on: the text, and behind it what stood there
pub from_front : {old s new : List ℕ} {j r : ℕ} → Wrote old 0 s j new r → j ≤ length old → new ≡ s ++ drop r old
from_front {old} {s} p h = p.bytes ∙ sets-eq s old 0 (omega (arith, p.few)) ∙ ap (λ (k : ℕ). s ++ drop k old) (sym p.place)

pub over_front : {old s new : List ℕ} {j r : ℕ} → Wrote old 0 s j new r → j ≤ length old → new ≡ written s old
over_front {old} {s} p h = let e : 0 + length s ≡ length s = omega arith in from_front p h ∙ ap (λ (k : ℕ). s ++ drop k old) (p.place ∙ e)

-- ---- field by field: what is left of a text; with it, the whole is written

pub record Left (old : List ℕ) (at : ℕ) (whole mid : List ℕ) (p : ℕ) (left : List ℕ) : Type 0 where
  pub place : p + length left ≡ at + length whole
  pub bytes : sets mid p left ≡ sets old at whole

module _ {old whole mid new left : List ℕ} {at p k r : ℕ} (s : List ℕ) (l : Left old at whole mid p left) (w : Wrote mid p s k new r) where
  pub left_less : (rest : List ℕ) → left ≡ s ++ rest → Left old at whole new r rest
  left_less rest e = record {
    place = omega (arith, length-append s rest, ap length e, l.place, w.place);
    bytes =
        ap₂ (λ (x : List ℕ) (i : ℕ). sets x i rest) w.bytes w.place ∙ sym (sets_sets s rest mid p) ∙ ap (sets mid p) (sym e) ∙ l.bytes;
  }

  pub left_none : {most : ℕ} → left ≡ s → r ≤ at + most → Wrote old at whole most new r
  left_none e h = record {
    place = omega (arith, ap length e, l.place, w.place);
    few = omega (arith, ap length e, l.place, w.place);
    bytes = w.bytes ∙ ap (sets mid p) (sym e) ∙ l.bytes;
  }
