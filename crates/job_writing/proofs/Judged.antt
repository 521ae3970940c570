-- What `write` judges, number by number, as its code goes: a system as admission does, whose 3 is the wrong count's; a matrix as opening does; a word by its length.
use Rattle.whole.proofs.Laws.{◌≡◌, refl, sym, ap, ◌∙◌, List, inl, inr, ℕ, ◌≤◌, ◌<◌, dec_le, arith, lt-ltb, le-ltb, length, ℤ, passed, decided}
use Rattle.digits.proofs.Laws.{StoredSystem, system_of}
use Rattle.admission.proofs.Laws.{refusal_number, admission_of, admitted_only}
use Rattle.refusals.specs.Types.{Refusal, WrongCount, Ok, Err}
use Rattle.refusals.specs.Numbers.{Judgement, number_of, outcome_number}
use Rattle.refusals.proofs.Numbers.{numbered}
use Rattle.opening.proofs.Laws.{opening_number, opening_of}
use Rattle.sections.proofs.Laws.{judged, counted_judged, unwritable_judged}
use Rattle.sections.specs.Section.{count_low, count_high}
use Rattle.job_sections.proofs.Laws.{Contents, layout_of, system, matrix, word, system_lawful, system_judges}
use Rattle.job_writing.specs.Types.{NotWritten, Written}
use Rattle.job_writing.specs.Writing.{judged_of}

-- "3: a system has 0 or more than 16 digits" is admission's answer too
system_judged : (s : StoredSystem) → judged system s ≡ refusal_number (admission_of (system_of s))
system_judged s = elim (dec_le 1 s.count) [
  | no h ↦ (unwritable_judged system system_lawful system_judges {v = s} (count_low (omega arith))).0 ∙ ap refusal_number (admitted_only (system_of s) (Err WrongCount) (inl (omega arith)))
  | yes h ↦ elim (dec_le s.count 16) [
    | no k ↦ (unwritable_judged system system_lawful system_judges {v = s} (count_high (omega arith))).0 ∙ ap refusal_number (admitted_only (system_of s) (Err WrongCount) (inr (omega arith)))
    | yes k ↦ counted_judged system system_lawful system_judges {v = s} (record { some = h; few = k })
  ]
]

matrix_judged : (m : List ℤ) → judged matrix m ≡ opening_number (opening_of m)
unfolding judged
matrix_judged m = refl

word_long : (w : List ℕ) → 4096 < length w → judged word w ≡ 5
unfolding judged
word_long w h = rw (lt-ltb 4096 (length w) h, le-ltb (length w) 0 (omega arith))

word_short : (w : List ℕ) → length w ≤ 4096 → judged word w ≡ 0
unfolding judged
word_short w h = rw (le-ltb 4096 (length w) h, le-ltb (length w) 0 (omega arith))

-- ---- one law for each way, of the judgements that the code has: i of the input system, o of the output system, m of the matrix

module _ (c : Contents) {i : Judgement} (in_is : i ≡ admission_of (system_of c.input)) where
  input : judged system c.input ≡ outcome_number i
  input = system_judged c.input ∙ ap outcome_number (sym in_is)

  pub input_refused : {r : Refusal} → i ≡ Err r → NotWritten (number_of r) 0 ≡ judged_of c
  unfolding judged_of
  input_refused {r} e = let n = input ∙ ap outcome_number e in sym (decided _ _ (λ z. omega (arith, numbered r, n, z)) ∙ ap (λ (k : ℕ). NotWritten k 0) n)

  module _ {u : Unit {0}} (in_0 : i ≡ Ok u) {o : Judgement} (out_is : o ≡ admission_of (system_of c.output)) where
    output : judged system c.output ≡ outcome_number o
    output = system_judged c.output ∙ ap outcome_number (sym out_is)

    passed_input : judged system c.input ≡ 0
    passed_input = input ∙ ap outcome_number in_0

    pub output_refused : {r : Refusal} → o ≡ Err r → NotWritten (number_of r) 1 ≡ judged_of c
    unfolding judged_of
    output_refused {r} e =
        let n = output ∙ ap outcome_number e in
        sym (passed _ _ passed_input ∙ decided _ _ (λ z. omega (arith, numbered r, n, z)) ∙ ap (λ (k : ℕ). NotWritten k 1) n)

    module _ {v : Unit {0}} (out_0 : o ≡ Ok v) {m : Judgement} (matrix_is : m ≡ opening_of c.matrix) where
      entries : judged matrix c.matrix ≡ outcome_number m
      entries = matrix_judged c.matrix ∙ ap outcome_number (sym matrix_is)

      passed_output : judged system c.output ≡ 0
      passed_output = output ∙ ap outcome_number out_0

      pub matrix_refused : {r : Refusal} → m ≡ Err r → NotWritten (number_of r) 2 ≡ judged_of c
      unfolding judged_of
      matrix_refused {r} e =
          let n = entries ∙ ap outcome_number e in
          sym (passed _ _ passed_input ∙ passed _ _ passed_output ∙ decided _ _ (λ z. omega (arith, numbered r, n, z)) ∙ ap (λ (k : ℕ). NotWritten k 2) n)

      module _ {w : Unit {0}} (matrix_0 : m ≡ Ok w) where
        passed_matrix : judged matrix c.matrix ≡ 0
        passed_matrix = entries ∙ ap outcome_number matrix_0

        pub word_refused : 4096 < length c.word → NotWritten 5 3 ≡ judged_of c
        unfolding judged_of
        word_refused h =
            let w = word_long c.word h in
            sym (passed _ _ passed_input ∙ passed _ _ passed_output ∙ passed _ _ passed_matrix ∙ decided _ _ (λ y. omega (arith, w)) ∙ ap (λ (k : ℕ). NotWritten k 3) w)

        pub not_refused : length c.word ≤ 4096 → Written (length (layout_of c)) ≡ judged_of c
        unfolding judged_of
        not_refused h = sym (passed _ _ passed_input ∙ passed _ _ passed_output ∙ passed _ _ passed_matrix ∙ passed _ _ (word_short c.word h))
