-- A value that is to be written is judged exactly as the words say, and as the reader judges what is written of it.
use Rattle.whole.proofs.Laws.{◌≡◌, sym, ap, ◌∙◌, subst, List, ◌++◌, ◌⊎◌, inl, inr, ℕ, ◌≤◌, mod-add-div, eq-zero-or-pos, dec_le, arith, lt-ltb, le-ltb}
use Rattle.sections.specs.Bytes.{count_of}
use Rattle.sections.specs.Section.{too_few, too_many, Section, bytes_of, number_of, Counted, Writable, Unwritable, count_low, count_high, contents, judged, Told, Lawful, Judges}
use Rattle.sections.proofs.Sections.{Begins, begins, present_number, absent_decides}

module _ {A : Type 0} (s : Section A) (l : Lawful s) (j : Judges s) where
  module _ {v : A} where
    -- a count that is right leaves it to the contents
    pub counted_judged : Counted s v → judged s v ≡ s.number v
    unfolding judged
    counted_judged c = rw (le-ltb (s.count v) s.limits.least c.some, le-ltb s.limits.most (s.count v) c.few)

    pub unwritable_judged : {number : ℕ} → Unwritable s v number → (judged s v ≡ number) × (1 ≤ number)
    unfolding judged
    unwritable_judged (count_low h) = (rw (lt-ltb (s.count v) s.limits.least h), l.refused)
    unwritable_judged (count_high h) = elim (dec_le s.limits.least (s.count v)) [
      | yes f ↦ (rw (le-ltb (s.count v) s.limits.least f, lt-ltb s.limits.most (s.count v) h), l.refused)
      | no f ↦ (rw (lt-ltb (s.count v) s.limits.least (omega arith)), l.refused)
    ]
    unwritable_judged (contents {number} c g n) = (counted_judged c ∙ j.given v number g, n)

    pub writable_judged : Writable s v → judged s v ≡ 0
    writable_judged w = counted_judged w.counted ∙ j.given v 0 w.kept

  module _ (v : A) where
    unwritable : {number : ℕ} → Unwritable s v number → Writable s v ⊎ Unwritable s v (judged s v)
    unwritable u = inr (subst (Unwritable s v) (sym (unwritable_judged u).0) u)

    pub judged_says : Writable s v ⊎ Unwritable s v (judged s v)
    judged_says = elim (dec_le s.limits.least (s.count v)) [
      | no h ↦ unwritable (count_low (omega arith))
      | yes h ↦ elim (dec_le (s.count v) s.limits.most) [
        | no k ↦ unwritable (count_high (omega arith))
        | yes k ↦
            let c : Counted s v = record { some = h; few = k } in
            elim (eq-zero-or-pos (s.number v)) [
              | inl z ↦ inl (record { counted = c; kept = subst (s.Gives v) z (j.gives v) })
              | inr n ↦ unwritable (contents c (j.gives v) n)
            ]
      ]
    ]

  -- ---- what is written of a value, as the reader judges it

  module _ (v w : A) (more : List ℕ) (told : Counted s v → Told s v w) where
    count_read : count_of (bytes_of s v ++ more) ≡ s.count v
    count_read = mod-add-div (s.count v) 256

    begins_told : Counted s v → Begins s (bytes_of s v ++ more) w more
    begins_told c = let t = told c in subst (λ (b : List ℕ). Begins s (b ++ more) w more) (sym t.bytes) (begins s l w more t.sayable)

    pub read_judged : number_of s (bytes_of s v ++ more) ≡ judged s v
    read_judged = elim (dec_le s.limits.least (s.count v)) [
      | no h ↦ absent_decides s l (too_few (omega arith) (omega (arith, count_read))) ∙ sym (unwritable_judged {v = v} (count_low (omega arith))).0
      | yes h ↦ elim (dec_le (s.count v) s.limits.most) [
        | no k ↦ absent_decides s l (too_many (omega arith) (omega (arith, count_read))) ∙ sym (unwritable_judged {v = v} (count_high (omega arith))).0
        | yes k ↦
            let c : Counted s v = record { some = h; few = k } in
            let b = begins_told c in
            present_number s b.present ∙ ap s.number b.value ∙ sym (told c).number ∙ sym (counted_judged c)
      ]
    ]

    pub read_told : judged s v ≡ 0 → Begins s (bytes_of s v ++ more) w more
    read_told z = elim (judged_says v) [ inl k ↦ begins_told k.counted | inr u ↦ absurd (omega (arith, unwritable_judged u)) ]
