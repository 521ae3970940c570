-- A lawful section's number is given exactly when the words say.
use Rattle.whole.proofs.Laws.{◌≡◌, sym, ap, ◌∙◌, subst, List, ◌++◌, ◌⊎◌, inl, inr, ℕ, ◌+◌, ◌*◌, ◌-◌, ◌≤◌, ◌<◌, mod-add-div, eq-zero-or-pos, mul-le-mul_left, arith, length, take, drop, length-append, length-drop, take-append-drop, take_at, drop_at, drop-drop, length-take-le, passed, decided}
use lib.Seq.{take-take}
use Rattle.sections.specs.Bytes.{two_bytes, count_of, Bytes}
use Rattle.sections.specs.Section.{size_of, limit, Absent, no_count, too_few, too_many, cut_off, Present, Section, bytes_of, Rules, Breaks, absent, broken, value_of, number_of, Whole, Lawful}
use Rattle.sections.proofs.Bytes.{drop_bytes, take_bytes, count_first, same_count, same_rest}
use Rattle.sections.proofs.Counted.{absent_is, present_is, absent_number, presence_says}

-- bytes that begin with a value are read as that value, and go on behind it
pub record Begins {A : Type 0} (s : Section A) (bytes : List ℕ) (v : A) (more : List ℕ) : Type 0 where
  pub present : Present s.limits bytes
  pub value : value_of s bytes ≡ v
  pub rest : drop (size_of s.limits bytes) bytes ≡ more

-- bytes that begin with a section that keeps the rules
pub record Kept {A : Type 0} (s : Section A) (bytes : List ℕ) : Type 0 where
  pub rules : Rules s (value_of s bytes)
  pub begins : bytes ≡ bytes_of s (value_of s bytes) ++ drop (size_of s.limits bytes) bytes
  pub number : number_of s bytes ≡ 0

-- a section that is there is judged by its value
pub present_number : {A : Type 0} (s : Section A) {bytes : List ℕ} → Present s.limits bytes → number_of s bytes ≡ s.number (value_of s bytes)
unfolding number_of
present_number s p = passed _ _ (present_is p)

module _ {A : Type 0} (s : Section A) (l : Lawful s) where
  pub begins : (v : A) (more : List ℕ) → s.Sayable v → Begins s (bytes_of s v ++ more) v more
  begins v more h =
      let w = l.said v h in
      let unit = s.limits.unit in
      let u = unit * s.count v in
      let e : count_of (bytes_of s v ++ more) ≡ s.count v = mod-add-div (s.count v) 256 in
      let size = ap (λ (k : ℕ). unit * k) e in
      record {
        present = record {
          some = omega (arith, e, w.0.some);
          few = omega (arith, e, w.0.few);
          fits = omega (arith, size, w.0.size, length-append (s.body v) more);
        };
        value = (λ i. s.value (e i) (take (unit * e i) (s.body v ++ more))) ∙ ap (s.value (s.count v)) (take_at (s.body v) more u w.0.size) ∙ w.1;
        rest = ap (λ (k : ℕ). drop (2 + k) (bytes_of s v ++ more)) size ∙ sym (drop-drop u 2 (bytes_of s v ++ more)) ∙ drop_at (s.body v) more u w.0.size;
      }

  module _ {bytes : List ℕ} where
    pub absent_decides : {number : ℕ} → Absent s.limits bytes number → number_of s bytes ≡ number
    unfolding number_of
    absent_decides a = decided _ _ (λ z. omega (arith, absent_number l.refused a, absent_is a)) ∙ absent_is a

    pub breaks_number : {number : ℕ} → Breaks s bytes number → (number_of s bytes ≡ number) × (1 ≤ number)
    breaks_number (absent a) = (absent_decides a, absent_number l.refused a)
    breaks_number (broken {v} {number} more e h g n) =
        let r = subst (λ (x : List ℕ). Begins s x v more) (sym e) (begins v more h) in
        (present_number s r.present ∙ ap s.number r.value ∙ l.given v number h g, n)

    whole : Present s.limits bytes → Whole s (count_of bytes) (take (s.limits.unit * count_of bytes) (drop 2 bytes))
    whole p = record { some = p.some; few = p.few; size = length-take-le _ (drop 2 bytes) (omega (arith, p.fits, length-drop 2 bytes)) }

    pub section_says : Bytes bytes → Kept s bytes ⊎ Breaks s bytes (number_of s bytes)
    section_says h = elim (presence_says s.limits bytes) [
      | inr a ↦ inr (absent (subst (Absent s.limits bytes) (sym (absent_decides a)) a))
      | inl p ↦
          let u = s.limits.unit * count_of bytes in
          let w = l.says (count_of bytes) (take u (drop 2 bytes)) (take_bytes (drop_bytes h 2) u) (whole p) in
          let g = l.gives (value_of s bytes) w.0 in
          let e : bytes ≡ bytes_of s (value_of s bytes) ++ drop (size_of s.limits bytes) bytes =
          count_first bytes h (omega (arith, p.fits)) ∙ ap (λ (r : List ℕ). two_bytes (count_of bytes) ++ r) (sym (take-append-drop u (drop 2 bytes))) ∙
          ap (λ (r : List ℕ). two_bytes (count_of bytes) ++ (take u (drop 2 bytes) ++ r)) (drop-drop u 2 bytes) ∙
          ap (λ (r : List ℕ). r ++ drop (size_of s.limits bytes) bytes) (sym w.1) in
          elim (eq-zero-or-pos (s.number (value_of s bytes))) [
            | inl z ↦ inl (record { rules = record { sayable = w.0; kept = subst (s.Gives (value_of s bytes)) z g }; begins = e; number = present_number s p ∙ z })
            | inr n ↦ inr (subst (Breaks s bytes) (sym (present_number s p)) (broken _ e w.0 g n))
          ]
    ]

  -- ---- more bytes than the largest section has change nothing

  module _ (m : ℕ) (bytes : List ℕ) (h : limit s.limits ≤ m) (more : m < length bytes) where
    size : length (take m bytes) ≡ m
    size = length-take-le m bytes (omega arith)

    count : count_of (take m bytes) ≡ count_of bytes
    count = same_count m bytes (omega arith)

    pub absent_same : {number : ℕ} → Absent s.limits bytes number → Absent s.limits (take m bytes) number
    absent_same (no_count k) = absurd (omega arith)
    absent_same (too_few k f) = too_few (omega (arith, size)) (omega (arith, count))
    absent_same (too_many k f) = too_many (omega (arith, size)) (omega (arith, count))
    absent_same (cut_off k f g c) = absurd (omega (arith, mul-le-mul_left s.limits.unit g))

    pub present_same : Present s.limits bytes → Begins s (take m bytes) (value_of s bytes) (take (m - size_of s.limits bytes) (drop (size_of s.limits bytes) bytes))
    present_same p =
        let unit = s.limits.unit in
        let u = unit * count_of bytes in
        let k = mul-le-mul_left unit p.few in
        let same = ap (λ (n : ℕ). unit * n) count in
        record {
          present = record { some = omega (arith, count); few = omega (arith, count); fits = omega (arith, same, size) };
          value = (λ i. s.value (count i) (take (unit * count i) (drop 2 (take m bytes)))) ∙
              ap (λ (l : List ℕ). s.value (count_of bytes) (take u l)) (same_rest m bytes 2 (omega arith) (omega arith)) ∙
              ap (s.value (count_of bytes)) (take-take u (m - 2) (drop 2 bytes) (omega arith));
          rest = ap (λ (n : ℕ). drop (2 + n) (take m bytes)) same ∙ same_rest m bytes (2 + u) (omega arith) (omega arith);
        }
