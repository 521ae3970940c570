-- Whether a section is there: one law for each way, which the code follows too.
use Rattle.whole.proofs.Laws.{◌≡◌, sym, ap, subst, List, ◌⊎◌, inl, inr, ℕ, ◌+◌, ◌*◌, ◌≤◌, ◌<◌, dec_le, arith, lt-ltb, le-ltb, length}
use Rattle.sections.specs.Bytes.{count_of}
use Rattle.refusals.specs.Types.{Ok, Err}
use Rattle.sections.specs.Section.{Limits, size_of, presence, count_or, Absent, no_count, too_few, too_many, cut_off, Present}

module _ {l : Limits} {bytes : List ℕ} where
  pub absent_is : {number : ℕ} → Absent l bytes number → presence l bytes ≡ number
  unfolding presence
  absent_is (no_count h) = rw (lt-ltb (length bytes) 2 h)
  absent_is (too_few h f) = rw (le-ltb (length bytes) 2 h, lt-ltb (count_of bytes) l.least f)
  absent_is (too_many h m) = elim (dec_le l.least (count_of bytes)) [
    | yes f ↦ rw (le-ltb (length bytes) 2 h, le-ltb (count_of bytes) l.least f, lt-ltb l.most (count_of bytes) m)
    | no f ↦ rw (le-ltb (length bytes) 2 h, lt-ltb (count_of bytes) l.least (omega arith))
  ]
  absent_is (cut_off h f m s) = rw (
    le-ltb (length bytes) 2 h,
    le-ltb (count_of bytes) l.least f,
    le-ltb l.most (count_of bytes) m,
    lt-ltb (length bytes) (size_of l bytes) s,
  )

  pub present_is : Present l bytes → presence l bytes ≡ 0
  unfolding presence
  present_is p = rw (
    le-ltb (length bytes) 2 (omega arith),
    le-ltb (count_of bytes) l.least p.some,
    le-ltb l.most (count_of bytes) p.few,
    le-ltb (length bytes) (size_of l bytes) p.fits,
  )

  -- a number of refusal is not 0
  pub absent_number : {number : ℕ} → 1 ≤ l.wrong → Absent l bytes number → 1 ≤ number
  absent_number w (no_count h) = omega arith
  absent_number w (too_few h f) = w
  absent_number w (too_many h m) = w
  absent_number w (cut_off h f m s) = omega arith

module _ (l : Limits) (bytes : List ℕ) where
  refused : {number : ℕ} → Absent l bytes number → Present l bytes ⊎ Absent l bytes (presence l bytes)
  refused a = inr (subst (Absent l bytes) (sym (absent_is a)) a)

  pub presence_says : Present l bytes ⊎ Absent l bytes (presence l bytes)
  presence_says = elim (dec_le 2 (length bytes)) [
    | no h ↦ refused (no_count (omega arith))
    | yes h ↦ elim (dec_le l.least (count_of bytes)) [
      | no f ↦ refused (too_few h (omega arith))
      | yes f ↦ elim (dec_le (count_of bytes) l.most) [
        | no m ↦ refused (too_many h (omega arith))
        | yes m ↦ elim (dec_le (size_of l bytes) (length bytes)) [
          | no s ↦ refused (cut_off h f m (omega arith))
          | yes s ↦ inl (record { some = f; few = m; fits = s })
        ]
      ]
    ]
  ]

-- as code goes, which holds the count n, and has answers of its own for a section that is cut off and for a wrong count
module _ {R : Type 0} (cut wrong : R) (least most unit : ℕ) (bytes : List ℕ) where
  pub short_is : length bytes < 2 → Err cut ≡ count_or cut wrong least most unit bytes
  unfolding count_or
  short_is h = rw (lt-ltb (length bytes) 2 h)

  module _ {n : ℕ} (e : n ≡ count_of bytes) (h : 2 ≤ length bytes) where
    pub few_is : n < least → Err wrong ≡ count_or cut wrong least most unit bytes
    unfolding count_or
    few_is f = rw (le-ltb (length bytes) 2 h, lt-ltb (count_of bytes) least (omega arith))

    pub many_is : least ≤ n → most < n → Err wrong ≡ count_or cut wrong least most unit bytes
    unfolding count_or
    many_is f m = rw (le-ltb (length bytes) 2 h, le-ltb (count_of bytes) least (omega arith), lt-ltb most (count_of bytes) (omega arith))

    pub cut_is : least ≤ n → n ≤ most → length bytes < 2 + unit * n → Err cut ≡ count_or cut wrong least most unit bytes
    unfolding count_or
    cut_is f m s = rw (
      le-ltb (length bytes) 2 h,
      le-ltb (count_of bytes) least (omega arith),
      le-ltb most (count_of bytes) (omega arith),
      lt-ltb (length bytes) (2 + unit * count_of bytes) (subst (λ (k : ℕ). length bytes < 2 + unit * k) e s),
    )

    pub whole_is : least ≤ n → n ≤ most → 2 + unit * n ≤ length bytes → Ok n ≡ count_or cut wrong least most unit bytes
    unfolding count_or
    whole_is f m s = rw (
      le-ltb (length bytes) 2 h,
      le-ltb (count_of bytes) least (omega arith),
      le-ltb most (count_of bytes) (omega arith),
      le-ltb (length bytes) (2 + unit * count_of bytes) (subst (λ (k : ℕ). 2 + unit * k ≤ length bytes) e s),
    ) (ap (λ (k : ℕ). Ok k) e)
