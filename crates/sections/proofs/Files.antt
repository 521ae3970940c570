-- Every file of lawful sections is read exactly as its words say, and settled by its first bytes.
use Rattle.whole.proofs.Laws.{◌≡◌, refl, sym, ap, ◌∙◌, subst, List, [], ◌∷◌, ◌++◌, inl, inr, ℕ, zero, suc, ◌+◌, ◌-◌, ◌≤◌, ◌<◌, mul-le-mul_left, arith, length, take, length-append, unless_refused, passed, decided}
use Rattle.sections.specs.Bytes.{Bytes}
use Rattle.sections.specs.Section.{size_of, limit, Section, bytes_of, Rules, value_of, number_of, Lawful as LawfulSection}
use Rattle.sections.specs.File.{File, bytes_follow, ends, nothing, here, later, ◌then◌, Says, reads, refuses, Exact, Lawful}
use Rattle.sections.proofs.Bytes.{drop_bytes, or_all}
use Rattle.sections.proofs.Counted.{absent_number, presence_says}
use Rattle.sections.proofs.Sections.{Begins, begins, present_number, absent_decides, breaks_number, section_says, absent_same, present_same}

-- ---- nothing

module _ {R : Type 0} (answer : Unit {0} → R) (refuse : ℕ → ℕ → R) where
  nothing_says : (bytes : List ℕ) (i : ℕ) → Bytes bytes → Says nothing answer refuse bytes i (ends answer refuse i bytes)
  nothing_says [] i h = reads tt tt refl
  nothing_says (b ∷ more) i h = refuses 2 (i - 1) (bytes_follow (omega arith))

  pub follows : (bytes : List ℕ) (i : ℕ) → 1 ≤ length bytes → ends answer refuse i bytes ≡ refuse 2 (i - 1)
  follows [] i h = absurd (omega arith)
  follows (b ∷ more) i h = refl

  nothing_said : (bytes : List ℕ) (i : ℕ) (r : R) → Says nothing answer refuse bytes i r → ends answer refuse i bytes ≡ r
  nothing_said bytes i _ (reads v k e) = ap (ends answer refuse i) e
  nothing_said bytes i _ (refuses _ _ (bytes_follow h)) = follows bytes i h

  nothing_settled : (bytes : List ℕ) (i m : ℕ) → 1 ≤ m → ends answer refuse i (take m bytes) ≡ ends answer refuse i bytes
  nothing_settled [] i zero h = elim h [ ]
  nothing_settled [] i (suc m) h = refl
  nothing_settled (b ∷ more) i zero h = elim h [ ]
  nothing_settled (b ∷ more) i (suc m) h = refl

pub nothing_lawful : Lawful nothing
nothing_lawful R answer refuse = record {
  says = nothing_says answer refuse;
  said = nothing_said answer refuse;
  settled = nothing_settled answer refuse;
  fits = λ v k. omega arith;
}

-- ---- a section, and a file behind it

module _ {A B R : Type 0} (s : Section A) (f : File B) (l : LawfulSection s) (answer : A × B → R) (refuse : ℕ → ℕ → R) (g : (v : A) → Exact f (λ b. answer (v, b)) refuse) where
  -- what is answered behind a section
  abbrev behind : A → List ℕ → ℕ → R
  behind v bytes i = f.read (λ b. answer (v, b)) refuse (suc i) bytes

  behind_says : {bytes rest : List ℕ} {v : A} (i : ℕ) → Rules s v → bytes ≡ bytes_of s v ++ rest → (r : R) →
      Says f (λ b. answer (v, b)) refuse rest (suc i) r → Says (s then f) answer refuse bytes i r
  behind_says {v = v} i k e _ (reads b u n) = reads (v, b) (k, u) (e ∙ ap (λ (r : List ℕ). bytes_of s v ++ r) n)
  behind_says i k e _ (refuses number section u) = refuses number section (later k e u)

  then_says : (bytes : List ℕ) (i : ℕ) → Bytes bytes → Says (s then f) answer refuse bytes i ((s then f).read answer refuse i bytes)
  then_says bytes i h = elim (section_says s l h) [
    | inl k ↦ subst (Says (s then f) answer refuse bytes i) (sym (passed _ _ k.number))
        (behind_says i k.rules k.begins _ ((g (value_of s bytes)).says _ (suc i) (drop_bytes h (size_of s.limits bytes))))
    | inr b ↦ subst (Says (s then f) answer refuse bytes i) (sym (decided _ _ (λ z. omega (arith, breaks_number s l b)))) (refuses _ i (here b))
  ]

  -- a section that keeps the rules is peeled off
  peel : {bytes rest : List ℕ} {v : A} (i : ℕ) → Rules s v → bytes ≡ bytes_of s v ++ rest → (s then f).read answer refuse i bytes ≡ behind v rest i
  peel {bytes} {rest} {v} i k e =
      let w = subst (λ (x : List ℕ). Begins s x v rest) (sym e) (begins s l v rest k.sayable) in
      passed _ _ (present_number s w.present ∙ ap s.number w.value ∙ l.given v 0 k.sayable k.kept) ∙ (λ j. behind (w.value j) (w.rest j) i)

  then_said : (bytes : List ℕ) (i : ℕ) (r : R) → Says (s then f) answer refuse bytes i r → (s then f).read answer refuse i bytes ≡ r
  then_said bytes i _ (reads v k e) = peel i k.0 e ∙ (g v.0).said _ (suc i) _ (reads v.1 k.1 refl)
  then_said bytes i _ (refuses _ _ (here b)) = decided _ _ (λ z. omega (arith, breaks_number s l b)) ∙ ap (λ (k : ℕ). refuse k i) (breaks_number s l b).0
  then_said bytes i _ (refuses _ _ (later {v} {rest} {number} {section} k e u)) = peel i k e ∙ (g v).said rest (suc i) _ (refuses number section u)

  then_settled : (bytes : List ℕ) (i m : ℕ) → limit s.limits + f.enough ≤ m → (s then f).read answer refuse i (take m bytes) ≡ (s then f).read answer refuse i bytes
  then_settled bytes i m h = or_all m bytes ((s then f).read answer refuse i) (λ more. elim (presence_says s.limits bytes) [
    | inr a ↦
        let t = absent_decides s l (absent_same s l m bytes (omega arith) more a) in
        let e = absent_decides s l a in
        let n = absent_number l.refused a in
        decided _ _ (λ z. omega (arith, t)) ∙ ap (λ (k : ℕ). refuse k i) (t ∙ sym e) ∙ sym (decided _ _ (λ z. omega (arith, e)))
    | inl p ↦
        let w = present_same s l m bytes (omega arith) more p in
        let e = present_number s w.present ∙ ap s.number w.value ∙ sym (present_number s p) in
        (λ j. unless_refused (e j) (λ k. refuse k i) (behind (w.value j) (w.rest j) i)) ∙
        ap (unless_refused (number_of s bytes) (λ k. refuse k i))
        ((g (value_of s bytes)).settled _ (suc i) (m - size_of s.limits bytes) (omega (arith, p.fits, mul-le-mul_left s.limits.unit p.few)))
  ])

  then_fits : (v : A × B) → (Rules s v.0 × f.Keeps v.1) → length ((s then f).layout v) < limit s.limits + f.enough
  then_fits v k =
      let w = (l.said v.0 k.0.sayable).0 in
      omega (arith, length-append (bytes_of s v.0) (f.layout v.1), (g v.0).fits v.1 k.1, w.size, mul-le-mul_left s.limits.unit w.few)

pub then_lawful : {A B : Type 0} (s : Section A) (f : File B) → LawfulSection s → Lawful f → Lawful (s then f)
then_lawful {A} s f l g R answer refuse =
    record {
      says = then_says s f l answer refuse h;
      said = then_said s f l answer refuse h;
      settled = then_settled s f l answer refuse h;
      fits = then_fits s f l answer refuse h;
    }
  where
    h : (v : A) → Exact f (λ b. answer (v, b)) refuse
    h v = g R (λ b. answer (v, b)) refuse
