-- Every file of lawful sections is judged exactly as its words say before it is written, and what is written is read as it was judged.
use Rattle.whole.proofs.Laws.{◌≡◌, refl, sym, ap, ◌∙◌, subst, inl, inr, ℕ, suc, arith, passed, decided, eq-zero-or-pos}
use Rattle.sections.specs.Section.{Section, Writable, judged, Lawful as LawfulSection, Judges}
use Rattle.sections.specs.Written.{Writing, nothing_written, value_here, value_later, ◌then_written◌, SaysOf, writes, refuses_value, ExactOf, LawfulOf}
use Rattle.sections.proofs.Judged.{writable_judged, unwritable_judged, judged_says, read_judged, read_told}

-- ---- nothing

pub nothing_lawful_of : LawfulOf nothing_written
nothing_lawful_of R answer refuse = record { says_of = λ go v i. writes tt; said_of = said_of; read_as_judged = λ v w i t. refl }
  where
    said_of : (go : R) (v : Unit {0}) (i : ℕ) (r : R) → SaysOf nothing_written answer refuse go v i r → go ≡ r
    said_of go v i _ (writes k) = refl
    said_of go v i _ (refuses_value number section u) = absurd u

-- ---- a section, and a file behind it

module _ {A B R : Type 0} (s : Section A) (f : Writing B) (l : LawfulSection s) (j : Judges s) (answer : A × B → R) (refuse : ℕ → ℕ → R)
    (g : (v : A) → ExactOf f (λ b. answer (v, b)) refuse) where
  value_behind : {v : A × B} (go : R) (i : ℕ) → Writable s v.0 → (r : R) → SaysOf f (λ b. answer (v.0, b)) refuse go v.1 (suc i) r →
      SaysOf (s then_written f) answer refuse go v i r
  value_behind go i k _ (writes u) = writes (k, u)
  value_behind go i k _ (refuses_value number section u) = refuses_value number section (value_later k u)

  then_says_of : (go : R) (v : A × B) (i : ℕ) → SaysOf (s then_written f) answer refuse go v i ((s then_written f).judge refuse go i v)
  then_says_of go v i = elim (judged_says s l j v.0) [
    | inl k ↦ subst (SaysOf (s then_written f) answer refuse go v i) (sym (passed _ _ (writable_judged s l j k))) (value_behind go i k _ ((g v.0).says_of go v.1 (suc i)))
    | inr u ↦ subst (SaysOf (s then_written f) answer refuse go v i) (sym (decided _ _ (λ z. omega (arith, unwritable_judged s l j u)))) (refuses_value _ i (value_here u))
  ]

  then_said_of : (go : R) (v : A × B) (i : ℕ) (r : R) → SaysOf (s then_written f) answer refuse go v i r → (s then_written f).judge refuse go i v ≡ r
  then_said_of go v i _ (writes k) = passed _ _ (writable_judged s l j k.0) ∙ (g v.0).said_of go v.1 (suc i) _ (writes k.1)
  then_said_of go v i _ (refuses_value _ _ (value_here b)) =
      let n = unwritable_judged s l j b in decided _ _ (λ z. omega (arith, n)) ∙ ap (λ (k : ℕ). refuse k i) n.0
  then_said_of go v i _ (refuses_value _ _ (value_later {number} {section} k t)) =
      passed _ _ (writable_judged s l j k) ∙ (g v.0).said_of go v.1 (suc i) _ (refuses_value number section t)

  then_read_as_judged : (v w : A × B) (i : ℕ) → (s then_written f).ReadBack v w → (s then_written f).file.read answer refuse i ((s then_written f).file.layout v) ≡ (s then_written f).judge refuse (answer w) i v
  then_read_as_judged v w i t =
      let n = read_judged s l j v.0 w.0 (f.file.layout v.1) t.0 in
      elim (eq-zero-or-pos (judged s v.0)) [
        | inr h ↦ decided _ _ (λ z. omega (arith, n)) ∙ ap (λ (k : ℕ). refuse k i) n ∙ sym (decided _ _ (λ z. omega arith))
        | inl z ↦
            let b = read_told s l j v.0 w.0 (f.file.layout v.1) t.0 z in
            passed _ _ (n ∙ z) ∙ (λ k. f.file.read (λ x. answer (b.value k, x)) refuse (suc i) (b.rest k)) ∙ (g w.0).read_as_judged v.1 w.1 (suc i) t.1 ∙ sym (passed _ _ z)
      ]

pub then_lawful_of : {A B : Type 0} (s : Section A) (f : Writing B) → LawfulSection s → Judges s → LawfulOf f → LawfulOf (s then_written f)
then_lawful_of {A} s f l j g R answer refuse = record {
  says_of = then_says_of s f l j answer refuse h;
  said_of = then_said_of s f l j answer refuse h;
  read_as_judged = then_read_as_judged s f l j answer refuse h;
}
  where
    h : (v : A) → ExactOf f (λ b. answer (v, b)) refuse
    h v = g R (λ b. answer (v, b)) refuse
