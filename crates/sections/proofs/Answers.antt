-- For code that reads section after section: how an answer about one is made, and how it is used.
use Rattle.whole.proofs.Laws.{◌≡◌, refl, sym, ap, ◌∙◌, subst, Bool, true, false, cond, ltb, List, inl, inr, ℕ, suc, ◌+◌, ◌*◌, ◌-◌, ◌≤◌, ◌<◌, arith, length, take, drop, length-drop, drop_of_length-le, drop-drop, passed, decided}
use borrow.Author.Rules.{part_to_end}
use Rattle.std.specs.Prelude.{IfOk}
use Rattle.refusals.specs.Types.{Refusal, CutOff, Result, Ok, Err}
use Rattle.refusals.specs.Numbers.{number_of, outcome_number}
use Rattle.refusals.proofs.Numbers.{numbered}
use Rattle.sections.specs.Types.{Part}
use Rattle.sections.specs.Bytes.{count_of}
use Rattle.sections.specs.Section.{Limits, size_of, presence, count_or, Present, Section, value_of, number_of as section_number}
use Rattle.sections.specs.File.{File, ends, nothing, ◌then◌}
use Rattle.sections.specs.Answered.{Answered}
use Rattle.sections.proofs.Counted.{absent_number, presence_says}
use Rattle.sections.proofs.Sections.{present_number}
use Rattle.sections.proofs.Files.{follows}

-- ---- a count, or what is answered in its place

cond_of : {A B : Type 0} (f : A → B) (b : Bool) (x y : A) → f (cond b x y) ≡ cond b (f x) (f y)
cond_of f true x y = refl
cond_of f false x y = refl

either : {A : Type 0} (P : A → Type 0) (b : Bool) {x y : A} → P x → P y → P (cond b x y)
either P true p q = p
either P false p q = q

-- the number of what is answered, where those of a caller's refusals are told: 0 of a count
abbrev pub number_by : {R : Type 0} → (R → ℕ) → Result ℕ R → ℕ
number_by number (Ok n) = 0
number_by number (Err r) = number r

-- it is that of `presence`, where a section that is cut off has 1
pub count_number : {R : Type 0} (number : R → ℕ) (cut_off wrong : R) (least most unit : ℕ) (bytes : List ℕ) → number cut_off ≡ 1 →
    number_by number (count_or cut_off wrong least most unit bytes) ≡ presence (record { least = least; most = most; wrong = number wrong; unit = unit }) bytes
unfolding presence count_or
count_number {R} number cut_off wrong least most unit bytes one =
    let n = count_of bytes in
    let short = ltb (length bytes) 2 in
    let few = ltb n least in
    let many = ltb most n in
    let cut = ltb (length bytes) (2 + unit * n) in
    let last : Result ℕ R = cond cut (Err cut_off) (Ok n) in
    let third : Result ℕ R = cond many (Err wrong) last in
    let second : Result ℕ R = cond few (Err wrong) third in
    let by = number_by number in
    let is : by second ≡ cond few (number wrong) (cond many (number wrong) (cond cut 1 0)) =
    cond_of by few (Err wrong) third ∙ ap (λ (k : ℕ). cond few (number wrong) k)
    (cond_of by many (Err wrong) last ∙ ap (λ (k : ℕ). cond many (number wrong) k) (cond_of by cut (Err cut_off) (Ok n) ∙ ap (λ (k : ℕ). cond cut k 0) one)) in
    cond_of by short (Err cut_off) second ∙ (λ i. cond short (one i) (is i))

-- and the count is there
pub count_there : {R : Type 0} (cut_off wrong : R) (least most unit : ℕ) (bytes : List ℕ) → IfOk (count_or cut_off wrong least most unit bytes) (λ k. k ≡ count_of bytes)
unfolding count_or
count_there {R} cut_off wrong least most unit bytes =
    let says = λ (o : Result ℕ R). IfOk o (λ k. k ≡ count_of bytes) in
    either says (ltb (length bytes) 2) tt (either says (ltb (count_of bytes) least) tt (either says (ltb most (count_of bytes)) tt
    (either says (ltb (length bytes) (2 + unit * count_of bytes)) tt refl)))

-- of the refusals of a file
pub record CountSays (wrong least most unit : ℕ) (bytes : List ℕ) (o : Result ℕ Refusal) : Type 0 where
  pub number : outcome_number o ≡ presence (record { least = least; most = most; wrong = wrong; unit = unit }) bytes
  pub count : IfOk o (λ n. n ≡ count_of bytes)

outcome_by : (o : Result ℕ Refusal) → outcome_number o ≡ number_by number_of o
outcome_by (Ok n) = refl
outcome_by (Err r) = refl

pub count_says : (e : Refusal) {least most unit : ℕ} {bytes : List ℕ} {o : Result ℕ Refusal} → o ≡ count_or CutOff e least most unit bytes → CountSays (number_of e) least most unit bytes o
count_says e {least} {most} {unit} {bytes} {o} h = record {
  number = outcome_by o ∙ ap (number_by number_of) h ∙ count_number number_of CutOff e least most unit bytes refl;
  count = subst (λ (o : Result ℕ Refusal). IfOk o (λ k. k ≡ count_of bytes)) (sym h) (count_there CutOff e least most unit bytes);
}

-- ---- made

pub present : (l : Limits) (bytes : List ℕ) → 1 ≤ l.wrong → 0 ≡ presence l bytes → Present l bytes
present l bytes w e = elim (presence_says l bytes) [ inl p ↦ p | inr a ↦ absurd (omega (arith, absent_number w a)) ]

module _ {A : Type 0} (s : Section A) {bytes : List ℕ} where
  -- its presence decides
  pub not_there : {e : Refusal} → number_of e ≡ presence s.limits bytes → Answered s bytes (Err e)
  unfolding section_number
  not_there {e} h = record { number = h ∙ sym (decided _ _ (λ z. omega (arith, numbered e, h))); taken = tt }

  -- then its value is judged
  pub refused_there : {e : Refusal} {v : A} → Present s.limits bytes → v ≡ value_of s bytes → number_of e ≡ s.number v → Answered s bytes (Err e)
  refused_there p value e = record { number = e ∙ ap s.number value ∙ sym (present_number s p); taken = tt }

  pub answered : {n : ℕ} {v : A} → Present s.limits bytes → n ≡ size_of s.limits bytes → v ≡ value_of s bytes → 0 ≡ s.number v →
      Answered s bytes (Ok (record { size = n; value = v }))
  answered p size value e = record { number = e ∙ ap s.number value ∙ sym (present_number s p); taken = record { present = p; size = size; value = value } }

-- ---- used

-- code that reads a file has come to the place p: the rest of the file decides what is answered
pub record Reached {A R : Type 0} (r : R) (file : List ℕ) (f : File A) (answer : A → R) (refuse : ℕ → ℕ → R) (i p : ℕ) : Type 0 where
  pub is : r ≡ f.read answer refuse i (drop p file)
  pub there : p ≤ length file

-- the part of a file from a place on, as code lends it
abbrev pub from : List ℕ → ℕ → List ℕ
from file p = take (length file - p) (drop p file)

-- how many bytes are left there
pub left : {A R : Type 0} {f : File A} {r : R} {file : List ℕ} {answer : A → R} {refuse : ℕ → ℕ → R} {i p : ℕ} → Reached r file f answer refuse i p → p + length (from file p) ≡ length file
left {file = file} {p = p} h = omega (arith, h.there, ap length (part_to_end file p), length-drop p file)

pub at_0 : {A : Type 0} {s : Section A} (file : List ℕ) {o : Result (Part A) Refusal} → Answered s file o → Answered s (from file 0) o
at_0 {s = s} file {o} a = subst (λ (l : List ℕ). Answered s l o) (sym (part_to_end file 0)) a

module _ {A B R : Type 0} {s : Section A} {f : File B} {r : R} {file : List ℕ} {answer : A × B → R} {refuse : ℕ → ℕ → R} {i p : ℕ} (h : Reached r file (s then f) answer refuse i p) where
  read_part : r ≡ (s then f).read answer refuse i (from file p)
  read_part = h.is ∙ ap ((s then f).read answer refuse i) (sym (part_to_end file p))

  -- a section that is refused decides
  pub stops : {e : Refusal} → Answered s (from file p) (Err e) → refuse (number_of e) i ≡ r
  stops {e} a = sym (read_part ∙ decided _ _ (λ z. omega (arith, numbered e, a.number, z)) ∙ ap (λ (m : ℕ). refuse m i) (sym a.number))

  -- and one that is not leaves it to the next
  pub goes : {t : Part A} {q : ℕ} → Answered s (from file p) (Ok t) → p + t.size ≡ q → Reached r file f (λ b. answer (t.value, b)) refuse (suc i) q
  goes {t} a e =
      let n = a.taken in
      let rest = (λ j. drop (sym n.size j) (part_to_end file p j)) ∙ drop-drop t.size p file ∙ ap (λ (m : ℕ). drop m file) e in
      record {
        is = read_part ∙ passed _ _ (sym a.number) ∙ (λ j. f.read (λ b. answer (sym n.value j, b)) refuse (suc i) (rest j));
        there = omega (arith, left h, n.size, n.present.fits);
      }

pub start : {A R : Type 0} (f : File A) (answer : A → R) (refuse : ℕ → ℕ → R) (file : List ℕ) → Reached (f.read answer refuse 0 file) file f answer refuse 0 0
start f answer refuse file = record { is = refl; there = omega arith }

module _ {R : Type 0} {r : R} {file : List ℕ} {answer : Unit {0} → R} {refuse : ℕ → ℕ → R} {i p : ℕ} (h : Reached r file nothing answer refuse i p) where
  pub ended : length file ≤ p → answer tt ≡ r
  ended l = sym (h.is ∙ ap (ends answer refuse i) (drop_of_length-le file l))

  pub followed : p < length file → refuse 2 (i - 1) ≡ r
  followed l = sym (h.is ∙ follows answer refuse (drop p file) i (omega (arith, length-drop p file)))
