-- A file: sections one behind the other. A file is refused in a section where the sections before it are there and keep the rules, and the bytes from
-- its count on break this one. "The answer is the number and the section."
use Rattle.std.specs.Prelude.{◌≡◌, List, [], ◌∷◌, ◌++◌, ℕ, suc, ◌+◌, ◌-◌, ◌≤◌, ◌<◌, length, take, drop}
use Rattle.whole.specs.Refusal.{unless_refused}
use Rattle.sections.specs.Bytes.{Bytes}
use Rattle.sections.specs.Section.{size_of, limit, Section, bytes_of, Rules, Breaks, value_of, number_of}

pub record File (A : Type 0) : Type 1 where
  pub layout : A → List ℕ
  pub Keeps : A → Type 0
  -- bytes, the number of the first section in them, the number of the refusal and its section
  pub Refuses : List ℕ → ℕ → ℕ → ℕ → Type 0
  -- as a computation: what is answered of a value, and of a number and a section
  pub read : {R : Type 0} → (A → R) → (ℕ → ℕ → R) → ℕ → List ℕ → R
  -- so many bytes settle every file
  pub enough : ℕ

-- ---- "Nothing follows." "Last, 2." (2 has the last section)

pub data Follows (bytes : List ℕ) (i : ℕ) : ℕ → ℕ → Type 0 where
  bytes_follow : 1 ≤ length bytes → Follows bytes i 2 (i - 1)

abbrev pub ends : {R : Type 0} → (Unit {0} → R) → (ℕ → ℕ → R) → ℕ → List ℕ → R
ends answer refuse i [] = answer tt
ends answer refuse i (b ∷ more) = refuse 2 (i - 1)

abbrev pub nothing : File (Unit {0})
nothing = record { layout = λ v. []; Keeps = λ v. Unit {0}; Refuses = Follows; read = ends; enough = 1 }

-- ---- a section, and a file behind it

module _ {A B : Type 0} (s : Section A) (f : File B) where
  pub data RefusesThen (bytes : List ℕ) (i : ℕ) : ℕ → ℕ → Type 0 where
    here : {number : ℕ} → Breaks s bytes number → RefusesThen bytes i number i
    later : {v : A} {rest : List ℕ} {number section : ℕ} →
        Rules s v → bytes ≡ bytes_of s v ++ rest → f.Refuses rest (suc i) number section → RefusesThen bytes i number section

infixr 20 ◌then◌
abbrev pub ◌then◌ : {A B : Type 0} → Section A → File B → File (A × B)
◌then◌ s f = record {
  layout = λ v. bytes_of s v.0 ++ f.layout v.1;
  Keeps = λ v. Rules s v.0 × f.Keeps v.1;
  Refuses = RefusesThen s f;
  read = λ answer refuse i bytes.
      unless_refused (number_of s bytes) (λ number. refuse number i)
      (f.read (λ b. answer (value_of s bytes, b)) refuse (suc i) (drop (size_of s.limits bytes) bytes));
  enough = limit s.limits + f.enough;
}

-- ---- what is to hold of a file

module _ {A R : Type 0} (f : File A) (answer : A → R) (refuse : ℕ → ℕ → R) where
  -- an answer, and what it says of the bytes
  pub data Says (bytes : List ℕ) (i : ℕ) : R → Type 0 where
    reads : (v : A) → f.Keeps v → bytes ≡ f.layout v → Says bytes i (answer v)
    refuses : (number section : ℕ) → f.Refuses bytes i number section → Says bytes i (refuse number section)

  pub record Exact : Type 0 where
    pub says : (bytes : List ℕ) (i : ℕ) → Bytes bytes → Says bytes i (f.read answer refuse i bytes)
    pub said : (bytes : List ℕ) (i : ℕ) (r : R) → Says bytes i r → f.read answer refuse i bytes ≡ r
    pub settled : (bytes : List ℕ) (i m : ℕ) → f.enough ≤ m → f.read answer refuse i (take m bytes) ≡ f.read answer refuse i bytes
    pub fits : (v : A) → f.Keeps v → length (f.layout v) < f.enough

abbrev pub Lawful : {A : Type 0} → File A → Type 1
Lawful {A} f = (R : Type 0) (answer : A → R) (refuse : ℕ → ℕ → R) → Exact f answer refuse
