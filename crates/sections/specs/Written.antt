-- A file's value that is to be written: sections one behind the other, as File has them. "The answer is the number and the section." "Refusals: those of
-- the reader for the same contents, in its order".
use Rattle.std.specs.Prelude.{◌≡◌, ℕ, suc}
use Rattle.whole.specs.Refusal.{unless_refused}
use Rattle.sections.specs.Section.{Section, Counted, Writable, Unwritable, judged, Told}
use Rattle.sections.specs.File.{File, nothing, ◌then◌}

pub record Writing (A : Type 0) : Type 1 where
  -- the file that is written
  pub file : File A
  -- a value that is to be written: nothing of it is refused; or, with the number of the first section in it, it is refused by a number in a section
  pub Writes : A → Type 0
  pub RefusesValue : A → ℕ → ℕ → ℕ → Type 0
  -- as a computation: what is answered of a number and a section, and what else
  pub judge : {R : Type 0} → (ℕ → ℕ → R) → R → ℕ → A → R
  -- what is written of the one is read as the other
  pub ReadBack : A → A → Type 0

-- ---- "Nothing follows."

abbrev pub nothing_written : Writing (Unit {0})
nothing_written = record {
  file = nothing;
  Writes = λ v. Unit {0};
  RefusesValue = λ v i number section. ⊥;
  judge = λ refuse go i v. go;
  ReadBack = λ v w. Unit {0};
}

-- ---- a section, and a file behind it

module _ {A B : Type 0} (s : Section A) (f : Writing B) where
  pub data RefusesValueThen (v : A × B) (i : ℕ) : ℕ → ℕ → Type 0 where
    value_here : {number : ℕ} → Unwritable s v.0 number → RefusesValueThen v i number i
    value_later : {number section : ℕ} → Writable s v.0 → f.RefusesValue v.1 (suc i) number section → RefusesValueThen v i number section

infixr 20 ◌then_written◌
abbrev pub ◌then_written◌ : {A B : Type 0} → Section A → Writing B → Writing (A × B)
◌then_written◌ s f = record {
  file = s then f.file;
  Writes = λ v. Writable s v.0 × f.Writes v.1;
  RefusesValue = RefusesValueThen s f;
  judge = λ refuse go i v. unless_refused (judged s v.0) (λ number. refuse number i) (f.judge refuse go (suc i) v.1);
  ReadBack = λ v w. (Counted s v.0 → Told s v.0 w.0) × f.ReadBack v.1 w.1;
}

-- ---- what is to hold of a file that is written

module _ {A R : Type 0} (f : Writing A) (answer : A → R) (refuse : ℕ → ℕ → R) where
  -- what is answered of a value that is to be written, and what it says of the value
  pub data SaysOf (go : R) (v : A) (i : ℕ) : R → Type 0 where
    writes : f.Writes v → SaysOf go v i go
    refuses_value : (number section : ℕ) → f.RefusesValue v i number section → SaysOf go v i (refuse number section)

  pub record ExactOf : Type 0 where
    pub says_of : (go : R) (v : A) (i : ℕ) → SaysOf go v i (f.judge refuse go i v)
    pub said_of : (go : R) (v : A) (i : ℕ) (r : R) → SaysOf go v i r → f.judge refuse go i v ≡ r
    -- "those of the reader for the same contents": what is written of a value is read as the value is judged
    pub read_as_judged : (v w : A) (i : ℕ) → f.ReadBack v w → f.file.read answer refuse i (f.file.layout v) ≡ f.judge refuse (answer w) i v

abbrev pub LawfulOf : {A : Type 0} → Writing A → Type 1
LawfulOf {A} f = (R : Type 0) (answer : A → R) (refuse : ℕ → ℕ → R) → ExactOf f answer refuse
