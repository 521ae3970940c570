-- Which numbers a section of a file can be refused by: 1, the number of a wrong count, and those that are given of its contents; and behind the last section 2. A file is
-- refused in one of its sections, so the numbers of the job file are those of `SectionNumber`; and of a job that is to be written those of `ContentsNumber`.
use Rattle.whole.proofs.Laws.{◌≡◌, refl, sym, ap, ◌∙◌, subst, List, inl, inr, ℕ, zero, suc, ◌+◌, ◌*◌, ◌≤◌, arith, ℤ}
use Rattle.digits.proofs.Laws.{StoredSystem, system_of}
use Rattle.admission.proofs.Laws.{SystemNumber, refusal_number, admission_number, admitted_only}
use Rattle.opening.proofs.Laws.{Opening, Ok, Err, OutOfRange, MatrixNotAbove, OpeningCase, opening_number}
use Rattle.sections.proofs.Laws.{◌then◌, nothing, ◌then_written◌, nothing_written}
use Rattle.sections.specs.Section.{Section, Limits, Absent, no_count, too_few, too_many, cut_off, Breaks, absent, broken, Unwritable, count_low, count_high, contents}
use Rattle.sections.specs.File.{File, Follows, bytes_follow, RefusesThen, here, later}
use Rattle.sections.specs.Written.{Writing, RefusesValueThen, value_here, value_later}
use Rattle.job_sections.proofs.Laws.{Contents, parts_of, system, matrix, word}
use Rattle.jobs.specs.Refuses.{Refuses}
use Rattle.round_trips.specs.Writes.{Unwritable as UnwritableJob}
use Rattle.answers.specs.Numbers.{MatrixNumber, SectionNumber, ContentsNumber, ZeroOr}

-- ---- of any section, and of any file

absent_number : (l : Limits) (P : ℕ → Type 0) → P 1 → P l.wrong → {bytes : List ℕ} {number : ℕ} → Absent l bytes number → P number
absent_number l P one wrong (no_count h) = one
absent_number l P one wrong (too_few h k) = wrong
absent_number l P one wrong (too_many h k) = wrong
absent_number l P one wrong (cut_off h k m n) = one

breaks_number : {A : Type 0} (s : Section A) (P : ℕ → Type 0) → P 1 → P s.limits.wrong → ((v : A) (n : ℕ) → s.Gives v n → 1 ≤ n → P n) →
    (bytes : List ℕ) (n : ℕ) → Breaks s bytes n → P n
breaks_number s P one wrong gives bytes n (absent a) = absent_number s.limits P one wrong a
breaks_number s P one wrong gives bytes n (broken {v} more e y g h) = gives v n g h

then_number : {A B : Type 0} (s : Section A) (f : File B) (P : ℕ → ℕ → Type 0) (i : ℕ) → ((bytes : List ℕ) (n : ℕ) → Breaks s bytes n → P i n) →
    ((rest : List ℕ) (n k : ℕ) → f.Refuses rest (suc i) n k → P k n) → (bytes : List ℕ) (n k : ℕ) → RefusesThen s f bytes i n k → P k n
then_number s f P i of-this of-those bytes n k (here b) = of-this bytes n b
then_number s f P i of-this of-those bytes n k (later {rest = rest} r e w) = of-those rest n k w

-- the same of a value that is to be written

unwritable_number : {A : Type 0} (s : Section A) (P : ℕ → Type 0) → P s.limits.wrong → ((v : A) (n : ℕ) → s.Gives v n → 1 ≤ n → P n) → (v : A) (n : ℕ) → Unwritable s v n → P n
unwritable_number s P wrong gives v n (count_low h) = wrong
unwritable_number s P wrong gives v n (count_high h) = wrong
unwritable_number s P wrong gives v n (contents c g h) = gives v n g h

value_number : {A B : Type 0} (s : Section A) (f : Writing B) (P : ℕ → ℕ → Type 0) (i : ℕ) → ((v : A) (n : ℕ) → Unwritable s v n → P i n) →
    ((v : B) (n k : ℕ) → f.RefusesValue v (suc i) n k → P k n) → (v : A × B) (n k : ℕ) → RefusesValueThen s f v i n k → P k n
value_number s f P i of-this of-those v n k (value_here u) = of-this v.0 n u
value_number s f P i of-this of-those v n k (value_later w r) = of-those v.1 n k r

-- ---- of the job file

pub refusing : (P : ℕ → Type 0) {n : ℕ} → ZeroOr P n → 1 ≤ n → P n
refusing P (inl e) h = absurd (omega (arith, e, h))
refusing P (inr p) h = p

pub opening_number_lem : (m : List ℤ) (v : Opening) → OpeningCase m v → ZeroOr MatrixNumber (opening_number v)
opening_number_lem m (Ok u) c = inl refl
opening_number_lem m (Err OutOfRange) c = inr (inl refl)
opening_number_lem m (Err MatrixNotAbove) c = inr (inr refl)
opening_number_lem m (Err r) c = absurd c

system_number : (s : StoredSystem) (n : ℕ) → system.Gives s n → 1 ≤ n → SystemNumber n
system_number s n g = refusing SystemNumber
    (subst (ZeroOr SystemNumber) (ap refusal_number (sym (admitted_only (system_of s) g.answer g.holds)) ∙ g.numbered) (admission_number (system_of s)))

matrix_number : (m : List ℤ) (n : ℕ) → matrix.Gives m n → 1 ≤ n → MatrixNumber n
matrix_number m n g = refusing MatrixNumber (subst (ZeroOr MatrixNumber) g.numbered (opening_number_lem m g.answer g.holds))

word_number : (bytes : List ℕ) (n : ℕ) → Breaks word bytes n → SectionNumber 3 n
word_number = breaks_number word (SectionNumber 3) (inl refl) (inr (inr refl)) (λ w n e h. absurd (omega (arith, e, h)))

behind_number : (rest : List ℕ) (n k : ℕ) → Follows rest 4 n k → SectionNumber k n
behind_number rest n k (bytes_follow h) = inr (inl refl)

pub refuses_number : (file : List ℕ) (number section : ℕ) → Refuses file number section → SectionNumber section number
refuses_number =
    then_number system (system then (matrix then (word then nothing))) SectionNumber 0
    (breaks_number system (SectionNumber 0) (inl refl) (inr (inl refl)) (λ s n g h. inr (system_number s n g h)))
    (then_number system (matrix then (word then nothing)) SectionNumber 1
    (breaks_number system (SectionNumber 1) (inl refl) (inr (inl refl)) (λ s n g h. inr (system_number s n g h)))
    (then_number matrix (word then nothing) SectionNumber 2
    (breaks_number matrix (SectionNumber 2) (inl refl) (inr (inl refl)) (λ m n g h. inr (inr (matrix_number m n g h))))
    (then_number word nothing SectionNumber 3 word_number behind_number)))

-- the same of a job that is to be written: the count of its matrix is 4
matrix_unwritable : (m : List ℤ) (n : ℕ) → Unwritable matrix m n → MatrixNumber n
matrix_unwritable m n (count_low h) = absurd (omega (arith, h))
matrix_unwritable m n (count_high h) = absurd (omega (arith, h))
matrix_unwritable m n (contents c g h) = matrix_number m n g h

pub contents_number : (c : Contents) (number section : ℕ) → UnwritableJob c number section → ContentsNumber section number
contents_number c =
    value_number system (system then_written (matrix then_written (word then_written nothing_written))) ContentsNumber 0 (unwritable_number system SystemNumber (inl refl) system_number)
    (value_number system (matrix then_written (word then_written nothing_written)) ContentsNumber 1 (unwritable_number system SystemNumber (inl refl) system_number)
    (value_number matrix (word then_written nothing_written) ContentsNumber 2 matrix_unwritable
    (value_number word nothing_written ContentsNumber 3 (unwritable_number word (λ n. n ≡ 5) refl (λ w n e h. absurd (omega (arith, e, h)))) (λ v n k r. absurd r))))
    (parts_of c)

-- "those of the reader"
readers_number : (section number : ℕ) → ContentsNumber section number → SectionNumber section number
readers_number zero n h = inr h
readers_number (suc zero) n h = inr h
readers_number (suc (suc zero)) n h = inr (inr h)
readers_number (suc (suc (suc zero))) n h = inr (inr h)
readers_number (suc (suc (suc (suc k)))) n h = absurd h

-- none of them is 14, nor is it with its section
pub contents_not_14 : (section number : ℕ) → ContentsNumber section number → number + 256 * section ≡ 14 → ⊥
contents_not_14 zero n (inl e) z = omega (arith, e, z)
contents_not_14 zero n (inr (inl h)) z = omega (arith, h.1, z)
contents_not_14 zero n (inr (inr e)) z = omega (arith, e, z)
contents_not_14 (suc k) n h z = omega (arith, z)

-- ---- no refusal has the number 0

pub system_above : {n : ℕ} → SystemNumber n → 1 ≤ n
system_above (inl e) = omega (arith, e)
system_above (inr (inl h)) = omega (arith, h.0)
system_above (inr (inr e)) = omega (arith, e)

pub matrix_above : {n : ℕ} → MatrixNumber n → 1 ≤ n
matrix_above (inl e) = omega (arith, e)
matrix_above (inr e) = omega (arith, e)

pub section_few : (section number : ℕ) → SectionNumber section number → (section ≤ 3) × (1 ≤ number)
section_few zero n (inl e) = (omega arith, omega (arith, e))
section_few zero n (inr h) = (omega arith, system_above h)
section_few (suc zero) n (inl e) = (omega arith, omega (arith, e))
section_few (suc zero) n (inr h) = (omega arith, system_above h)
section_few (suc (suc zero)) n (inl e) = (omega arith, omega (arith, e))
section_few (suc (suc zero)) n (inr (inl e)) = (omega arith, omega (arith, e))
section_few (suc (suc zero)) n (inr (inr h)) = (omega arith, matrix_above h)
section_few (suc (suc (suc zero))) n (inl e) = (omega arith, omega (arith, e))
section_few (suc (suc (suc zero))) n (inr (inl e)) = (omega arith, omega (arith, e))
section_few (suc (suc (suc zero))) n (inr (inr e)) = (omega arith, omega (arith, e))
section_few (suc (suc (suc (suc k)))) n h = absurd h

pub contents_above : (section number : ℕ) → ContentsNumber section number → 1 ≤ number
contents_above section number h = (section_few section number (readers_number section number h)).1
