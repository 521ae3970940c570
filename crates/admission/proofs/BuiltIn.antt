-- The built-in systems R, D and B are admitted, by one law over tables of rows: where the admission of every table computes to "admitted", every table is an
-- admissible system in document 01's words (`admitted_exactly`). The law is applied once, to the list of the three, and the test in it is run by the checker.
-- Then the single systems that document 01 and its rules speak of, each by computation, in one record.
use Rattle.whole.proofs.Laws.{◌≡◌, refl, Bool, true, not, ◌&&◌, List, [], ◌∷◌, ◌++◌, not-true, take, ℤ, gcd_by, gcd, gcd4, first, both_true, within?}
use Rattle.plane.proofs.Laws.{apply, determinant_of}
use Rattle.inclusion.proofs.Laws.{closed?, same?}
use Rattle.expanding.proofs.Laws.{form_of, expands?}
use Rattle.digits.proofs.Laws.{transformation_by, interval_by, rows_r, rows_d, rows_b, stored, system_of}
use Rattle.admission.specs.Types.{Admission, Admitted, Err, WrongCount, Uncovered, NotExpanding}
use Rattle.admission.specs.Admission.{refusal_number, refused?, row_verdict, rows_verdict, admission_of}
use Rattle.admission.specs.Admitted.{Admissible}
use Rattle.admission.specs.Named.{identities, plain_binary}
use Rattle.admission.proofs.Numbers.{not_refused}
use Rattle.admission.proofs.AdmittedSays.{admitted_exactly}

-- ---- the law over tables

-- the admission of the system that a table of rows is laid out as; and that it is admissible
abbrev pub admission_of_table : List (List ℤ) → Admission
admission_of_table rs = admission_of (system_of (stored rs))

abbrev pub AdmissibleTable : List (List ℤ) → Type 0
AdmissibleTable rs = Admissible (system_of (stored rs))

-- the same of every table of a list
abbrev pub passed? : List (List (List ℤ)) → Bool
passed? [] = true
passed? (rs ∷ tables) = not (refused? (admission_of_table rs)) && passed? tables

abbrev pub Each : List (List (List ℤ)) → Type 0
Each [] = Unit {0}
Each (rs ∷ tables) = AdmissibleTable rs × Each tables

table_admissible : (rs : List (List ℤ)) → not (refused? (admission_of_table rs)) ≡ true → AdmissibleTable rs
table_admissible rs e =
    let admitted = not_refused (admission_of_table rs) (not-true (refused? (admission_of_table rs)) e) in
    (admitted_exactly (system_of (stored rs)) Admitted).0 admitted

pub passed_admissible : (tables : List (List (List ℤ))) → passed? tables ≡ true → Each tables
passed_admissible [] e = tt
passed_admissible (rs ∷ tables) e =
    let p = both_true (not (refused? (admission_of_table rs))) (passed? tables) e in
    (table_admissible rs p.0, passed_admissible tables p.1)

pub built_in_admitted : Each (rows_r ∷ rows_d ∷ rows_b ∷ [])
unfolding admission_of rows_verdict row_verdict within? determinant_of gcd gcd4 gcd_by transformation_by interval_by first closed? same? apply form_of expands? rows_b stored
built_in_admitted = passed_admissible (rows_r ∷ rows_d ∷ rows_b ∷ []) refl

pub r_admitted : AdmissibleTable rows_r
r_admitted = built_in_admitted.0

pub d_admitted : AdmissibleTable rows_d
d_admitted = built_in_admitted.1.0

pub b_admitted : AdmissibleTable rows_b
b_admitted = built_in_admitted.1.1.0

-- ---- single systems

pub record Judged : Type 0 where
  -- "P11 R without row 3: 10."
  pub p11 : admission_of_table (take 3 rows_r) ≡ Err Uncovered
  pub p11_number : refusal_number (admission_of_table (take 3 rows_r)) ≡ 10
  -- "Document 01's last run becomes a refusal", and the plain binary system "is now refused"
  pub two_identities : admission_of_table identities ≡ Err NotExpanding
  pub plain_binary_lem : admission_of_table plain_binary ≡ Err NotExpanding
  pub expand_number : refusal_number (admission_of_table identities) ≡ 18
  -- equal digits twice; 16 digits, with and without equal ones; 17
  pub twice : admission_of_table (rows_r ++ rows_r) ≡ Admitted
  pub sixteen : admission_of_table (rows_b ++ rows_r ++ rows_d) ≡ Admitted
  pub sixteen_twice : admission_of_table (rows_b ++ rows_b) ≡ Admitted
  pub seventeen : admission_of_table (rows_b ++ rows_b ++ take 1 rows_b) ≡ Err WrongCount
  -- no digit, and one digit (`one_digit_refused` has it of any digit)
  pub no_digit : admission_of_table [] ≡ Err WrongCount
  pub one_digit : admission_of_table (take 1 rows_r) ≡ Err Uncovered

pub judged : Judged
unfolding admission_of rows_verdict row_verdict within? determinant_of gcd gcd4 gcd_by transformation_by interval_by first closed? same? apply form_of expands? rows_b stored
judged = record {
  p11 = refl;
  p11_number = refl;
  two_identities = refl;
  plain_binary_lem = refl;
  expand_number = refl;
  twice = refl;
  sixteen = refl;
  sixteen_twice = refl;
  seventeen = refl;
  no_digit = refl;
  one_digit = refl;
}
