-- What the crates above may use of this one.
-- each answer is given exactly when document 01's sentence holds: of a row, and of a system
pub use Rattle.admission.proofs.RowSays.{row_says, row_only, row_exactly}
pub use Rattle.admission.proofs.AdmittedSays.{admitted_says, admitted_only, admitted_exactly, SystemAnswer, answer_number, admission_number, one_sentence, admitted_few, admitted_digits, small, one_digit_not_admissible, one_digit_refused}
-- only "admitted" has the number 0
pub use Rattle.admission.proofs.Numbers.{number_0, not_refused}
-- what is kept for digits that a system hasn't got
pub use Rattle.admission.proofs.SameDigits.{same_judgement, same_admission}
-- R, D and B, and single systems
pub use Rattle.admission.proofs.BuiltIn.{admission_of_table, AdmissibleTable, passed?, Each, passed_admissible, built_in_admitted, r_admitted, d_admitted, b_admitted, Judged, judged}
-- the definitions
pub use Rattle.admission.specs.Admission.{SystemNumber, refusal_number}
unfoldable pub use Rattle.admission.specs.Admission.{admission_of, row_verdict, rows_verdict}
pub use Rattle.admission.specs.Admitted.{Admissible, Digits, Full, SystemCase}
pub use Rattle.admission.specs.Types.{Admitted}
