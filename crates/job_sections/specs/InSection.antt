-- "The answer is the number and the section": what is answered about a section, with the section beside a refusal.
use Rattle.std.specs.Prelude.{ℕ}
use Rattle.refusals.specs.Types.{Refusal, Result, Ok, Err}
use Rattle.job_sections.specs.Types.{FileRefusal}

abbrev pub in_section : {A : Type 0} → Result A Refusal → ℕ → Result A FileRefusal
in_section (Ok v) section = Ok v
in_section (Err r) section = Err (record { refusal = r; section = section })
