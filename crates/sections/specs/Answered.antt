-- What code that reads a section answers: the refusal that has the section's number, or, where that is 0, how many bytes the section has, and its value.
use Rattle.std.specs.Prelude.{◌≡◌, List, ℕ, IfOk}
use Rattle.refusals.specs.Types.{Refusal, Result}
use Rattle.refusals.specs.Numbers.{outcome_number}
use Rattle.sections.specs.Types.{Part}
use Rattle.sections.specs.Section.{size_of, Present, Section, value_of, number_of}

pub record Taken {A : Type 0} (s : Section A) (bytes : List ℕ) (n : ℕ) (v : A) : Type 0 where
  pub present : Present s.limits bytes
  pub size : n ≡ size_of s.limits bytes
  pub value : v ≡ value_of s bytes

pub record Answered {A : Type 0} (s : Section A) (bytes : List ℕ) (r : Result (Part A) Refusal) : Type 0 where
  pub number : outcome_number r ≡ number_of s bytes
  pub taken : IfOk r (λ p. Taken s bytes p.size p.value)
