-- The three kinds of section keep the laws of a section, and so the job file is read exactly as its words say, and judged so before it is written.
use Rattle.whole.proofs.Laws.{◌≡◌, refl, sym, ap, ◌∙◌, List, ◌++◌, ℕ, ◌*◌, arith, length, ℤ}
use Rattle.digits.proofs.Laws.{columns_of, rows_in, rows_of, rows_length, rows_again}
use Rattle.sections.proofs.Laws.{Lawful, nothing_lawful, then_lawful, LawfulOf, nothing_lawful_of, then_lawful_of}
use Rattle.sections.specs.Section.{Lawful as LawfulSection, Judges}
use Rattle.job_sections.specs.Layout.{two_bytes, numbers_bytes, Bytes}
use Rattle.job_sections.specs.Sections.{Sixteen, numbers_in, system, matrix, word}
use Rattle.job_sections.specs.Job.{job, written_job}
use Rattle.job_sections.proofs.Numbers.{numbers_bytes_length, numbers_read, read_numbers, numbers_16}
use Rattle.job_sections.proofs.Judgements.{system_gives, system_given, matrix_gives, matrix_given}

-- as many numbers as the bytes have, which are signed 16-bit numbers and have these bytes
record AreNumbers (k : ℕ) (body : List ℕ) : Type 0 where
  size : length (numbers_in body) ≡ k
  sixteen : Sixteen (numbers_in body)
  back : numbers_bytes (numbers_in body) ≡ body

are_numbers : (k : ℕ) (body : List ℕ) → Bytes body → length body ≡ 2 * k → AreNumbers k body
are_numbers k body h e =
    let back = read_numbers k body h e in
    record { size = omega (arith, numbers_bytes_length (numbers_in body), ap length back); sixteen = numbers_16 body h; back = back }

pub system_lawful : LawfulSection system
system_lawful = record {
  refused = omega arith;
  says = λ n body h w.
      let zs = numbers_in body in
      let a = are_numbers (8 * n) body h (omega (arith, w.size)) in
      let e : rows_in (8 * n) (columns_of zs) ≡ zs = rows_again w.few zs a.size in (
        record { some_digits = w.some; few_digits = w.few; numbers = rw e a.sixteen; unused = ap columns_of (sym e) },
        ap (λ (l : List ℤ). two_bytes n ++ numbers_bytes l) e ∙ ap (λ (l : List ℕ). two_bytes n ++ l) a.back,
      );
  said = λ s h. (
    record {
      some = h.some_digits;
      few = h.few_digits;
      size = omega (arith, numbers_bytes_length (rows_of s), rows_length (8 * s.count) s.columns);
    },
    λ i. record { count = s.count; columns = (ap columns_of (numbers_read (rows_of s) h.numbers) ∙ sym h.unused) i },
  );
  gives = λ s h. system_gives s;
  given = λ s number h. system_given s number;
}

pub matrix_lawful : LawfulSection matrix
matrix_lawful = record {
  refused = omega arith;
  says = λ n body h w.
      let a = are_numbers 4 body h (omega (arith, w.some, w.few, w.size)) in
      let e : 4 ≡ n = omega (arith, w.some, w.few) in
      (record { four = a.size; numbers = a.sixteen }, λ i. two_bytes (e i) ++ a.back i);
  said = λ m h. (
    record { some = omega arith; few = omega arith; size = omega (arith, numbers_bytes_length m, h.four) },
    numbers_read m h.numbers,
  );
  gives = λ m h. matrix_gives m;
  given = λ m number h. matrix_given m number;
}

pub word_lawful : LawfulSection word
word_lawful = record {
  refused = omega arith;
  says = λ n body h w. (record { short = omega (arith, w.few, w.size); bytes = h }, ap (λ (k : ℕ). two_bytes k ++ body) (omega (arith, w.size)));
  said = λ w h. (record { some = omega arith; few = h.short; size = omega arith }, refl);
  gives = λ w h. refl;
  given = λ w number h e. sym e;
}

pub job_lawful : Lawful job
job_lawful = then_lawful _ _ system_lawful (then_lawful _ _ system_lawful (then_lawful _ _ matrix_lawful (then_lawful _ _ word_lawful nothing_lawful)))

-- ---- before it is written: a number is given of every value

pub system_judges : Judges system
system_judges = record { gives = system_gives; given = system_given }

pub matrix_judges : Judges matrix
matrix_judges = record { gives = matrix_gives; given = matrix_given }

pub word_judges : Judges word
word_judges = record { gives = λ w. refl; given = λ w number e. sym e }

pub written_job_lawful : LawfulOf written_job
written_job_lawful =
    then_lawful_of _ _ system_lawful system_judges
    (then_lawful_of _ _ system_lawful system_judges
    (then_lawful_of _ _ matrix_lawful matrix_judges
    (then_lawful_of _ _ word_lawful word_judges nothing_lawful_of)))
