-- The range of what admitting, opening, reading and writing answer. Each goes by the case of its answer: what it says is known (`admission_number`, `opens`, `reads_laid`,
-- `refuses_exactly`, `judged_says`), and the numbers are read off it.
use Rattle.whole.proofs.Laws.{◌≡◌, refl, sym, ap, subst, List, inl, inr, ℕ, ◌≤◌, dec_lt, arith, length, ℤ, length_written}
use Rattle.plane.proofs.Laws.{cancel_of, cancel_within}
use Rattle.digits.proofs.Laws.{System}
use Rattle.admission.proofs.Laws.{admission_of, admission_number}
use Rattle.states.proofs.Laws.{StateRules}
use Rattle.opening.proofs.Laws.{Opening, Opens, Ok, Err, Start, OpeningCase, opening_number, open_of, refused_start, start_of, opens, hands_out, opened_rules}
use Rattle.refusals.proofs.Numbers.{numbered}
use Rattle.sections.proofs.Laws.{writes, refuses_value}
use Rattle.job_sections.proofs.Laws.{Bytes, Contents, layout_of, written_job, parts_of, file_size, layout_size}
use Rattle.job_writing.proofs.Laws.{Writing, Written, NotWritten, wrote, judged_of, write_of, Says, judged_says, refused_leaves, short_leaves, file_leaves}
use Rattle.jobs.proofs.Laws.{Verdict, Reads, Refused, read_of, reads_laid, layout_length, refuses_exactly, refused_no_job}
use Rattle.jobs.specs.Reading.{reading_of}
use Rattle.answers.specs.Numbers.{MatrixNumber, UnwrittenNumber}
use Rattle.answers.specs.Answers.{AdmissionInRange, StartInRange, ReadingInRange, WritingInRange}
use Rattle.answers.proofs.Sections.{refusing, opening_number_lem, matrix_above, refuses_number, section_few, contents_number}

pub admit_in_range : (s : System) → AdmissionInRange (admission_of s)
admit_in_range = admission_number

-- ---- opening

refused_in_range : (v : Opening) → MatrixNumber (opening_number v) → StartInRange (refused_start v)
refused_in_range v k = record {
  number = inr k;
  four = refl;
  entries = record { n0 = record { near = omega arith }; n1 = record { near = omega arith }; n2 = record { near = omega arith }; n3 = record { near = omega arith } };
  held = refl;
  opened = λ e. absurd (omega (arith, e, matrix_above k));
  refused = λ h. refl;
}

start_in_range : (m : List ℤ) (v : Opening) → (open_of m).opening ≡ v → OpeningCase m v → StartInRange (start_of m v)
unfolding cancel_of
start_in_range m (Ok u) e c = record {
  number = inl refl;
  four = refl;
  entries = cancel_within c.0;
  held = refl;
  opened = λ z n. subst (λ (r : Start). StateRules n r.state) (hands_out m Opens e) (opened_rules m e n);
  refused = λ h. absurd (omega (arith, h));
}
start_in_range m (Err r) e c = refused_in_range (Err r) (refusing MatrixNumber (opening_number_lem m (Err r) c) (numbered r))

pub open_in_range : (m : List ℤ) → StartInRange (open_of m)
open_in_range m =
    let v = (open_of m).opening in
    subst StartInRange (sym (hands_out m v refl)) (start_in_range m v refl ((opens m v).0 refl))

-- ---- reading

pub read_in_range : (file : List ℕ) → Bytes file → ReadingInRange file (read_of file)
unfolding reading_of
read_in_range file b = by (read_of file).verdict refl
  where
    by : (v : Verdict) → (read_of file).verdict ≡ v → ReadingInRange file (read_of file)
    by Reads e =
        let w = reads_laid file b e in
        let c = w.rules in
        subst (ReadingInRange file) (sym w.answer) (record {
          number = inl refl;
          section = omega arith;
          reads = λ z. refl;
          job = λ z. record {
            input = c.input;
            output = c.output;
            matrix = c.matrix;
            short = c.word.short;
            inside = omega (arith, ap length w.layout, layout_length w.contents c);
          };
          refused = λ h. absurd (omega (arith, h));
        })
    by (Refused number section) e =
        let given = refuses_number file number section ((refuses_exactly file b number section).0 e) in
        let few = section_few section number given in
        subst (ReadingInRange file) (sym (refused_no_job file b number section e)) (record {
          number = inr given;
          section = few.0;
          reads = λ z. absurd (omega (arith, z, few.1));
          job = λ z. absurd (omega (arith, z, few.1));
          refused = λ h. refl;
        })

-- ---- writing

unwritten_in_range : (buffer : List ℕ) (number section : ℕ) → UnwrittenNumber buffer section number → WritingInRange buffer (wrote (NotWritten number section) buffer)
unwritten_in_range buffer number section g = record { answer = g; room = refl; untouched = λ h. refl }

module _ (c : Contents) (buffer : List ℕ) (four : length c.matrix ≡ 4) where
  -- what passes the judgement has counts in their ranges, and so has its file
  passed_in_range : written_job.Writes (parts_of c) → judged_of c ≡ Written (length (layout_of c)) → WritingInRange buffer (write_of c buffer)
  passed_in_range k e =
      let size = layout_size c four in
      let least : 48 ≤ file_size c = omega (arith, k.0.counted.some, k.1.0.counted.some) in
      let most : file_size c ≤ 4624 = omega (arith, k.0.counted.few, k.1.0.counted.few, k.1.1.1.0.counted.few) in
      elim (dec_lt (length buffer) (length (layout_of c))) [
        | yes h ↦ subst (WritingInRange buffer) (short_leaves c buffer e h) (unwritten_in_range buffer 14 0 (inr (record { fourteen = refl; first = refl; short = omega (arith, size) })))
        | no h ↦ subst (WritingInRange buffer) (file_leaves c buffer e (omega arith)) (record {
          answer = record { least = omega (arith, size); most = omega (arith, size); inside = omega arith };
          room = length_written (layout_of c) buffer (omega arith);
          untouched = λ n. absurd (omega (arith, n));
        })
      ]

  pub write_in_range : WritingInRange buffer (write_of c buffer)
  write_in_range = by (judged_of c) (judged_says c) refl
    where
      by : (r : Writing) → Says c r → judged_of c ≡ r → WritingInRange buffer (write_of c buffer)
      by r (writes k) e = passed_in_range k e
      by r (refuses_value number section u) e =
          subst (WritingInRange buffer) (refused_leaves c buffer (sym e) refl) (unwritten_in_range buffer number section (inl (contents_number c number section u)))
