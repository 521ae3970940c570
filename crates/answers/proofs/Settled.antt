-- "The largest file is 4,624 bytes": there is one, of 16 digits twice (the digits of B, two times over) and a word of 4096 bytes; `largest` (crates/jobs) has that none is
-- longer. So the program's text depends only on the first 4,625 bytes of its input: a file that reads has no more, and of one that is refused only the number and the
-- section are printed, which these bytes settle.
use Rattle.whole.proofs.Laws.{◌≡◌, refl, ap, ◌∙◌, List, [], ◌∷◌, ◌++◌, ℕ, zero, suc, ◌<◌, arith, length, get_or, take, take_all, replicate, pos}
use Rattle.plane.proofs.Laws.{determinant_of}
use Rattle.digits.proofs.Laws.{StoredSystem, system_of, stored, rows_in, rows_b}
use Rattle.admission.proofs.Laws.{Admitted, admitted_exactly, judged}
use Rattle.job_sections.proofs.Laws.{Bytes, Contents, Rules, SystemRules, layout_of}
use Rattle.jobs.proofs.Laws.{Job, Reading, Verdict, Reads, Refused, read_of, reads_laid, layout_length, largest, settled}
use Rattle.printed.specs.Text.{printed_by, printed, filled_on, filled_by}
use lib.ListN.{length-replicate}

-- ---- the largest file

zeros : (n i : ℕ) → get_or (replicate n 0) i 0 < 256
zeros zero i = omega arith
zeros (suc n) zero = omega arith
zeros (suc n) (suc i) = zeros n i

abbrev sixteen : StoredSystem
sixteen = stored (rows_b ++ rows_b)

sixteen_rules : SystemRules sixteen
unfolding rows_b stored rows_in
sixteen_rules = record { admissible = (admitted_exactly (system_of sixteen) Admitted).0 judged.sixteen_twice; unused = refl }

abbrev largest_job : Contents
largest_job = record { input = sixteen; output = sixteen; matrix = pos 1 ∷ pos 0 ∷ pos 0 ∷ pos 1 ∷ []; word = replicate 4096 0 }

largest_rules : Rules largest_job
unfolding determinant_of
largest_rules = record {
  input = sixteen_rules;
  output = sixteen_rules;
  matrix = record {
    four = refl;
    in_range = record { n0 = record { near = omega arith }; n1 = record { near = omega arith }; n2 = record { near = omega arith }; n3 = record { near = omega arith } };
    above = record { lt = tt };
  };
  word = record { short = omega (arith, length-replicate {A = ℕ} 4096 0); bytes = record { byte = zeros 4096 } };
}

pub largest_reached : (c : Contents) × Rules c × (length (layout_of c) ≡ 4624)
unfolding rows_b stored
largest_reached = (largest_job, largest_rules, omega (arith, layout_length largest_job largest_rules, length-replicate {A = ℕ} 4096 0))

-- ---- what the first 4,625 bytes settle

-- anything that is made of the file, its job and its verdict, and of a refused one not of the file
settled_by : (made : List ℕ → Job → Verdict → List ℕ) → ((f g : List ℕ) (j : Job) (number section : ℕ) → made f j (Refused number section) ≡ made g j (Refused number section)) →
    (file : List ℕ) → Bytes file → let first = take 4625 file in made first (read_of first).job (read_of first).verdict ≡ made file (read_of file).job (read_of file).verdict
settled_by made same file b =
    ap (λ (r : Reading). made (take 4625 file) r.job r.verdict) (settled file) ∙ by (read_of file).verdict refl
  where
    by : (v : Verdict) → (read_of file).verdict ≡ v → made (take 4625 file) (read_of file).job v ≡ made file (read_of file).job v
    by Reads e =
        let w = reads_laid file b e in
        ap (λ (f : List ℕ). made f (read_of file).job Reads) (take_all 4625 file (omega (arith, ap length w.layout, largest w.contents w.rules)))
    by (Refused number section) e = same (take 4625 file) file (read_of file).job number section

-- "It reads a job on standard input, gives room for 8,192 digits and prints three lines"
pub printed_settled : (file room : List ℕ) → Bytes file → printed (take 4625 file) room ≡ printed file room
unfolding printed
printed_settled file room b = settled_by (λ f j v. printed_by f j room v) (λ f g j number section. refl) file b

pub filled_settled : (file room : List ℕ) → Bytes file → filled_by (take 4625 file) room ≡ filled_by file room
unfolding filled_by
filled_settled file room b = settled_by (λ f j v. filled_on f j room v) (λ f g j number section. refl) file b
