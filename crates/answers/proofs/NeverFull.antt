-- Lists that never fill. The program's: no file makes its run end 15, so the ends that it prints are document 01's (`program_never_15`). A plug-in's that is as long as its
-- input and its output together, and one place more: sled_run never answers 15 (`sled_list_long_enough`), whatever else it is lent.
-- The argument: a run lists at most one number for each byte taken and each digit written, and one for a digit held at its start (`list_long_enough`, crates/unary). The word
-- of a file that reads has at most 4096 bytes, the room is for at most 8192 digits, an opened state holds nothing, and the list has 4096 + 8192 places. And no other end and
-- no refusal has the number 15.
use Rattle.whole.proofs.Laws.{◌≡◌, refl, ap, true≢false, Bool, true, false, cond, List, ◌⊎◌, inl, inr, ℕ, ◌≤◌, arith, length, take, drop, ℤ}
use Rattle.digits.proofs.Laws.{StoredSystem, system_of}
use Rattle.states.proofs.Laws.{Stop, InputUsed, ListFull, NoRoom, NotADigit, RangeLeft, Refused, StepEnd, end_number, held_count, one_held}
use Rattle.opening.proofs.Laws.{open_of}
use Rattle.judging.proofs.Laws.{RefusalNumber}
use Rattle.unary.proofs.Laws.{in_range, list_long_enough, run_of}
use Rattle.job_sections.proofs.Laws.{Bytes}
use Rattle.jobs.proofs.Laws.{Reads, read_of, verdict_number}
use Rattle.printed.specs.Text.{program_list, run_in}
use Rattle.numbers.proofs.Laws.{wrong_length}
use Rattle.numbers.specs.Numbers.{state_from}
use Rattle.run_call.specs.RunCall.{after_run, ran_call, run_lengths?, run_call_of}
use Rattle.answers.specs.Calls.{LongList}
use Rattle.answers.proofs.Answers.{open_in_range, read_in_range}
use Rattle.answers.proofs.Runs.{refusal_bounds}
use lib.ListN.{length-take, length-replicate}

pub program_never_15 : (file room : List ℕ) → Bytes file → (read_of file).verdict ≡ Reads → length room ≤ 8192 →
    (run_in file (read_of file).job room).answer.stop ≡ ListFull → ⊥
program_never_15 file room b e h =
    let j = (read_of file).job in
    let word = take j.word.length (drop j.word.start file) in
    let short : length word ≤ 4096 = simp length-take (omega (arith, ((read_in_range file b).job (ap verdict_number e)).short)) in
    list_long_enough (system_of j.input) (system_of j.output) (open_of j.matrix).state word room program_list
    (omega (arith, h, short, ap held_count (open_in_range j.matrix).held, length-replicate {A = ℕ} 12288 0))

-- 15 is the number of a full list alone
full_at_15 : (e : Stop) → StepEnd e ⊎ RefusalNumber (end_number e) → end_number e ≡ 15 → e ≡ ListFull
full_at_15 InputUsed r n = absurd (omega (arith, n))
full_at_15 ListFull r n = refl
full_at_15 NoRoom r n = absurd (omega (arith, n))
full_at_15 NotADigit r n = absurd (omega (arith, n))
full_at_15 RangeLeft r n = absurd (omega (arith, n))
full_at_15 (Refused k) (inl s) n = absurd (true≢false s.not_refused)
full_at_15 (Refused k) (inr r) n = absurd ((refusal_bounds r).2 n)

pub sled_list_long_enough : (a b : StoredSystem) (input : List ℕ) (old : List ℤ) (output divisors counts : List ℕ) → LongList input output divisors →
    (run_call_of a b input old output divisors counts).number ≡ 15 → ⊥
unfolding run_call_of
sled_list_long_enough a b input old output divisors counts h = by (run_lengths? a b old counts)
  where
    by : (t : Bool) → (cond t (ran_call (run_of (system_of a) (system_of b) (state_from old) input output divisors) old) (after_run wrong_length old output divisors counts)).number ≡ 15 → ⊥
    by true n =
        let s = state_from old in
        let r = in_range (system_of a) (system_of b) s input output divisors in
        list_long_enough (system_of a) (system_of b) s input output divisors (omega (arith, h, one_held s.held))
        (full_at_15 (run_of (system_of a) (system_of b) s input output divisors).answer.stop r.stop n)
    by false n = omega (arith, n)
