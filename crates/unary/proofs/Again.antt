-- "A stopped run called again with exactly the bytes it didn't take and the room it didn't fill stops the same way, 0 and 0", with what is left of its list too; and called
-- with more bytes, more room, more list, or all of them, it goes on as one call with all of it would have: a run may be cut anywhere, whatever the first call ended with.
-- What holds of every judged run (crates/runs), read in document 01's words.
use Rattle.whole.proofs.Laws.{◌≡◌, sym, ap, ◌∙◌, List, [], ◌++◌, ℕ, ◌≤◌, length, drop, length-append}
use Rattle.digits.proofs.Laws.{System}
use Rattle.runs.proofs.Laws.{Supply, Deed, spend, join, written, Course, judged_run, room_left, written_twice, judged_stops_again, judged_cut_anywhere}
use Rattle.states.proofs.Laws.{State, Stop, Refused}
use Rattle.steps.proofs.Laws.{setting, plain, one_word, lawful, steady}
use lib.Seq.{drop-nil}
use Rattle.runs.specs.Run as course
use Rattle.judging.proofs.Laws.{refusal_of}
use Rattle.unary.specs.Run.{course_of, leaves, run_of, untaken, unfilled, unlisted, same_stop, followed_by}
use Rattle.unary.proofs.Runs.{accepted_again, course_in_range}

-- ---- what is left of one word and the lent lists is again one word and lists

unspent : (d : Deed) (input output divisors : List ℕ) →
    spend d (one_word input (length output) (length divisors)) ≡
    one_word (drop (length d.x) input) (length (drop (length d.digits) (written d.digits output))) (length (drop (length d.divisors) (written d.divisors divisors)))
unspent d input output divisors =
    λ i. record { x = drop (length d.x) input; y = drop-nil (length d.y) i; room = room_left d.digits output i; list = room_left d.divisors divisors i }

joined : (u v out more list rest : List ℕ) →
    join (one_word u (length out) (length list)) (one_word v (length more) (length rest)) ≡ one_word (u ++ v) (length (out ++ more)) (length (list ++ rest))
joined u v out more list rest = λ i. record { x = u ++ v; y = []; room = sym (length-append out more) i; list = sym (length-append list rest) i }

-- the counts add up, and the digits and the divisors are appended
both : (q p : Course State Stop) (out more list rest : List ℕ) → length q.did.digits ≤ length out → length q.did.divisors ≤ length list → let r = leaves q out list in
    leaves (course.followed_by q p) (out ++ more) (list ++ rest) ≡ followed_by r (leaves p (unfilled r ++ more) (unlisted r ++ rest))
both q p out more list rest h k =
    λ i. record {
      answer = record {
        stop = p.stop;
        taken = record { 0 = length-append q.did.x p.did.x i };
        written = record { 0 = length-append q.did.digits p.did.digits i };
        listed = record { 0 = length-append q.did.divisors p.did.divisors i };
        state = p.state;
      };
      output = written_twice q.did.digits p.did.digits out more h i;
      divisors = written_twice q.did.divisors p.did.divisors list rest k i;
    }

module _ (a b : System) (s : State) where
  abbrev again : State → Supply → Course State Stop
  again = judged_run (plain (setting a b)) Refused (refusal_of (setting a b))

  pub stops_again : (inp out list : List ℕ) → let r = run_of a b s inp out list in run_of a b r.answer.state (untaken inp r) (unfilled r) (unlisted r) ≡ same_stop r
  unfolding run_of course_of
  stops_again inp out list =
      let q = course_of a b s inp (length out) (length list) in
      let r = leaves q out list in
      ap (λ (p : Course State Stop). leaves p (unfilled r) (unlisted r))
      (ap (again q.state) (sym (unspent q.did inp out list)) ∙
      judged_stops_again (lawful (setting a b)) Refused (refusal_of (setting a b)) (accepted_again (setting a b)) s (one_word inp (length out) (length list)))

  pub cut_anywhere : (u v out more list rest : List ℕ) → let r = run_of a b s u out list in
      run_of a b s (u ++ v) (out ++ more) (list ++ rest) ≡ followed_by r (run_of a b r.answer.state (untaken u r ++ v) (unfilled r ++ more) (unlisted r ++ rest))
  unfolding run_of course_of
  cut_anywhere u v out more list rest =
      let first = one_word u (length out) (length list) in
      let q = course_of a b s u (length out) (length list) in
      let r = leaves q out list in
      let m = one_word v (length more) (length rest) in
      let range = (course_in_range a b s u (length out) (length list)).pays in
      let behind : join (spend q.did first) m ≡ one_word (untaken u r ++ v) (length (unfilled r ++ more)) (length (unlisted r ++ rest)) =
      ap (λ (r : Supply). join r m) (unspent q.did u out list) ∙ joined (untaken u r) v (unfilled r) more (unlisted r) rest in
      ap (λ (p : Course State Stop). leaves p (out ++ more) (list ++ rest)) (
      ap (again s) (sym (joined u v out more list rest)) ∙
      judged_cut_anywhere (lawful (setting a b)) Refused (refusal_of (setting a b)) (accepted_again (setting a b)) s first (steady (setting a b) m) tt ∙
      ap (λ (r : Supply). course.followed_by q (again q.state r)) behind
      ) ∙ both q (course_of a b q.state (untaken u r ++ v) (length (unfilled r ++ more)) (length (unlisted r ++ rest))) out more list rest range.room range.list
