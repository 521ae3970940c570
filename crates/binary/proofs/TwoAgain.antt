-- A stopped run over two words, called again with exactly the bytes of each word that it didn't take and the room it didn't fill, stops the same way, with counts 0; and called with
-- more bytes of either word, more room, or all of them, it goes on as one call with all of it would have: a run may be cut anywhere, whatever the first call ended with.
-- What holds of every judged run (crates/runs), read in these words.
use Rattle.whole.proofs.Laws.{◌≡◌, sym, ap, ◌∙◌, List, ◌++◌, ℕ, ◌-◌, ◌≤◌, arith, length, drop, length-append}
use Rattle.digits.proofs.Laws.{System}
use Rattle.runs.proofs.Laws.{Supply, Deed, spend, join, written, Course, judged_run, room_left, written_twice, judged_stops_again, judged_cut_anywhere}
use Rattle.states.proofs.Laws.{Stop, Refused}
use Rattle.steps.proofs.Laws.{setting}
use Rattle.runs.specs.Run as course
use Rattle.two_states.proofs.Laws.{TwoState}
use Rattle.two_steps.proofs.Laws.{pairs, two_words, lawful, steady}
use Rattle.binary.specs.TwoRun.{two_refusal, two_course, leaves, two_run, untaken_x, untaken_y, unfilled, same_stop, followed_by}
use Rattle.binary.proofs.TwoRuns.{accepted_again, course_in_range}

-- ---- what is left of two words and the room is again two words and room

unspent : (d : Deed) (xs ys output : List ℕ) →
    spend d (two_words xs ys (length output)) ≡ two_words (drop (length d.x) xs) (drop (length d.y) ys) (length (drop (length d.digits) (written d.digits output)))
unspent d xs ys output =
    let no-list : 0 - length d.divisors ≡ 0 = omega arith in
    λ i. record { x = drop (length d.x) xs; y = drop (length d.y) ys; room = room_left d.digits output i; list = no-list i }

joined : (xs us ys vs out more : List ℕ) → join (two_words xs ys (length out)) (two_words us vs (length more)) ≡ two_words (xs ++ us) (ys ++ vs) (length (out ++ more))
joined xs us ys vs out more = λ i. record { x = xs ++ us; y = ys ++ vs; room = sym (length-append out more) i; list = 0 }

-- the counts add up, and the digits are appended
both : (q p : Course TwoState Stop) (out more : List ℕ) → length q.did.digits ≤ length out → let r = leaves q out in
    leaves (course.followed_by q p) (out ++ more) ≡ followed_by r (leaves p (unfilled r ++ more))
both q p out more h =
    λ i. record {
      answer = record {
        stop = p.stop;
        x = record { 0 = length-append q.did.x p.did.x i };
        y = record { 0 = length-append q.did.y p.did.y i };
        written = record { 0 = length-append q.did.digits p.did.digits i };
        state = p.state;
      };
      output = written_twice q.did.digits p.did.digits out more h i;
    }

module _ (a b : System) (s : TwoState) where
  abbrev again : TwoState → Supply → Course TwoState Stop
  again = judged_run (pairs (setting a b)) Refused (two_refusal (setting a b))

  pub stops_again : (xs ys out : List ℕ) → let r = two_run a b s xs ys out in two_run a b r.answer.state (untaken_x xs r) (untaken_y ys r) (unfilled r) ≡ same_stop r
  unfolding two_run two_course
  stops_again xs ys out =
      let q = two_course a b s xs ys (length out) in
      let r = leaves q out in
      ap (λ (p : Course TwoState Stop). leaves p (unfilled r))
      (ap (again q.state) (sym (unspent q.did xs ys out)) ∙
      judged_stops_again (lawful (setting a b)) Refused (two_refusal (setting a b)) (accepted_again (setting a b)) s (two_words xs ys (length out)))

  pub cut_anywhere : (xs us ys vs out more : List ℕ) → let r = two_run a b s xs ys out in
      two_run a b s (xs ++ us) (ys ++ vs) (out ++ more) ≡ followed_by r (two_run a b r.answer.state (untaken_x xs r ++ us) (untaken_y ys r ++ vs) (unfilled r ++ more))
  unfolding two_run two_course
  cut_anywhere xs us ys vs out more =
      let first = two_words xs ys (length out) in
      let q = two_course a b s xs ys (length out) in
      let r = leaves q out in
      let m = two_words us vs (length more) in
      let behind : join (spend q.did first) m ≡ two_words (untaken_x xs r ++ us) (untaken_y ys r ++ vs) (length (unfilled r ++ more)) =
      ap (λ (r : Supply). join r m) (unspent q.did xs ys out) ∙ joined (untaken_x xs r) us (untaken_y ys r) vs (unfilled r) more in
      ap (λ (p : Course TwoState Stop). leaves p (out ++ more)) (
      ap (again s) (sym (joined xs us ys vs out more)) ∙
      judged_cut_anywhere (lawful (setting a b)) Refused (two_refusal (setting a b)) (accepted_again (setting a b)) s first (steady (setting a b) m) tt ∙
      ap (λ (r : Supply). course.followed_by q (again q.state r)) behind
      ) ∙ both q (two_course a b q.state (untaken_x xs r ++ us) (untaken_y ys r ++ vs) (length (unfilled r ++ more))) out more (course_in_range a b s xs ys (length out)).pays.room
