-- What writing leaves says something of the contents (`write_says`), and whatever is so is what writing leaves (`said_written`): a file is written, or refused by a number in a
-- section, exactly when. `written_is_layout`, `writes_only` and `room_enough` are read off.
use Rattle.whole.proofs.Laws.{◌≡◌, refl, sym, ap, ◌∙◌, subst, subst₂, List, ◌↔◌, ℕ, ◌≤◌, dec_le, arith, length, drop, behind_unchanged, length_written, written}
use Rattle.sections.proofs.Laws.{writes, refuses_value}
use Rattle.job_sections.proofs.Laws.{Contents, layout_of, Rules}
use Rattle.job_writing.proofs.Laws.{Writing, Written, NotWritten, Wrote, wrote, written_bytes, judged_of, write_of, Says, judged_says, said_judged, written_not_refused, same_size, judged_leaves, short_leaves, file_leaves}
use Rattle.jobs.proofs.Laws.{largest}
use Rattle.round_trips.proofs.AsRead.{same_layout_read, rules_as_read, writes_as_read}
use Rattle.round_trips.specs.Writes.{Handed, as_read, WriteRefuses, unwritable, too_short, Outcome, saves, refuses}

-- what a file that was written is
pub record IsLayout (c : Contents) (buffer : List ℕ) (n : ℕ) : Type 0 where
  pub rules : Rules (as_read c)
  pub size : n ≡ length (layout_of (as_read c))
  pub room : n ≤ length buffer
  pub bytes : (write_of c buffer).buffer ≡ written (layout_of (as_read c)) buffer

same_refusal : {n s number section : ℕ} → NotWritten n s ≡ NotWritten number section → (n ≡ number) × (s ≡ section)
same_refusal e = (cc, cc)

-- what keeps the rules as it is read has the bytes of that
same_file : (c : Contents) → Rules (as_read c) → layout_of c ≡ layout_of (as_read c)
same_file c h = sym (same_layout_read c h.input.admissible.few_digits h.output.admissible.few_digits)

module _ (c : Contents) (buffer : List ℕ) where
  -- ---- what is so is what writing leaves

  judged_file : Rules (as_read c) → judged_of c ≡ Written (length (layout_of (as_read c)))
  judged_file h = said_judged c _ (writes (writes_as_read c h)) ∙ ap (λ (l : List ℕ). Written (length l)) (same_file c h)

  pub said_written : (w : Wrote) → Outcome c buffer w → write_of c buffer ≡ w
  said_written _ (saves h room) =
      sym (file_leaves c buffer (judged_file h) room) ∙ ap (λ (l : List ℕ). wrote (Written (length (layout_of (as_read c)))) (written l buffer)) (same_file c h)
  said_written _ (refuses (unwritable {number} {section} u)) = judged_leaves c buffer (said_judged c _ (refuses_value number section u))
  said_written _ (refuses (too_short h less)) = sym (short_leaves c buffer (judged_file h) less)

  -- ---- and what writing leaves is so

  left : {w : Wrote} → Outcome c buffer w → Outcome c buffer (write_of c buffer)
  left {w} o = subst (Outcome c buffer) (sym (said_written w o)) o

  pub write_says : Handed c → Outcome c buffer (write_of c buffer)
  write_says h = by (judged_of c) (judged_says c)
    where
      by : (r : Writing) → Says c r → Outcome c buffer (write_of c buffer)
      by r (writes k) =
          let rules = rules_as_read c h k in
          elim (dec_le (length (layout_of (as_read c))) (length buffer)) [
            | yes room ↦ left (saves rules room)
            | no room ↦ left (refuses (too_short rules (omega arith)))
          ]
      by r (refuses_value number section u) = left (refuses (unwritable u))

  -- ---- read off

  -- "each number and section exactly when"
  pub write_refuses_exactly : Handed c → (number section : ℕ) → ((write_of c buffer).answer ≡ NotWritten number section) ↔ WriteRefuses c buffer number section
  write_refuses_exactly h number section = (
    λ e. by (write_of c buffer) (write_says h) e,
    λ r. ap (λ (w : Wrote). w.answer) (said_written _ (refuses r)),
  )
    where
      by : (w : Wrote) → Outcome c buffer w → w.answer ≡ NotWritten number section → WriteRefuses c buffer number section
      by w (saves rules room) e = absurd (written_not_refused e)
      by w (refuses r) e = let k = same_refusal e in subst₂ (WriteRefuses c buffer) k.0 k.1 r

  -- "the bytes are those of the layout, unused digits as 0", and behind them what stood there
  pub written_is_layout : Handed c → {n : ℕ} → (write_of c buffer).answer ≡ Written n → IsLayout c buffer n
  written_is_layout h {n} e = by (write_of c buffer) (write_says h) refl e
    where
      by : (w : Wrote) → Outcome c buffer w → write_of c buffer ≡ w → w.answer ≡ Written n → IsLayout c buffer n
      by w (saves rules room) o e = let k = same_size e in record { rules = rules; size = sym k; room = omega arith; bytes = ap (λ (w : Wrote). w.buffer) o }
      by w (refuses r) o e = absurd (written_not_refused (sym e))

  -- "Bytes past the file stay"; "nothing written" where it is refused, for which 0 bytes count as written
  pub writes_only : Handed c → let w = write_of c buffer in (drop (written_bytes w.answer) w.buffer ≡ drop (written_bytes w.answer) buffer) × (length w.buffer ≡ length buffer)
  writes_only h = by (write_of c buffer) (write_says h)
    where
      by : (w : Wrote) → Outcome c buffer w → (drop (written_bytes w.answer) w.buffer ≡ drop (written_bytes w.answer) buffer) × (length w.buffer ≡ length buffer)
      by w (saves rules room) = let file = layout_of (as_read c) in (behind_unchanged file buffer, length_written file buffer room)
      by w (refuses r) = (refl, refl)

  -- "The largest file is 4,624 bytes": a job that keeps the rules is written into any buffer of as many
  pub room_enough : Rules (as_read c) → 4624 ≤ length buffer → (write_of c buffer).answer ≡ Written (length (layout_of (as_read c)))
  room_enough h room = ap (λ (w : Wrote). w.answer) (said_written _ (saves h (omega (arith, largest (as_read c) h))))
