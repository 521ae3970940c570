-- What the crates above may use of this one: `use Rattle.whole.proofs.Laws.{..}`. proofs/Worked.antt shows how `law` and `claim` are written.

-- identities: `law 2 (λ a b. (a ⊕ b) ⊗ .. ≗ ..) tt`
pub use Rattle.whole.proofs.Polynomial.{E, con, ◌⊕◌, ◌⊖◌, ◌⊗◌, ⊝◌}
pub use Rattle.whole.proofs.Law.{#, ◌≗◌, law, Ident, by_ring, left_over, term}
-- claims: `claim 2 (λ a b. a ≺ b ⇒ .. from linear) tt`
pub use Rattle.whole.proofs.Certificate.{◌≦◌, ◌≺◌, ◌≈◌, never, Cert, h, num, sq, dec, ◌⊞◌, ◌⊠◌, ◌⊡◌}
pub use Rattle.whole.proofs.Search.{linear, quadratic, ◌&◌}
pub use Rattle.whole.proofs.Claim.{Seq, ◌⇒◌, ◌by◌, ◌from◌, claim, Fact, fact, found}
-- the order
pub use Rattle.whole.proofs.Order.{gap, nn_mul, ps_mul, nn_sq, lt_of_sub, ≤-of-<, <-or-≥, ≤-by, <-by, ≤-antisym}
pub use Rattle.whole.proofs.Cases.{Tri, less, same, more, tri, np_np_mul, factor_nn, factor_np, product_ps, zero_product, cancel_pos}
-- natural numbers, up into ℤ and down again
pub use Rattle.whole.proofs.Cases.{up≤, up<, down≤, down<, down≡, nat}
-- what a test says, and when it comes out so
pub use Rattle.whole.proofs.Test.{lt_true, lt_false, le_true, le_false, true_lt, false_lt, true_le, false_le, both_true, true_both, false_by, true_by}
-- magnitudes and ranges
pub use Rattle.whole.proofs.Range.{nat_abs_neg, nat_abs_zero, near_le, near_neg, near_mul, near_add, near_sub, near_quot, within_le, within_says, says_within}
-- machine words: what fits is read back, casts, and what stands for a number
pub use Rattle.whole.proofs.Machine.{near_fits, back, near_back, ok_back, back_of_lem, held, Fits, size, widen_fits, widen_back, narrow_fits, narrow_back, element_16, unsigned_ok}
pub use Rattle.whole.proofs.Machine.{Stands, stored, literal, unsigned, mul_ok, add_ok, sub_ok, mul_stands, add_stands, sub_stands}
-- greatest common divisors
pub use Rattle.whole.proofs.Divisor.{gcd_divides_left, gcd_divides_right, gcd_greatest, quot_exact, gcd4_divides, gcd4_greatest, gcd4_zero, gcd4_times}
pub use Rattle.whole.proofs.Divisor.{Times, Times4, divided_times, up4, down4, one4, reduced, reduced_only}
-- the first number that passes a test: a loop that searches, and what its answer says
pub use Rattle.whole.proofs.First.{StandingFrom, begins_from, misses_from, hits_from, ends_from, Standing, begins, misses, hits, ends, Found, first_found, first_none, found_first, none_first, found_split, first_same}
pub use Rattle.whole.proofs.First.{any_first, all_first}
pub use Rattle.whole.proofs.First.{Passing, some_passes, none_passes, every_passes, one_fails, some_same, every_same}
-- "0 passes, else the number decides"
pub use Rattle.whole.proofs.Refusal.{passed, decided}
-- lists: a loop that copies numbers, and what makes two lists the same
pub use Rattle.whole.proofs.Lists.{Copied, copy_none, copy_one, copied, same_list}
-- a lent list into which something was written, also into its rest
pub use Rattle.whole.proofs.Written.{behind_unchanged, front_written, length_written, written_both, room_left, written_twice, put_behind}
-- the words of the library
pub use Rattle.whole.proofs.Base.{*ℤ_comm, *ℤ-zero, +ℤ_assoc, +ℤ_comm, +ℤ_idl, +ℤ_idr, +ℤ_invl, Bool, List, List·getD-append, List·getD-eq-default, Option, T, T_not}
pub use Rattle.whole.proofs.Base.{[], ◌%◌, ◌&&◌, ◌*◌, ◌*ℤ◌, ◌++◌, ◌+◌, ◌+ℤ◌, ◌-◌, ◌-ℤ◌, ◌/◌, ◌<◌, ◌<ℤ◌, ◌^◌, ◌||◌, ◌↔◌, ◌∙◌, ◌∣◌, ◌∷◌, ◌≡◌, ◌≤◌, ◌≤ℤ◌, ◌⊎◌, add-one}
pub use Rattle.whole.proofs.Base.{add-zero, ap, append_assoc, append-nil, ap₂, arith, clash_ℤ, cond, dec_le, dec_lt, div-le_self, drop, drop-append-le, drop_at}
pub use Rattle.whole.proofs.Base.{drop-drop, drop_of_length-le, eq-eqb, eq-zero-or-pos, eqb, eqb-true, eqb→eq, false, false≢true, get_or, get_or-take, inl, inr, le-leb}
pub use Rattle.whole.proofs.Base.{le-ltb, le_refl, le_trans, le_z, le_z_yes, leb, leb→le, length, length-append, length-drop, length-set, length-take-le, le→leb, lt-leb}
pub use Rattle.whole.proofs.Base.{lt-ltb, lt_of_le_of_lt, lt_z, lt_z_no, lt_z_yes, ltb, ltb-true, ltb→lt, lt→ltb, mag, map, mod-add-div, mul-le-mul, mul-le-mul_left}
pub use Rattle.whole.proofs.Base.{nat_abs, ne_eqb, negsuc, neg_ℤ, none, not, not-false, not-true, one-dvd, pos, quot_z, refl, replicate, set, sets, some}
pub use Rattle.whole.proofs.Base.{subst, subst₂, suc, sym, take, take-add, take_all, take-append-drop, take-append_seam, take_at, take-suc, true, true≢false, zero}
pub use Rattle.whole.proofs.Base.{zero-*ℤ, zero-le, ℕ, ℕ_discrete, ℤ}
-- the definitions
pub use Rattle.whole.specs.Divisor.{Divides4, Exact, divided, lowest?}
unfoldable pub use Rattle.whole.specs.Divisor.{gcd, gcd4, gcd_by}
pub use Rattle.whole.specs.First.{found?, some_below?, every_below?}
unfoldable pub use Rattle.whole.specs.First.{first}
pub use Rattle.whole.specs.Range.{Near, Within, at}
unfoldable pub use Rattle.whole.specs.Range.{within?}
unfoldable pub use Rattle.whole.specs.Refusal.{unless_refused}
pub use Rattle.whole.specs.Written.{written}
