-- The words of the library that proofs use, so that a file brings them by one line: here for this crate, and by Laws for the crates above.
pub use Prim.Native.Nat.{◌%◌, ◌*◌, ◌+◌, ◌-◌, ◌/◌, ◌<◌, ◌^◌, ◌∣◌, ◌≤◌, suc, zero, zero-le, ℕ}
pub use borrow.Author.Rules.{rules}
pub use borrow.Author.Tests.{eq-eqb, eqb-true, le-leb, le-ltb, lt-leb, lt-ltb, ltb-true, ne_eqb, not-false, not-true}
pub use lib.Dec.{T, T_not, eqb, eqb→eq, leb, leb→le, le→leb, ltb, ltb→lt, lt→ltb}
pub use lib.IntN.{*ℤ_comm, *ℤ-zero, +ℤ_assoc, +ℤ_comm, +ℤ_idl, +ℤ_idr, +ℤ_invl, ◌*ℤ◌, ◌+ℤ◌, ◌-ℤ◌, nat_abs, negsuc, neg_ℤ, pos, zero-*ℤ, ℤ}
pub use lib.ListN.{get_or-append as List·getD-append, get_or-eq_default as List·getD-eq-default, drop, drop_of_length-le, get_or, length, length-append, length-drop, length-set, replicate, set, take, take-append-drop}
pub use lib.Seq.{drop-append-le, drop_at, drop-drop, get_or-take, length-take-le, sets, take-add, take_all, take-append_seam, take_at, take-suc}
pub use lib.Signed.{◌<ℤ◌, ◌≤ℤ◌, clash_ℤ, le_z, le_z_yes, lt_z, lt_z_no, lt_z_yes, mag, quot_z}
pub use mathlib.Core.Bool.{Bool, ◌&&◌, ◌||◌, cond, false, false≢true, not, true, true≢false}
pub use mathlib.Core.List.{List, [], ◌++◌, ◌∷◌, append_assoc, append-nil, map}
pub use mathlib.Core.Logic.{◌↔◌, ◌⊎◌, inl, inr}
pub use mathlib.Core.Option.{Option, none, some}
pub use mathlib.Core.Path.{◌∙◌, ◌≡◌, ap, ap₂, refl, subst, subst₂, sym}
pub use native.Mathlib.Decide.{dec_le, dec_lt, ℕ_discrete}
pub use native.Mathlib.Nat.{add-zero, div-le_self, eq-zero-or-pos, le_refl, le_trans, lt_of_le_of_lt, mod-add-div, mul-le-mul, mul-le-mul_left, one-dvd}
pub use native.Mathlib.Numerals.{add-one}
pub use native.Mathlib.Omega.{arith}
