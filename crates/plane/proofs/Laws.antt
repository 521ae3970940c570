-- What the crates above may use of this one: `use Rattle.plane.proofs.Laws.{..}`.

-- numbers of one sign, and numbers that are not 0
pub use Rattle.plane.proofs.SameSign.{same_sign, grown, sign_back, sign_not_below, above_not_0, below_not_0, product_not_0, cancel_not_0, square_above}
-- pairs and matrices by their entries; determinants of pairs (`det_e` for the provers)
pub use Rattle.plane.proofs.Identities.{pair_equal, four_equal, four, det_e, det_turned, det_self, three_terms, det_scale, det_apply}
-- determinants, products, multiples and pseudoinverses of matrices
pub use Rattle.plane.proofs.Identities.{determinant_multiply, determinant_pseudoinverse, determinant_scale, apply_multiply, multiply_assoc}
pub use Rattle.plane.proofs.Identities.{apply_scale, apply_scale_pair, multiply_scale_left, multiply_scale_right, scale_scale, scale_scale_pair, scale_entries, scale_one}
pub use Rattle.plane.proofs.Identities.{apply_identity, multiply_identity_left, multiply_identity_right, pseudoinverse_left, pseudoinverse_right}
pub use Rattle.plane.proofs.Identities.{pseudoinverse_apply, apply_pseudoinverse, multiply_pseudoinverse}
-- a matrix with determinant above 0 keeps intervals, insides, closed intervals and points
pub use Rattle.plane.proofs.Moves.{det_above_multiply, det_above_pseudoinverse, interval_moves, interval_back, left_point, right_point, point_moves, point_back, point_scale}
pub use Rattle.plane.proofs.Moves.{between, inside_sign, closed_sign, inside_moves, inside_back, closed_moves, closed_back}
-- what is inside an interval is a mixture of its ends
pub use Rattle.plane.proofs.Mixtures.{mix, cramer, mix_inside, inside_point}
-- "multiples are the same point"
pub use Rattle.plane.proofs.Points.{same_point, same_refl, same_sym, same_trans, same_scale, same_multiple, point_same, same_det, det_same}
pub use Rattle.plane.proofs.Points.{same_moves, same_undone, same_redone, same_back, same_scaled, inside_same, closed_same}
pub use Rattle.plane.proofs.Ends.{ends_scaled, inside_ends, inside_ends_back, closed_ends, closed_ends_back, interval_ends, interval_ends_back}
-- "So (1/0, 1/−1) runs from infinity to −1"
pub use Rattle.plane.proofs.Below.{infinity_to_minus_1, from_infinity_to_minus_1}
-- cancelling
pub use Rattle.plane.proofs.Cancelling.{times_entries, scale_times, divisor_above, cancel_times, cancel_lowest, divided_by_one, cancel_kept, cancel_det_above, CancelSays, cancel_says}
pub use Rattle.plane.proofs.Divides.{size_above, times_above, left_divides, right_divides, undone, undone_left, divisor_divides, divisor_divides_given}
-- machine words, and ranges
pub use Rattle.plane.proofs.MachineNumbers.{read, products_half, determinant_asks, determinant_held, above, below}
pub use Rattle.plane.proofs.Ranges.{within_products, pseudoinverse_within, multiply_within, image_within, cancel_within, gcd4_within}
-- the definitions
pub use Rattle.plane.specs.Plane.{Closed, Inside, Interval, Pair, Point, SamePoint, det, left, right}
unfoldable pub use Rattle.plane.specs.Plane.{apply, cancel_of, determinant_of, image_of, multiply_of, pseudoinverse_of}
pub use Rattle.plane.specs.Scale.{DetAbove, SameEnds, entries}
pub use Rattle.plane.specs.Dot.{dot}
pub use Rattle.plane.specs.Fits.{Products, FactorsFit}
pub use Rattle.plane.specs.Below.{infinity_to_minus1, BelowMinus1}
unfoldable pub use Rattle.plane.specs.Scale.{scale_of, scale_pair}
