-- What the crates above may use of this one: `use Rattle.bilinear.proofs.Laws.{..}`.

-- the algebra: on points; one behind the other; scaled; undone
pub use Rattle.bilinear.proofs.FormLaws.{form_equal, entries_form, apply_into_x, apply_into_y, apply_times, apply_scale_form, apply_entries}
pub use Rattle.bilinear.proofs.FormLaws.{into_x_twice, into_y_twice, into_y_into_x, times_twice, times_into_x, times_into_y}
pub use Rattle.bilinear.proofs.FormLaws.{scale_scale_form, scale_one_form, into_x_scale, into_y_scale, times_scale, into_x_identity, into_y_identity, times_identity}
pub use Rattle.bilinear.proofs.FormLaws.{scale_entries_form, times_entries_form, times_given, cancel_scale}
-- the greatest common divisor of eight numbers, and cancelling
pub use Rattle.bilinear.proofs.Divisor8.{gcd8_divides, gcd8_greatest, Times8, gcd8_times, cancel_form_times, cancel_form_lowest}
-- the divisor of a step divides the determinant of its digit, and is above 0
pub use Rattle.bilinear.proofs.Divides8.{into_x_divides, into_x_above, into_y_divides, into_y_above, given_divides, given_above}
-- ranges
pub use Rattle.bilinear.proofs.Sizes.{turned_within, into_x_within, into_y_within, times_within}
-- the definitions
pub use Rattle.bilinear.specs.Types.{Form}
pub use Rattle.bilinear.specs.Form.{form, over_one, sum_form, difference_form, product_form, turned_over, mixed_rows, given_form, front_of, back_of, of_halves}
unfoldable pub use Rattle.bilinear.specs.Form.{on_two, apply_two, into_x, into_y, times_form}
pub use Rattle.bilinear.specs.Lowest.{lowest_form?, Divides8, divided_form, WithinForm, within_form?, scale_form}
unfoldable pub use Rattle.bilinear.specs.Lowest.{gcd8, cancel_form}
