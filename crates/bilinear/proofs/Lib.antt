-- Eight numbers on two points. Laws is the front door. The folders prove the functions of src/lib.rt, each by its name.
--   FormLaws   the algebra: absorbing, giving and scaling, on points and one behind the other
--   Divisor8   their greatest common divisor, and cancelling by it
--   Divides8   the divisor of a step divides the determinant of its digit
--   Sizes      ranges of what is computed
mod Divisor8
mod Divides8
mod Sizes
mod FormLaws
pub mod Laws
