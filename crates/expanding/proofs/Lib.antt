-- The test of a row says that it expands, and hands over a point where not.
--   ThreeNumbers    three numbers decide: where the test holds a sum of squares grows, and where not, here is where it doesn't
--   QuadraticForm   the growth is a quadratic form that is nowhere definite
--   ExpandsSays     `expands_says`: the test is the sentence, of a row; `all_expand_says`: of a system
--   SameExpand      the same rows expand alike
--   Sizes           for the functions: how large the numbers get
pub mod Laws
mod ThreeNumbers
mod QuadraticForm
mod ExpandsSays
mod SameExpand
mod Sizes
