-- Document 01, "Points, matrices, intervals", as definitions. Plane: its words. Fits: what a determinant asks. Scale: multiples and signs, for the
-- theorems. Dot: the dot product. Below: the interval (1/0, 1/−1).
pub mod Plane
pub mod Fits
pub mod Scale
pub mod Dot
pub mod Below
