-- How a system and a state are written as numbers: the front door is Laws.
--   Lists     a list written place by place
--   Lengths   what four lengths are, where the test of them passes
--   Written   numbers that are written unless something is refused
--   ReadBack  the numbers that a plug-in keeps are read as the state that they were written for
pub mod Laws
mod Lists
mod Lengths
mod Written
mod ReadBack
