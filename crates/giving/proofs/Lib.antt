-- The digit that may be given out, of two words. The folders prove the functions of src/lib.rt, each by its name. Laws is the front door.
--   Sides         numbers on one side of 0, and mixtures of them
--   Mixed         images are mixed from the images of interval ends, and coefficients likewise
--   OneSided      what the test of the coefficients says
--   GivenSays     every point of one closed interval and every point of the other are sent into that of the digit
--   FirstGiven    the search for the smallest digit
--   FourImages    the four images as two products of matrices, and their ranges
--   ImageByImage  the test as the code asks it
pub mod Laws
mod Sides
mod Mixed
mod OneSided
mod GivenSays
mod FirstGiven
mod FourImages
mod ImageByImage
