-- What demand 3 says of runs over two words, for whoever stands on it: `use Rattle.two_meaning.proofs.Laws.{..}`.

-- at every moment within a call, and between two calls
pub use Rattle.two_meaning.proofs.TwoSessions.{two_product, two_named, two_numbers_lem, session_two_product, session_two_named, session_two_numbers}
-- the bridge to the code
pub use Rattle.two_meaning.proofs.TwoSessions.{newly_opened_two, called_again_two, called_by_contract_two}
-- what they are read off
pub use Rattle.two_meaning.proofs.TwoMoments.{TwoMeant, TwoMeantBy}
pub use Rattle.two_meaning.proofs.TwoSessions.{TwoMoment, session_two_moment, call_two_moment}
-- a sum, a product and a difference
pub use Rattle.two_meaning.proofs.WorkedPairs.{WorkedPairs}
pub use Rattle.two_meaning.proofs.WorkedPairsHold.{worked_pairs}
-- the definitions
pub use Rattle.two_meaning.specs.TwoSession.{Operation, adding, subtracting, multiplying, TwoCalls, none, called, TwoSession, OfBothAbsorbed, UpToScaleForm, TwoProductHolds, TwoNamed, TwoNamedHolds, TwoNumbersHold, DuringTwo, two_did_by}
