-- What demand 3 says, for whoever stands on it: `use Rattle.meaning.proofs.Laws.{..}`.

pub use Rattle.meaning.proofs.Sessions.{session_admitted, session_moment, session_sound, session_product, session_scale, session_named, session_numbers, moment_product, moment_scale, moment_named, moment_numbers, call_moment, call_product, call_scale, call_named, call_numbers, newly_opened, called_again, called_by_contract}
pub use Rattle.meaning.proofs.Claims.{of_the, the_absorbed}
pub use Rattle.meaning.proofs.ToCome.{output_to_come, to_come_within_a_call, to_come_behind_a_call, session_accepted}
pub use Rattle.meaning.proofs.Moments.{Sound, Meant, MeantBy, onward_means, moment_means, plan_is}
-- what digits name, when one is appended; the product, applied; the same point
pub use Rattle.meaning.proofs.Products.{product_append, each_append, product_names, each_same}
pub use Rattle.meaning.proofs.Claims.{natural}
-- worked cases: numbers and the built-in systems
pub use Rattle.meaning.proofs.Premise.{◌over◌, fraction, system_r, system_b, system_d}
-- the definitions
unfoldable pub use Rattle.meaning.specs.Names.{named_from, product_of, EachInItsInterval}
pub use Rattle.meaning.specs.Names.{HeldInItsInterval, held_digits, OfTheAbsorbed}
