-- What the crates above may use of this one: `use Rattle.two_states.proofs.Laws.{..}`.

-- the rules for a state, and their test; the openings keep them
pub use Rattle.two_states.proofs.TwoRules.{within_form_says, two_rules_say, not_all_0, opened_sum_rules, opened_difference_rules, opened_product_rules, two_held}
-- the definitions
pub use Rattle.two_states.specs.TwoState.{TwoRules, absorbed_by, absorbed_x, absorbed_y, given_two, held_two, loaded_by, loaded_x, loaded_y, opened_difference, opened_product, opened_sum, opened_two}
unfoldable pub use Rattle.two_states.specs.TwoState.{two_state?}
pub use Rattle.two_states.specs.Types.{OfX, OfY, Turn, TwoState}
