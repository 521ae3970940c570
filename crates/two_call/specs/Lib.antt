-- Runs over two words, over lent numbers (document 02, T-14).
--   TwoNumbers   how a plug-in writes a state: eleven numbers
--   TwoCall      what opening and a run answer, and what every lent number and byte is afterwards
pub mod TwoNumbers
pub mod TwoCall
