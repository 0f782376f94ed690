-- Lemmas on the table of moves: what each move keeps of the grammar.
pub mod GoodItems
pub mod GoodLemmas
pub mod GoodMoves
pub mod GoodRules
