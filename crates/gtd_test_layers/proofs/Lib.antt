-- The one lemma that the tests of layers need: on the order in which spans are pushed.
pub mod Latest
