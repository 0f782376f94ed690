-- Lemmas on plans: what `clap` makes of the words, which plan or refusal they have, and the word that is kept.
pub mod ClapWords
pub mod PlanFacts
pub mod RefusedFacts
pub mod StandFacts
