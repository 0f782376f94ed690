pub mod UntilFacts
