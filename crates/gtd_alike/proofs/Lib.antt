-- Lemmas on lists that grow, and on elements that are like earlier ones.
mod AlikeFacts
mod ListFacts
