-- Lists that grow.
mod ListFacts
