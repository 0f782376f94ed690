-- Lemmas on the list of faults and warnings of a file: its rows, its lines, and the codes that they name.
pub mod ListFacts
pub mod ListedFacts
pub mod NamingFacts
pub mod OneList
pub mod RowsFacts
pub mod RunFacts
pub mod StretchFacts
