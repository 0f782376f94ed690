pub mod HiderFacts
pub mod SortedFacts
