pub mod ChangesFacts
pub mod MergeFacts
pub mod RowsFacts
pub mod ToldFacts
