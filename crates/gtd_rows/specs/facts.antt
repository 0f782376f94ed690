pub mod FieldFacts
pub mod NumberFacts
pub mod Rising
pub mod RowsRead
pub mod SortedCodes
pub mod TakenRows
