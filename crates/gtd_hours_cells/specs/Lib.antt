pub mod Cells
pub mod Dates
