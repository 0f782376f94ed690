pub mod Grammar
pub mod Pieces
pub mod Ranges
pub mod Runs
pub mod Tables
