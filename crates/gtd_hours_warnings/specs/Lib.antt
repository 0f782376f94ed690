pub mod Commas
pub mod Forms
pub mod Lines
pub mod Marks
pub mod Warnings
pub mod WholeDays
pub mod Unknowns
