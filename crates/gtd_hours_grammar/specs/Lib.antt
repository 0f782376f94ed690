pub mod Faults
pub mod Kinds
pub mod KindNames
pub mod Steps
pub mod facts
