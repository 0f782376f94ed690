pub mod Faults
pub mod Dated
pub mod Parts
