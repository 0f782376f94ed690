pub mod Names
pub mod Cuts
pub mod Conditions
pub mod Parts
pub mod Values
