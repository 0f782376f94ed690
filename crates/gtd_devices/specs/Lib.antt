pub mod Device
pub mod InputFaultNames
pub mod WholeInput
