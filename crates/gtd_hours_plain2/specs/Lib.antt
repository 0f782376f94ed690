pub mod Clocks
pub mod Lasting
pub mod Lowered
pub mod Needs
pub mod Numbers
pub mod Plain
pub mod Times
