pub mod Sayings
pub mod Modes
pub mod Closing
pub mod Steps
pub mod TwoWay
pub mod Hours
