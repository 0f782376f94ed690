pub mod Readings
pub mod ClockWords
