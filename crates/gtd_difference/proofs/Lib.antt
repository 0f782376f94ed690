-- Lemmas about seconds of one domain alone, all time, inclusion, the parts of a domain and weeks.
pub mod Alone
pub mod Dates
pub mod Ever
pub mod FixedDates
pub mod Inclusion
pub mod Parts
pub mod Weeks
