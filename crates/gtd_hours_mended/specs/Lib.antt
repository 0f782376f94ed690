pub mod Comments
pub mod Making
pub mod Mending
pub mod Stops
