pub mod Terms
pub mod Grammar
pub mod Places
pub mod Sound
pub mod Moves
pub mod Runs
pub mod facts
