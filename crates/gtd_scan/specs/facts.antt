pub mod Computed
pub mod OneReading
pub mod Runs
pub mod SpaceRuns
