pub mod GatheringLemmas
pub mod TwoHalves
