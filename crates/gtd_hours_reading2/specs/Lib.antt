pub mod Reading
pub mod Seen
pub mod Longest
pub mod TokenPlaces
