-- Lemmas of needs, times and rules.
pub mod Falling
pub mod Judged
pub mod Lowering
pub mod Ranges
