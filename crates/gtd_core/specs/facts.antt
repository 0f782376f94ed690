pub mod EqualTrees
pub mod Leaves
pub mod TreeCode
pub mod Deciding
