pub mod Days
pub mod facts
