pub mod Joining
pub mod Selecting
pub mod Days
pub mod Years
pub mod Times
pub mod Rules
