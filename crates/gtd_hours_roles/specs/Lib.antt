pub mod Behind
pub mod Roles
