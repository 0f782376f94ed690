pub mod Hides
