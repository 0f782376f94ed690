pub mod Told
pub mod Misfits
pub mod First
pub mod Reading
pub mod Manners
pub mod Readings
