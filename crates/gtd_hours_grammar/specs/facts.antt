pub mod FirstFault
pub mod OneReading
