pub mod FirstByte
pub mod OneReading
