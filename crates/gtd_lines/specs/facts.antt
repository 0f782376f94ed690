pub mod OneLine
pub mod SomeLines
