pub mod SameDated
pub mod KindFacts
