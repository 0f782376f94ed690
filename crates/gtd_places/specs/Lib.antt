pub mod facts
