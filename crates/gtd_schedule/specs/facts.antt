pub mod LineFacts
pub mod NormalLists
pub mod ShownFacts
pub mod SpansShown
