pub mod ElementFacts
pub mod PutFacts
pub mod RunFacts
pub mod SomeClosingRows
pub mod SomeElements
pub mod TextFacts
