pub mod OneFront
pub mod FirstTokens
