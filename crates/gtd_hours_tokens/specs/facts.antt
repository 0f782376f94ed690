pub mod NextToken
pub mod TokenForms
pub mod WholeText
