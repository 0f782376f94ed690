pub mod RuleNames
pub mod Rules
pub mod Shapes
pub mod Told
