pub mod SameParts
pub mod SameSelectors
pub mod SameRules
pub mod OneMeaning
