-- Domains that agree for ever, selectors found by the fields of a basic domain, and kinds in the order of a rule.
pub mod Ever
pub mod FormLemmas
pub mod OrderLemmas
