-- That each text has an outcome, for the laws. The other lemmas are public and stand with the definitions.
pub mod EachText
