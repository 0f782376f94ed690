-- Lemmas about phrases and their numbers, about reading the words of a line and about the words of each language.
pub mod PhraseTerms
pub mod Numbers
pub mod Skeletons
pub mod Tables
pub mod Reading
pub mod Beginnings
pub mod Closers
pub mod Marks
pub mod EnglishWords
pub mod FrenchWords
pub mod GermanWords
pub mod AllTables
