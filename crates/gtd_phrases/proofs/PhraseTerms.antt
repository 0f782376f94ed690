-- What a phrase is made of, and how a number in it is written, with all variants.
pub use Rattle.gtd_languages.specs.declared.word.Form.{Form}
pub use Rattle.gtd_languages.specs.declared.word.Form.TheVariants.{Zero, One, EndsInOne, EndsInTwo, EndsInThree, Other}
pub use Rattle.gtd_phrases.specs.declared.phrase.Figures.{Figures}
pub use Rattle.gtd_phrases.specs.declared.phrase.Figures.TheVariants.{Nothing, Plain, Two, Four}
pub use Rattle.gtd_phrases.specs.declared.phrase.Language.{Language}
pub use Rattle.gtd_phrases.specs.declared.phrase.Phrase.{Phrase}
pub use Rattle.gtd_phrases.specs.declared.phrase.Piece.{Piece}
