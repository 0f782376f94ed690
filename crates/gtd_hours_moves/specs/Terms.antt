-- What the grammar and the table of moves speak of: tokens, pieces, the stages of a text, its places, and moves between them.
pub use Rattle.gtd_hours_tokens.specs.declared.token.Token.{Token}
pub use Rattle.gtd_hours_tokens.specs.declared.token.TokenKind.{TokenKind}
pub use Rattle.gtd_hours_parts.specs.declared.piece.Piece.{Piece}
pub use Rattle.gtd_hours_moves.specs.declared.stage.Stage.{Stage}
pub use Rattle.gtd_hours_moves.specs.declared.place.Place.{Place}
pub use Rattle.gtd_hours_moves.specs.declared.place.Move.{Move}
