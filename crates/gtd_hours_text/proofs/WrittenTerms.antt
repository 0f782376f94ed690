-- What written hours are spoken of in: tokens, pieces, and the stages of a text.
pub use Rattle.gtd_hours_tokens.specs.declared.token.Token.{Token}
pub use Rattle.gtd_hours_tokens.specs.declared.token.TokenKind.{TokenKind}
pub use Rattle.gtd_hours_parts.specs.declared.piece.Piece.{Piece}
pub use Rattle.gtd_hours_moves.specs.declared.stage.Stage.{Stage}
