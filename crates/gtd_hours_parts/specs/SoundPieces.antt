-- The numbers and times of a piece are in range.
use Rattle.std.specs.Prelude.{List, [], ◌∷◌, Some, None, IfSome}
use Rattle.gtd_hours.specs.Ranges.{IsMonth, IsWeekday}
use Rattle.gtd_hours_parts.specs.Numbers.{IsOffsetNumber, IsPlaceNumber, IsStepNumber, IsWeekNumber, IsYearNumber}
use Rattle.gtd_hours_parts.specs.declared.piece.Offset.{Offset}
use Rattle.gtd_hours_parts.specs.declared.piece.Piece.{Piece}
use Rattle.gtd_hours_parts.specs.declared.piece.Piece.TheVariants as piece
use Rattle.gtd_hours_parts.specs.Pieces.{AreWrittenTimes, EndsRange, IsRange, IsWrittenDate}

abbrev pub IsPiece : Piece → Type 0
IsPiece (piece.Years first None None) = IsYearNumber first
IsPiece (piece.Years first None (Some step)) = ⊥
IsPiece (piece.Years first (Some last) step) = IsRange IsYearNumber first last × IfSome step IsStepNumber
IsPiece (piece.Months first last) = IsMonth first × IfSome last IsMonth
IsPiece (piece.Dates first None) = IsWrittenDate first
IsPiece (piece.Dates first (Some last)) = IsWrittenDate first × EndsRange first last
IsPiece (piece.Weeks first None None) = IsWeekNumber first
IsPiece (piece.Weeks first None (Some step)) = ⊥
IsPiece (piece.Weeks first (Some last) step) = IsRange IsWeekNumber first last × IfSome step IsStepNumber
IsPiece (piece.Weekdays first last) = IsWeekday first × IfSome last IsWeekday
IsPiece (piece.Places k first None) = IsWeekday k × IsPlaceNumber first
IsPiece (piece.Places k first (Some last)) = IsWeekday k × IsRange IsPlaceNumber first last
IsPiece (piece.PlaceBack k n) = IsWeekday k × IsPlaceNumber n
IsPiece (piece.PlacesEnd offset) = IfSome offset (λ (o : Offset). IsOffsetNumber o.days)
IsPiece (piece.Times begin last) = AreWrittenTimes begin last
IsPiece x = Unit {0}

-- and those of all pieces
abbrev pub ArePieces : List Piece → Type 0
ArePieces [] = Unit {0}
ArePieces (x ∷ p) = IsPiece x × ArePieces p
