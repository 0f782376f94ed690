-- How many days after public holidays an offset says: `+1 day`, `-2 days`.
use Rattle.std.specs.Prelude.{ℕ, pos, neg_ℤ, ◌&&◌, Bool, true, false, List, ◌∷◌, Option, Some, None, nat_le}
use Rattle.std.specs.Prelude.{if◌then◌else◌, option_map}
use Rattle.gtd_hours_days.specs.declared.offset.Offset.{Offset}
use Rattle.gtd_hours_tokens.specs.declared.token.Token.{Token}
use Rattle.gtd_hours_tokens.specs.declared.token.TokenKind.{TokenKind}
use Rattle.gtd_hours_tokens.specs.declared.token.TokenKind.TheVariants as kind
use Rattle.gtd_hours_items.specs.facts.OffsetFacts.{earlier_in_range, few, later_in_range}

-- So many days later or earlier, where they are at most 366.
abbrev pub later : ℕ → Offset
later n = record { days = pos (few n); in_range = later_in_range n }

abbrev pub earlier : ℕ → Offset
earlier n = record { days = neg_ℤ (pos (few n)); in_range = earlier_in_range n }

-- a number of one to three digits, from 1 to 366
abbrev pub is_few : ℕ → ℕ → Bool
is_few value digits = nat_le digits 3 && nat_le 1 value && nat_le value 366

-- the offset that a sign and such a number say
abbrev pub offset_by : TokenKind → ℕ → Option Offset
offset_by kind.Plus n = Some (later n)
offset_by kind.Dash n = Some (earlier n)
offset_by k n = None

abbrev pub offset_of : TokenKind → TokenKind → Option Offset
offset_of sign (kind.Number value digits) = if is_few value digits then offset_by sign value else None
offset_of sign k = None

abbrev pub is_day : TokenKind → Bool
is_day kind.Day = true
is_day k = false

-- an offset, and where it ends
abbrev pub Placed : Type 0
Placed = Offset × ℕ

abbrev pub ending : ℕ → Offset → Placed
ending to offset = (offset, to)

-- the offset that tokens begin with
abbrev pub offset_front : List Token → Option Placed
offset_front (sign ∷ number ∷ day ∷ ts) =
    if is_day day.kind then option_map (ending day.to) (offset_of sign.kind number.kind) else None
offset_front ts = None
