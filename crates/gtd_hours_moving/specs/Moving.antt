-- Ranges of days that move from year to year, and Easter of a year, with which tokens begin. The texts are those of the public
-- specification of opening hours of OpenStreetMap, the wiki page Key:opening_hours/specification.
--   range = [ year ] end "-" [ year ] end | year easter        a second year only if there is a first one
--   end = month day | month weekday "[" ( number | "-" number ) "]" [ offset ] | easter
--   easter = "easter" [ offset ]
--   offset = ( "+" | "-" ) number ( "day" | "days" )
-- A place is 1 to 4, an offset of it 1 to 27 days, and one of Easter 1 to 366. At least one of the ends is a place or Easter.
-- Without a year the order of the ends is the same each year.
use Rattle.std.specs.Prelude.{◌≡◌, ℕ, List, Option, Some, None, Result, Ok, Err, true, false}
use Rattle.gtd_hours_grammar.specs.declared.fault.FaultKind.TheVariants as fault
use Rattle.gtd_hours_grammar.specs.declared.fault.HoursFault.{HoursFault}
use Rattle.gtd_hours_ranges.specs.Days.{IsDaysOf, easter_place}
use Rattle.gtd_hours_ranges.specs.declared.days.RangeDays.{RangeDays}
use Rattle.gtd_hours_ranges.specs.declared.days.RangeDays.TheVariants as days
use Rattle.gtd_hours_tokens.specs.declared.token.Token.{Token}
use Rattle.gtd_hours_moving.specs.Begins.{begins_moving}
use Rattle.gtd_hours_moving.specs.Reading.{fault_at, range_front, range_tokens}
use Rattle.gtd_hours_moving.specs.declared.front.MovingFront.{MovingFront}
use Rattle.gtd_hours_moving.specs.declared.front.MovingFront.TheVariants as front
use Rattle.gtd_hours_moving.specs.declared.read.ReadRange.{ReadRange}

-- A range that was read is some days, and if these are of Easter, its first one stands there; or it has a fault at its last
-- token, exactly if it is none.
abbrev pub IsFrontOf : ReadRange → MovingFront → Type 0
IsFrontOf read (front.Range x tokens to) =
    IsDaysOf read.range (days.Always x) × (tokens ≡ range_tokens read) × (to ≡ read.last.to)
IsFrontOf read (front.Easter x place tokens to) =
    IsDaysOf read.range (days.Easter x) × (place ≡ easter_place read.range.first read.range.last)
    × (tokens ≡ range_tokens read) × (to ≡ read.last.to)
IsFrontOf read (front.Fault bad) =
    ((x : RangeDays) → IsDaysOf read.range x → ⊥) × (bad ≡ fault_at fault.Range read.last.from)

-- What a range comes to that tokens begin: it is read, or has a first fault.
abbrev pub IsReadFront : Result ReadRange HoursFault → MovingFront → Type 0
IsReadFront (Ok read) x = IsFrontOf read x
IsReadFront (Err bad) x = x ≡ front.Fault bad

-- What tokens of a text, behind which it ends, begin with: no range, or one that comes to this.
abbrev pub IsMovingFront : List ℕ → List Token → Option MovingFront → Type 0
IsMovingFront text tokens None = begins_moving text tokens ≡ false
IsMovingFront text tokens (Some x) = (begins_moving text tokens ≡ true) × IsReadFront (range_front text tokens) x
