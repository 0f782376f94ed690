-- Which times last longer than 24 hours, with what is given: the first, from left to right.
use Rattle.std.specs.Prelude.{ℕ, ◌+◌, nat_le, Bool, true, false, List, [], ◌∷◌, length, Option, Some, None}
use Rattle.std.specs.Option.{option_or}
use Rattle.gtd_hours2.specs.Opening.{Clocks, end_after, minute_of}
use Rattle.gtd_hours2.specs.Rules.{Rule}
use Rattle.gtd_hours2.specs.declared.values.RulePart.{RulePart}
use Rattle.gtd_hours2.specs.declared.values.RulePart.TheVariants as part
use Rattle.gtd_hours2.specs.declared.values.TimeOfDay.{TimeOfDay}
use Rattle.gtd_hours2.specs.declared.values.TimeTail.{TimeTail}
use Rattle.gtd_hours2.specs.declared.values.TimeTail.TheVariants as tail
use Rattle.gtd_hours_plain2.specs.declared.lasting.LongPart.{LongPart}

-- a range of times from one minute up to another lasts a day at most
abbrev pub is_short : ℕ → ℕ → Bool
is_short begin last = nat_le (end_after begin last) (begin + 1440)

abbrev pub long_at : Bool → ℕ → Bool → Option LongPart
long_at true n is_open = None
long_at false n is_open = Some (record { part = n; is_open = is_open })

abbrev pub last_long : Clocks → ℕ → ℕ → Option TimeOfDay → Option LongPart
last_long c n begin None = None
last_long c n begin (Some last) = long_at (is_short begin (minute_of c last)) n false

abbrev pub open_long : Clocks → ℕ → ℕ → TimeTail → Option LongPart
open_long c n begin tail.Plain = None
open_long c n begin tail.Open = long_at (is_short begin c.open_end) n true
open_long c n begin (tail.Every step) = None

-- a part that begins and ends longer than 24 hours apart, or else whose open end is
abbrev pub long_part : Clocks → ℕ → RulePart → Option LongPart
long_part c n (part.Years first last step) = None
long_part c n (part.Months first last) = None
long_part c n (part.Days first last) = None
long_part c n (part.Dated year first last_year last) = None
long_part c n (part.Weeks first last step) = None
long_part c n (part.Holidays which offset) = None
long_part c n (part.Weekdays first last) = None
long_part c n (part.NthWeekday weekday number is_back offset) = None
long_part c n (part.Time first last t) =
    option_or (last_long c n (minute_of c first) last) (open_long c n (minute_of c first) t)

-- of parts after so many others
abbrev pub long_in : Clocks → ℕ → List RulePart → Option LongPart
long_in c n [] = None
long_in c n (x ∷ xs) = option_or (long_part c n x) (long_in c (n + 1) xs)

abbrev pub long_from : Clocks → ℕ → List Rule → Option LongPart
long_from c n [] = None
long_from c n (rule ∷ rules) = option_or (long_in c n rule.parts) (long_from c (n + length rule.parts) rules)

-- the first part of the rules that lasts too long
abbrev pub first_long : Clocks → List Rule → Option LongPart
first_long c rules = long_from c 0 rules
