-- What rules need and is not given: the first need, from left to right.
use Rattle.std.specs.Prelude.{ℕ, ◌+◌, ◌-◌, ◌==◌, ◌&&◌, ◌||◌, not, nat_le, Bool, true, false, List, [], ◌∷◌, length}
use Rattle.std.specs.Prelude.{Option, Some, None, if◌then◌else◌, is_some}
use Rattle.std.specs.Option.{option_or}
use Rattle.gtd_hours2.specs.declared.values.HolidayKind.{HolidayKind}
use Rattle.gtd_hours2.specs.declared.values.HolidayKind.TheVariants as holiday
use Rattle.gtd_hours2.specs.declared.values.RuleLink.{RuleLink}
use Rattle.gtd_hours2.specs.declared.values.RuleLink.TheVariants as link
use Rattle.gtd_hours2.specs.declared.values.RulePart.{RulePart}
use Rattle.gtd_hours2.specs.declared.values.RulePart.TheVariants as part
use Rattle.gtd_hours2.specs.declared.values.RuleWord.{RuleWord}
use Rattle.gtd_hours2.specs.declared.values.RuleWord.TheVariants as word
use Rattle.gtd_hours2.specs.declared.values.TimeOfDay.{TimeOfDay}
use Rattle.gtd_hours2.specs.declared.values.TimeOfDay.TheVariants as time
use Rattle.gtd_hours2.specs.declared.values.TimeTail.{TimeTail}
use Rattle.gtd_hours2.specs.declared.values.TimeTail.TheVariants as tail
use Rattle.gtd_hours2.specs.Days.{is_easter}
use Rattle.gtd_hours2.specs.Opening.{are_many}
use Rattle.gtd_hours2.specs.Rules.{Rule, says}
use Rattle.gtd_hours_plain2.specs.declared.given.GivenDays.{GivenDays}
use Rattle.gtd_hours_plain2.specs.declared.given.GivenTimes.{GivenTimes}
use Rattle.gtd_hours_plain2.specs.declared.need.HoursNeed.{HoursNeed}
use Rattle.gtd_hours_plain2.specs.declared.need.HoursNeed.TheVariants as need
use Rattle.gtd_hours_plain2.specs.declared.need.PartNeed.{PartNeed}
use Rattle.gtd_hours_plain2.specs.declared.need.PartNeed.TheVariants as kind
use Rattle.gtd_hours_plain2.specs.Clocks.{event_minutes}
use Rattle.gtd_hours_plain2.specs.Numbers.{given_or}

abbrev pub unless : Bool → PartNeed → Option PartNeed
unless true k = None
unless false k = Some k

-- ---- times

-- so many minutes after an event, or before it, are from 00:00 up to a minute
abbrev pub is_within : ℕ → ℕ → ℕ → Bool → Bool
is_within most base minutes true = nat_le minutes base && nat_le (base - minutes) most
is_within most base minutes false = nat_le (base + minutes) most

-- an event needs its clock time, and may not be put out of the day
abbrev pub event_need : Option ℕ → Bool → PartNeed → PartNeed → Option PartNeed
event_need None within missing out = Some missing
event_need (Some base) within missing out = unless within out

abbrev pub begin_need : GivenTimes → TimeOfDay → Option PartNeed
begin_need g (time.Clock m) = unless (nat_le m 1439) kind.BeginOutside
begin_need g (time.Event e minutes is_before) = event_need (event_minutes g e)
    (is_within 1439 (given_or 0 (event_minutes g e)) minutes is_before) kind.BeginEvent kind.BeginOutside

abbrev pub end_need : GivenTimes → Option TimeOfDay → Option PartNeed
end_need g None = None
end_need g (Some (time.Clock m)) = None
end_need g (Some (time.Event e minutes is_before)) = event_need (event_minutes g e)
    (is_within 1440 (given_or 0 (event_minutes g e)) minutes is_before) kind.EndEvent kind.EndOutside

-- a single time is a point
abbrev pub point_need : GivenTimes → Option TimeOfDay → TimeTail → Option PartNeed
point_need g None tail.Plain = unless (is_some g.points) kind.PointLength
point_need g last t = None

abbrev pub tail_need : GivenTimes → TimeTail → Option PartNeed
tail_need g tail.Plain = None
tail_need g tail.Open = unless (is_some g.open_end) kind.OpenEnd
tail_need g (tail.Every step) = if step == 0 then Some kind.NoStep else unless (is_some g.points) kind.StepLength

abbrev pub time_need : GivenTimes → TimeOfDay → Option TimeOfDay → TimeTail → Option PartNeed
time_need g first last t =
    option_or (point_need g last t) (option_or (begin_need g first) (option_or (end_need g last) (tail_need g t)))

-- ---- days

abbrev pub has_table : GivenDays → HolidayKind → Bool
has_table d holiday.Public = d.has_public
has_table d holiday.School = d.has_school

-- years without a last one, which are not written out
abbrev pub are_endless : ℕ → Option ℕ → ℕ → Bool
are_endless first None step = are_many first step
are_endless first (Some last) step = false

abbrev pub holidays_need : Bool → Bool → Option PartNeed
holidays_need true has_years = unless has_years kind.HolidayYears
holidays_need false has_years = Some kind.Holidays

-- ---- rules

abbrev pub part_need : GivenDays → GivenTimes → RulePart → Option PartNeed
part_need d g (part.Years first last step) = unless (not (are_endless first last step) || d.has_years) kind.LastYear
part_need d g (part.Months first last) = None
part_need d g (part.Days first last) = unless (not (is_easter first || is_easter last) || d.has_years) kind.EasterYears
part_need d g (part.Dated year first last_year last) = None
part_need d g (part.Weeks first last step) = None
part_need d g (part.Holidays which offset) = holidays_need (has_table d which) d.has_years
part_need d g (part.Weekdays first last) = None
part_need d g (part.NthWeekday weekday number is_back offset) = None
part_need d g (part.Time first last t) = time_need g first last t

abbrev pub at_part : ℕ → Option PartNeed → Option HoursNeed
at_part n None = None
at_part n (Some k) = Some (need.Part n k)

-- of parts after so many others
abbrev pub parts_need : GivenDays → GivenTimes → ℕ → List RulePart → Option HoursNeed
parts_need d g n [] = None
parts_need d g n (x ∷ xs) = option_or (at_part n (part_need d g x)) (parts_need d g (n + 1) xs)

abbrev pub is_unknown : RuleWord → Bool
is_unknown word.Open = false
is_unknown word.Off = false
is_unknown word.Unknown = true

abbrev pub is_fallback : RuleLink → Bool
is_fallback link.Instead = false
is_fallback link.Also = false
is_fallback link.Fallback = true

-- a fallback rule that is not unknown
abbrev pub falls_back : Rule → Bool
falls_back rule = is_fallback rule.head.link && not (is_unknown (says rule))

abbrev pub some_falls_back : List Rule → Bool
some_falls_back [] = false
some_falls_back (rule ∷ rules) = falls_back rule || some_falls_back rules

-- A rule may be unknown only if it is a fallback rule and no other fallback rule says something later.
abbrev pub is_told : Rule → Bool → Bool
is_told rule falls_later = not (is_unknown (says rule)) || (is_fallback rule.head.link && not falls_later)

abbrev pub unknown_need : ℕ → Rule → Bool → Option HoursNeed
unknown_need r rule falls_later = if is_told rule falls_later then None else Some (need.Unknown r)

-- of a rule after so many rules and parts
abbrev pub rule_need : GivenDays → GivenTimes → ℕ → ℕ → Rule → Bool → Option HoursNeed
rule_need d g r n rule falls_later = option_or (parts_need d g n rule.parts) (unknown_need r rule falls_later)

abbrev pub need_from : GivenDays → GivenTimes → ℕ → ℕ → List Rule → Option HoursNeed
need_from d g r n [] = None
need_from d g r n (rule ∷ rules) =
    option_or (rule_need d g r n rule (some_falls_back rules)) (need_from d g (r + 1) (n + length rule.parts) rules)

-- what the rules need first
abbrev pub first_need : GivenDays → GivenTimes → List Rule → Option HoursNeed
first_need d g rules = need_from d g 0 0 rules

-- ---- as the code computes it

-- how many rules there are up to the last fallback rule that is not unknown
abbrev pub up_to_fallback : List Rule → ℕ
up_to_fallback [] = 0
up_to_fallback (rule ∷ rules) =
    if some_falls_back rules then up_to_fallback rules + 1
    else if falls_back rule then 1
    else 0
