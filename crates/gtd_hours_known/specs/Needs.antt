-- What rules need and is not given, or not known, in the order of its places.
use Rattle.std.specs.Prelude.{ℕ, ◌+◌, ◌&&◌, ◌||◌, not, Bool, false, if◌then◌else◌, List, [], ◌∷◌}
use Rattle.std.specs.Prelude.{Option, Some, None, is_some}
use Rattle.gtd_hours.specs.Writable.{is_fallback}
use Rattle.gtd_hours_holiday_rules.specs.declared.rules.HolidayRule.{HolidayRule}
use Rattle.gtd_hours_known.specs.Given.{or_later, rule_lacks}
use Rattle.gtd_hours_known.specs.declared.fault.KnownFault.{KnownFault}
use Rattle.gtd_hours_known.specs.declared.fault.KnownFault.TheVariants as fault
use Rattle.gtd_hours_known.specs.declared.known.Known.{Known}

-- ---- unknown rules

-- a fallback rule that is not unknown
abbrev pub falls_back : HolidayRule → Bool
falls_back rule = is_fallback rule.link && not (is_some rule.unknown)

-- one of the rules is such a rule
abbrev pub some_falls_back : List HolidayRule → Bool
some_falls_back [] = false
some_falls_back (rule ∷ rules) = falls_back rule || some_falls_back rules

abbrev pub not_known : Option ℕ → Option KnownFault
not_known None = None
not_known (Some place) = Some (fault.Unknown place)

-- What is wrong if a rule is unknown: a fallback rule that is changes no open second, if no other fallback rule speaks later.
abbrev pub unknown_before : HolidayRule → Bool → Option KnownFault
unknown_before rule falls_later = if is_fallback rule.link && not falls_later then None else not_known rule.unknown

abbrev pub unknown_fault : HolidayRule → List HolidayRule → Option KnownFault
unknown_fault rule later = unknown_before rule (some_falls_back later)

-- ---- all rules

-- what a rule needs before others
abbrev pub need_of : Known → HolidayRule → List HolidayRule → Option KnownFault
need_of known rule later = or_later (rule_lacks known rule) (unknown_fault rule later)

-- the first need of rules
abbrev pub first_need : Known → List HolidayRule → Option KnownFault
first_need known [] = None
first_need known (rule ∷ rules) = or_later (need_of known rule rules) (first_need known rules)

-- ---- as the code computes it

-- how many rules there are up to the last fallback rule that is not unknown
abbrev pub up_to_fallback : List HolidayRule → ℕ
up_to_fallback [] = 0
up_to_fallback (rule ∷ rules) =
    if some_falls_back rules then up_to_fallback rules + 1
    else if falls_back rule then 1
    else 0

abbrev pub need_before : Known → HolidayRule → Bool → Option KnownFault
need_before known rule falls_later = or_later (rule_lacks known rule) (unknown_before rule falls_later)
