-- How faults of texts with holidays are told.
use Rattle.gtd_hours_grammar.specs.declared.fault.FaultKind.TheVariants as kind
use Rattle.gtd_hours_items.specs.declared.stop.NoHolidayText.{NoHolidayText}
use Rattle.gtd_hours_items.specs.declared.stop.NoHolidayText.TheVariants as stop
use Rattle.gtd_hours_holiday_rules.specs.declared.told.HolidayFault.{HolidayFault}
use Rattle.gtd_hours_holiday_rules.specs.declared.told.HolidayFault.TheVariants as holiday
use Rattle.gtd_hours_known.specs.declared.fault.KnownFault.{KnownFault}
use Rattle.gtd_hours_known.specs.declared.fault.KnownFault.TheVariants as fault
use Rattle.gtd_hours_known.specs.declared.fault.KnownReadFault.{KnownReadFault}
use Rattle.gtd_hours_known.specs.declared.fault.KnownReadFault.TheVariants as reading
use Rattle.gtd_hours_known.specs.declared.rules.RulesStop.{RulesStop}
use Rattle.gtd_hours_known.specs.declared.rules.RulesStop.TheVariants as rules
use Rattle.std.specs.Prelude.{ℕ}

-- what is told of a checked text
abbrev pub told : HolidayFault → KnownFault
told (holiday.Hours bad) = fault.Hours bad
told (holiday.Ambiguous place) = fault.Ambiguous place

-- a byte with which no token begins
abbrev pub bad_token : ℕ → KnownFault
bad_token place = fault.Hours (record { kind = kind.BadToken; place = place })

-- why a text has no rules with holidays
abbrev pub stopped : NoHolidayText → KnownReadFault
stopped (stop.BadToken place) = reading.Fault (bad_token place)
stopped stop.NoMemory = reading.NoMemory

-- why rules with holidays have no hours
abbrev pub uncovered : RulesStop → KnownReadFault
uncovered (rules.Uncovered place day) = reading.Fault (fault.Uncovered place day)
uncovered rules.NoMemory = reading.NoMemory
