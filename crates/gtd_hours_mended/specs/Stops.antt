-- Why a text is not mended, as the code tells it.
use Rattle.gtd_hours_items.specs.declared.stop.NoHolidayText.{NoHolidayText}
use Rattle.gtd_hours_items.specs.declared.stop.NoHolidayText.TheVariants as items
use Rattle.gtd_hours_times.specs.declared.stop.NoMomentText.{NoMomentText}
use Rattle.gtd_hours_times.specs.declared.stop.NoMomentText.TheVariants as moments
use Rattle.gtd_hours_known.specs.declared.fault.KnownFault.TheVariants as fault
use Rattle.gtd_hours_options.specs.Told.{bad_token}
use Rattle.gtd_hours_options.specs.declared.fault.OptionsFault.TheVariants as wrong
use Rattle.gtd_hours_options.specs.declared.fault.OptionsReadFault.{OptionsReadFault}
use Rattle.gtd_hours_options.specs.declared.fault.OptionsReadFault.TheVariants as reading
use Rattle.gtd_hours_mended.specs.declared.making.MakeStop.{MakeStop}
use Rattle.gtd_hours_mended.specs.declared.making.MakeStop.TheVariants as make

abbrev pub no_items : NoHolidayText → OptionsReadFault
no_items (items.BadToken place) = reading.Fault (bad_token place)
no_items items.NoMemory = reading.NoMemory

abbrev pub no_moments : NoMomentText → OptionsReadFault
no_moments (moments.BadToken place) = reading.Fault (bad_token place)
no_moments moments.NoMemory = reading.NoMemory

abbrev pub no_rules : MakeStop → OptionsReadFault
no_rules (make.Own bad) = reading.Fault (wrong.Known (fault.Hours bad))
no_rules make.NoMemory = reading.NoMemory
