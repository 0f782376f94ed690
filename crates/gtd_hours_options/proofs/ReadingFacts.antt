-- The hours of a text with options, and its first fault.
use Rattle.std.proofs.Common.{refl, ℕ, List, length, Result, Ok, Err}
use Rattle.std.specs.Prelude.{IfErr, IfOk}
use Rattle.gtd_hours_known.specs.Reading.{IsKnownFault, IsKnownStop}
use Rattle.gtd_hours_known.specs.declared.fault.KnownFault.{KnownFault}
use Rattle.gtd_hours_known.specs.declared.fault.KnownReadFault.{KnownReadFault}
use Rattle.gtd_hours_known.specs.declared.fault.KnownReadFault.TheVariants as known_reading
use Rattle.gtd_hours_known.specs.declared.known.KnownHours.{KnownHours}
use Rattle.gtd_hours_times.specs.Tokens.{IsNoMomentText}
use Rattle.gtd_hours_times.specs.declared.stop.NoMomentText.{NoMomentText}
use Rattle.gtd_hours_times.specs.declared.stop.NoMomentText.TheVariants as stop
use Rattle.gtd_hours_moments.specs.Reading.{IsPlainText}
use Rattle.gtd_hours_moments.specs.declared.placed.PlacedText.{PlacedText}
use Rattle.gtd_hours_moments.specs.declared.text.MomentText.{MomentText}
use Rattle.gtd_hours_options.specs.Reading.{HasTimes, IsGiven, IsOptionsStop, IsOtherStop, IsPlainReading, IsTimesStop}
use Rattle.gtd_hours_options.specs.Reading.{StandsWith, checked, checked_stop, plain, plain_stop, timed, token, within}
use Rattle.gtd_hours_options.specs.Told.{stopped}
use Rattle.gtd_hours_options.specs.declared.fault.OptionsReadFault.{OptionsReadFault}
use Rattle.gtd_hours_options.specs.declared.fault.OptionsReadFault.TheVariants as reading
use Rattle.gtd_hours_options.specs.declared.options.Options.{Options}

-- ---- a text with times

pub no_text : (options : Options) (text : List ℕ) (why : NoMomentText) → IsNoMomentText text why
    → IsTimesStop options text (stopped why)
no_text options text (stop.BadToken place) is = token place is refl
no_text options text stop.NoMemory is = tt

pub checked_text : (options : Options) (text : List ℕ) (moments : MomentText) (why : KnownReadFault) → HasTimes text moments
    → IsKnownStop options.known moments.checked.text.items why
    → IsTimesStop options text (checked_stop (length text) moments options.clocks why)
checked_text options text moments (known_reading.Fault bad) has f = checked moments bad has f refl
checked_text options text moments known_reading.NoMemory has f = tt

pub plain_text : (options : Options) (text : List ℕ) (moments : MomentText) (made : PlacedText) (why : KnownReadFault)
    → IsGiven options text moments → IsPlainText options.clocks text made → IsKnownStop options.known made.text.items why
    → IsTimesStop options text (plain_stop (length text) made.places.items why)
plain_text options text moments made (known_reading.Fault bad) given is f = plain moments made bad given is f refl
plain_text options text moments made known_reading.NoMemory given is f = tt

-- ---- a text that has a fault without options for times

pub other_stop : (options : Options) (text : List ℕ) (first : KnownFault) (why : OptionsReadFault)
    → IsTimesStop options text why → IsOtherStop options text first why
other_stop options text first (reading.Fault bad) f = within f
other_stop options text first reading.NoMemory f = tt

pub other_fault : (options : Options) (text : List ℕ) (first : KnownFault) (read : Result KnownHours OptionsReadFault)
    → IfErr read (IsTimesStop options text) → IfErr read (IsOtherStop options text first)
other_fault options text first (Ok r) f = tt
other_fault options text first (Err why) f = other_stop options text first why f

pub timed_hours : (options : Options) (text : List ℕ) (bad : KnownFault) (moments : MomentText)
    (read : Result KnownHours OptionsReadFault) → IsKnownFault options.known text bad
    → IfOk read (λ r. IsGiven options text moments) → IfOk read (IsPlainReading options text)
    → IfOk read (StandsWith options text)
timed_hours options text bad moments (Ok r) f given is = timed bad moments f given is
timed_hours options text bad moments (Err why) f given is = tt

-- ---- any text

options_stop : (options : Options) (text : List ℕ) (first : KnownFault) (why : OptionsReadFault)
    → IsKnownFault options.known text first → IsOtherStop options text first why → IsOptionsStop options text why
options_stop options text first (reading.Fault bad) f other = (first, f, other)
options_stop options text first reading.NoMemory f other = tt

pub options_fault : (options : Options) (text : List ℕ) (first : KnownFault) (read : Result KnownHours OptionsReadFault)
    → IsKnownFault options.known text first → IfErr read (IsOtherStop options text first)
    → IfErr read (IsOptionsStop options text)
options_fault options text first (Ok r) f other = tt
options_fault options text first (Err why) f other = options_stop options text first why f other
