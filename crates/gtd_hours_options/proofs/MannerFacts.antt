-- The hours of a text that is read strictly or loosely, and its first fault.
use Rattle.std.proofs.Common.{◌≡◌, refl, ℕ, List, length, None, Result, Ok, Err}
use Rattle.std.specs.Prelude.{IfErr, IfOk}
use Rattle.gtd_hours_known.specs.declared.known.KnownHours.{KnownHours}
use Rattle.gtd_hours_loose.specs.StrictForms.{IsStrictForm}
use Rattle.gtd_hours_loose.specs.StrictForms as loose
use Rattle.gtd_hours_loose.specs.declared.manner.Manner.TheVariants as manner
use Rattle.gtd_hours_loose.specs.declared.strict.StrictForm.{StrictForm}
use Rattle.gtd_hours_loose_tokens.specs.declared.stop.LooseStop.{LooseStop}
use Rattle.gtd_hours_loose_tokens.specs.declared.stop.LooseStop.TheVariants as stop
use Rattle.gtd_hours_loose_tokens.specs.declared.token.DayNames.{DayNames}
use Rattle.gtd_hours_options.specs.Manners.{IsLooseStop, IsMendedStop, IsReadingWithIn, form, no_form, placed, token}
use Rattle.gtd_hours_options.specs.Reading.{IsOptionsFault, IsOptionsStop, StandsWith}
use Rattle.gtd_hours_options.specs.declared.fault.OptionsFault.{OptionsFault}
use Rattle.gtd_hours_options.specs.declared.fault.OptionsReadFault.{OptionsReadFault}
use Rattle.gtd_hours_options.specs.declared.fault.OptionsReadFault.TheVariants as reading
use Rattle.gtd_hours_options.specs.declared.options.Options.{Options}

pub form_stop : (names : DayNames) (options : Options) (text : List ℕ) (why : LooseStop) → loose.IsLooseStop names text why
    → IsMendedStop names options text (no_form why)
form_stop names options text (stop.Token bad) f = token bad f refl
form_stop names options text stop.NoMemory f = tt

pub placed_stop : (names : DayNames) (options : Options) (text : List ℕ) (made : StrictForm) (why : OptionsReadFault)
    → IsStrictForm names text made → IsOptionsStop options made.text.items why
    → IsMendedStop names options text (placed (length text) made.parts.items why)
placed_stop names options text made (reading.Fault bad) is f = form made bad is f refl
placed_stop names options text made reading.NoMemory is f = tt

loose_stop : (names : DayNames) (options : Options) (text : List ℕ) (first : OptionsFault) (why : OptionsReadFault)
    → IsOptionsFault options text first → IsMendedStop names options text why → IsLooseStop names options text why
loose_stop names options text first (reading.Fault bad) f other = (first, f, other)
loose_stop names options text first reading.NoMemory f other = tt

pub loose_fault : (names : DayNames) (options : Options) (text : List ℕ) (first : OptionsFault)
    (read : Result KnownHours OptionsReadFault) → IsOptionsFault options text first
    → IfErr read (IsMendedStop names options text) → IfErr read (IsLooseStop names options text)
loose_fault names options text first (Ok r) f other = tt
loose_fault names options text first (Err why) f other = loose_stop names options text first why f other

pub strict_reading : (options : Options) (text : List ℕ) (read : Result KnownHours OptionsReadFault)
    → IfOk read (StandsWith options text) → IfOk read (λ r. r.form ≡ None)
    → IfOk read (IsReadingWithIn manner.Strict options text)
strict_reading options text (Ok r) stands none = (stands, none)
strict_reading options text (Err why) stands none = tt
