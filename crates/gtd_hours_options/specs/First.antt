-- Which of the faults of a text is the first: of what is wrong with its checked text, and what its times need.
use Rattle.std.specs.Prelude.{ℕ, ◌||◌, nat_lt, Bool, true, false, List, [], ◌∷◌, is_some, Option, Some, None, if◌then◌else◌}
use Rattle.std.specs.Option.{option_or}
use Rattle.gtd_hours_times.specs.declared.moment.TimeForm.{TimeForm}
use Rattle.gtd_hours_moments.specs.Needs.{first_need, too_long}
use Rattle.gtd_hours_moments.specs.declared.clocks.Clocks.{Clocks}
use Rattle.gtd_hours_moments.specs.declared.needs.Need.{Need}
use Rattle.gtd_hours_moments.specs.declared.text.MomentText.{MomentText}
use Rattle.gtd_hours_known.specs.declared.fault.KnownFault.{KnownFault}
use Rattle.gtd_hours_known.specs.declared.fault.KnownFault.TheVariants as fault
use Rattle.gtd_hours_options.specs.Misfits.{first_misfit, with_misfits}
use Rattle.gtd_hours_options.specs.Told.{told}
use Rattle.gtd_hours_options.specs.declared.fault.OptionsFault.{OptionsFault}
use Rattle.gtd_hours_options.specs.declared.fault.OptionsFault.TheVariants as wrong

-- there are forms of times
abbrev pub has_forms : List TimeForm → Bool
has_forms [] = false
has_forms (form ∷ forms) = true

-- there are times, of which the last one may break off, or tokens that cannot stand where they do
abbrev pub has_times : MomentText → Bool
has_times moments =
    has_forms moments.forms.items || (is_some (first_misfit moments.told.items) || moments.breaks_off)

-- the first thing that times need, or else the first that lasts too long
abbrev pub needed : List TimeForm → Clocks → Option Need
needed forms clocks = option_or (first_need forms clocks) (too_long forms clocks)

-- what is needed, if it stands before this place, or else what is not given there
abbrev pub earlier : Option Need → ℕ → KnownFault → OptionsFault
earlier None place bad = wrong.Known bad
earlier (Some need) place bad = if nat_lt need.place place then wrong.Time need else wrong.Known bad

-- what is needed or too long, or else this fault
abbrev pub or_known : Option Need → KnownFault → OptionsFault
or_known None bad = wrong.Known bad
or_known (Some need) bad = wrong.Time need

-- A fault of the text comes before all that is needed, which comes from left to right. Behind that come a time that lasts too
-- long, and then a holiday that the table does not cover.
abbrev pub first_of : List TimeForm → Clocks → KnownFault → OptionsFault
first_of forms clocks (fault.Hours bad) = wrong.Known (fault.Hours bad)
first_of forms clocks (fault.Ambiguous place) = wrong.Known (fault.Ambiguous place)
first_of forms clocks (fault.Holidays place) = earlier (first_need forms clocks) place (fault.Holidays place)
first_of forms clocks (fault.Years place) = earlier (first_need forms clocks) place (fault.Years place)
first_of forms clocks (fault.Unknown place) = earlier (first_need forms clocks) place (fault.Unknown place)
first_of forms clocks (fault.Uncovered place day) = or_known (needed forms clocks) (fault.Uncovered place day)

-- the first fault of a text with so many bytes, whose checked text has this one
abbrev pub checked_fault : ℕ → MomentText → Clocks → KnownFault → OptionsFault
checked_fault end moments clocks bad =
    first_of moments.forms.items clocks (with_misfits moments.told.items (told end moments bad))

-- what is needed or too long, as a fault
abbrev pub as_time : Option Need → Option OptionsFault
as_time None = None
as_time (Some need) = Some (wrong.Time need)

abbrev pub or_time : Option KnownFault → Option Need → Option OptionsFault
or_time (Some bad) need = Some (wrong.Known bad)
or_time None need = as_time need

-- the first fault of a text whose checked text has none: a token that cannot stand where it does, or what its times need
abbrev pub time_fault : MomentText → Clocks → Option OptionsFault
time_fault moments clocks = or_time (first_misfit moments.told.items) (needed moments.forms.items clocks)
