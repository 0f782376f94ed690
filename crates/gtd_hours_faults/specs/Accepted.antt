-- What a text of hours may have where a fault is, or what is to be given.
use Rattle.std.specs.Prelude.{◌++◌, ℕ, List, [], codes, decimal, Option, Some, None}
use Rattle.gtd_hours_grammar.specs.declared.fault.FaultKind.{FaultKind}
use Rattle.gtd_hours_grammar.specs.declared.fault.FaultKind.TheVariants as kind
use Rattle.gtd_hours_known.specs.declared.fault.KnownFault.{KnownFault}
use Rattle.gtd_hours_known.specs.declared.fault.KnownFault.TheVariants as fault
use Rattle.gtd_hours_moments.specs.declared.needs.NeedKind.{NeedKind}
use Rattle.gtd_hours_moments.specs.declared.needs.NeedKind.TheVariants as need
use Rattle.gtd_hours_options.specs.declared.fault.OptionsFault.{OptionsFault}
use Rattle.gtd_hours_options.specs.declared.fault.OptionsFault.TheVariants as wrong
use Rattle.gtd_hours_faults.specs.declared.expected.Expectation.{Expectation}
use Rattle.gtd_hours_faults.specs.declared.expected.Expectation.TheVariants as said

abbrev pub accepted_hours : FaultKind → List ℕ
accepted_hours kind.BadToken = codes "words, numbers and signs of opening hours, such as Mo-Fr 08:00-18:00"
accepted_hours kind.Unsupported =
    codes "years, weeks, dates, weekdays and times; and where the command reads them, holidays and comments"
accepted_hours kind.Range = codes "a number or a time in its range, such as 08:00 or Apr 30"
accepted_hours kind.Years = codes "a last year, such as 2025-2045/2"
accepted_hours kind.Unexpected = codes "rules with ; between them: years, weeks or dates, then weekdays, then times or off"
accepted_hours kind.Incomplete = codes "more: the second part of a range, or what follows a sign"

abbrev pub accepted_known : KnownFault → List ℕ
accepted_known (fault.Hours why) = accepted_hours why.kind
accepted_known (fault.Ambiguous place) = codes "what is read in one way: weekdays in English, and times such as 08:00"
accepted_known (fault.Holidays place) = codes "a table of such holidays: give one with --holidays FILE"
accepted_known (fault.Years place) = codes "known years, such as 2024-2030: give them with --years F-L"
accepted_known (fault.Uncovered place day) =
    codes "a table with all holidays of these years, and rows that say so: PH-covered or SH-covered"
accepted_known (fault.Unknown place) =
    codes "what is known: a rule can be unknown only behind ||, with no other fallback rule behind it"

abbrev pub accepted_time : NeedKind → List ℕ
accepted_time need.SunTime =
    codes "the clock time of an event of the sun: give it with --sunrise, --sunset, --dawn or --dusk HH:MM"
accepted_time need.Range = accepted_hours kind.Range
accepted_time need.OpenEnd = codes "the clock time of an open end, at most 24 hours later: give it with --open-end HH:MM"
accepted_time need.Point = codes "how many minutes a point of time lasts: give it with --points N"

abbrev pub accepted : OptionsFault → List ℕ
accepted (wrong.Known why) = accepted_known why
accepted (wrong.Time why) = accepted_time why.kind

-- ---- in a line

-- nothing, words, or hours that take fewer than so many basic domains
pub data Told : Type 0 where
  nothing : Told
  words : List ℕ → Told
  fewer : ℕ → Told

abbrev pub told_of : Expectation → Told
told_of said.Nothing = Told.nothing
told_of (said.Words text) = Told.words text.now
told_of (said.Fewer needed) = Told.fewer needed

-- words, if there are any
abbrev pub told_in : Option (List ℕ) → Told
told_in None = Told.nothing
told_in (Some text) = Told.words text

abbrev pub told_line : Told → List ℕ
told_line Told.nothing = []
told_line (Told.words text) = codes "    expected: " ++ (text ++ codes "\n")
told_line (Told.fewer needed) =
    codes "    expected: hours that take at most 128 basic domains; these take " ++ (decimal needed ++ codes "\n")
