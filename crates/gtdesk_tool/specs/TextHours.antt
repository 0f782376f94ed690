-- What is printed for a text of opening hours that is read with options, and what is told.
use Rattle.std.specs.Prelude.{◌≡◌, ◌⊎◌, ◌++◌, ℕ, Bool, List, [], ◌∷◌, Option, Some, None, Result, Ok, Err, IfSome, IsTrue}
use Rattle.std.specs.Prelude.{codes, option_map, string_bytes}
use Rattle.std.specs.Io.KnownBytes.{Keeps}
use Rattle.gtd_faults.specs.Printable.{printable}
use Rattle.gtd_hours_holidays.specs.FaultTexts.{fault_text}
use Rattle.gtd_hours_holidays.specs.Table.{IsTable}
use Rattle.gtd_hours_holidays.specs.declared.fault.HolidaysFault.{HolidaysFault}
use Rattle.gtd_hours_holidays.specs.declared.holidays.Holidays.{Holidays}
use Rattle.gtd_hours_holidays.specs.declared.known_years.KnownYears.{KnownYears}
use Rattle.gtd_hours_known.specs.declared.known.KnownHours.{KnownHours}
use Rattle.gtd_hours_loose.specs.declared.manner.Manner.{Manner}
use Rattle.gtd_hours_options.specs.Manners.{IsReadFaultWithIn, IsReadingWithIn}
use Rattle.gtd_hours_options.specs.declared.fault.OptionsReadFault.{OptionsReadFault}
use Rattle.gtd_hours_options.specs.declared.fault.OptionsReadFault.TheVariants as reading
use Rattle.gtd_hours_options.specs.declared.options.Options.{Options}
use Rattle.gtd_hours_warnings.specs.Lines.{warning_lines}
use Rattle.gtd_hours_warnings.specs.Marks.{AreWarningsWith}
use Rattle.gtd_hours_warnings.specs.declared.warnings.Warning.{Warning}
use Rattle.gtd_records.specs.declared.fault.RecordFault.TheVariants as records
use Rattle.gtdesk_plans.specs.Arguments.{Text}
use Rattle.gtdesk_plans.specs.declared.commands.hours.HoursPlan.{HoursPlan}
use Rattle.gtdesk_plans.specs.declared.options.HoursOptions.{HoursOptions}
use Rattle.gtdesk_tool.specs.LooseHours.{IsUntranslated, RanLines, Translates, manner_of}
use Rattle.gtdesk_tool.specs.Telling.{IsUntold, Telling, Told}
use Rattle.gtdesk_tool.specs.declared.ending.Ending.{Ending}
use Rattle.gtdesk_tool.specs.declared.ending.Ending.TheVariants as ending
use Rattle.gtdesk_tool.specs.declared.refusal.RunRefusal.{RunRefusal}
use Rattle.gtdesk_tool.specs.declared.refusal.RunRefusal.TheVariants as refusal
use Rattle.gtdesk_words.specs.declared.refusal.NoDomain.TheVariants as none

-- ---- what is given

-- what is known of holidays by a table, in the years of a plan, and what the plan gives for times
abbrev pub options_by : Option Holidays → HoursOptions → Options
options_by table given = record { known = record { holidays = table; years = given.years }; clocks = given.clocks }

-- Nothing is given.
pub record IsNothingGiven (options : Options) : Type 0 where
  pub holidays : options.known.holidays ≡ None
  pub years : options.known.years ≡ None
  pub open_end : options.clocks.open_end ≡ None
  pub points : options.clocks.points ≡ None
  pub sunrise : options.clocks.sunrise ≡ None
  pub sunset : options.clocks.sunset ≡ None
  pub dawn : options.clocks.dawn ≡ None
  pub dusk : options.clocks.dusk ≡ None

-- how the texts of a plan are read
abbrev pub manner_in : HoursOptions → Manner
manner_in given = manner_of given.strict given.names

-- ---- the lines of a text

-- The lines are the warnings of a text from which these hours are read, one in a line.
abbrev pub AreWarningLines : Text → KnownHours → Option KnownYears → List ℕ → Type 0
AreWarningLines text read years lines =
    (found : List Warning) × AreWarningsWith text read years found
    × (lines ≡ warning_lines (codes "gtdesk: TEXT: warning ") found)

-- The lines of the domain of the hours that the text stands for, and of its warnings.
pub record AreLinesWith (options : Options) (how : Manner) (text : Text) (domain warnings : List ℕ) : Type 0 where
  pub read : KnownHours
  pub reads : IsReadingWithIn how options text read
  pub translates : Translates read.hours domain
  pub warns : AreWarningLines text read options.known.years warnings

-- ---- a text that is refused

-- The refusal of a text that is not read.
abbrev pub unread : OptionsReadFault → RunRefusal
unread (reading.Fault why) = refusal.NoDomain (none.Fault why)
unread reading.NoMemory = refusal.Memory

-- The refusal gives the first fault of the text, or is of memory.
abbrev pub IsUnreadWith : Options → Manner → Text → RunRefusal → Type 0
IsUnreadWith options how text r = (fault : OptionsReadFault) × IsReadFaultWithIn how options text fault × (r ≡ unread fault)

-- Why there are no lines for a text.
abbrev pub IsRefusedWith : Options → Manner → Text → RunRefusal → Type 0
IsRefusedWith options how text r =
    IsUnreadWith options how text r
    ⊎ ((read : KnownHours) × IsReadingWithIn how options text read × IsUntranslated read.hours r)

-- ---- what was done

-- What `hours` did for a text that is read in this manner and with these options.
abbrev pub RanText : Options → Manner → Text → Option (List ℕ) → Option (List ℕ) → Bool → Telling → Result Ending RunRefusal
    → Type 0
RanText options how text old new ended errors result =
    RanLines (AreLinesWith options how text) (IsRefusedWith options how text) old new ended errors result

-- the lines of the faults of a table with this path, in their order: `gtdesk: FILE: FAULT`
abbrev pub table_line : List ℕ → HolidaysFault → List ℕ
table_line path why = codes "gtdesk: " ++ (printable path ++ (codes ": " ++ (fault_text why ++ codes "\n")))

abbrev pub table_lines : List ℕ → List HolidaysFault → List ℕ
table_lines path [] = []
table_lines path (why ∷ rest) = table_line path why ++ table_lines path rest

-- These faults of a table are told, or memory was refused for that.
abbrev pub HasListed : List ℕ → List HolidaysFault → Telling → Result Ending RunRefusal → Type 0
HasListed path faults errors (Ok e) = (e ≡ ending.FaultsListed) × Told errors (table_lines path faults)
HasListed path faults errors (Err r) = (r ≡ refusal.Memory) × IsUntold errors

-- Why a table is not read that an input brings, if it is not at fault: the input failed, or gave no byte for too long; or memory
-- was refused.
abbrev pub IsTableRefusal : Bool → RunRefusal → Type 0
IsTableRefusal silent r =
    (r ≡ refusal.Records records.ReadFault) ⊎ ((r ≡ refusal.Records records.Endless) × IsTrue silent) ⊎ (r ≡ refusal.Memory)

-- What `hours` did for a text and for a table of holidays with this path, the bytes of which may be known. The table is read, and
-- then the text by it; or all faults of the table are told, and nothing is put; or the table is not read.
pub data RanWithTable (given : HoursOptions) (text : Text) (path : List ℕ) (file old new : Option (List ℕ))
    (silent ended : Bool) (errors : Telling) (result : Result Ending RunRefusal) : Type 0 where
  read : (table : Holidays) → IfSome file (λ bytes. IsTable bytes (Ok table.rows.items))
      → RanText (options_by (Some table) given) (manner_in given) text old new ended errors result
      → RanWithTable given text path file old new silent ended errors result
  faulty : (faults : List HolidaysFault) → IfSome file (λ bytes. IsTable bytes (Err faults)) → result ≡ Ok ending.FaultsListed
      → Told errors (table_lines path faults) → Keeps old new
      → RanWithTable given text path file old new silent ended errors result
  refused : (r : RunRefusal) → IsTableRefusal silent r → result ≡ Err r → IsUntold errors → Keeps old new
      → RanWithTable given text path file old new silent ended errors result

-- What `hours` did for a text with the options that are given, by whether a table is one of them.
abbrev pub RanByTable : Option Text → HoursOptions → Text → List ℕ → Option (List ℕ) → Option (List ℕ) → Option (List ℕ)
    → Bool → Bool → Telling → Result Ending RunRefusal → Type 0
RanByTable None given text path file old new silent ended errors result =
    RanText (options_by None given) (manner_in given) text old new ended errors result
RanByTable (Some table) given text path file old new silent ended errors result =
    RanWithTable given text path file old new silent ended errors result

-- What `hours` of a text did, by its answer.
abbrev pub RanHoursPlan : HoursPlan → List ℕ → Option (List ℕ) → Option (List ℕ) → Option (List ℕ) → Bool → Bool → Telling
    → Result Ending RunRefusal → Type 0
RanHoursPlan p path file old new silent ended errors result =
    RanByTable (option_map string_bytes p.options.holidays) p.options (string_bytes p.text) path file old new silent ended errors
    result
