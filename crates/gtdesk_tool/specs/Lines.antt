-- The lines for standard error that report a refusal.
use Rattle.std.specs.Prelude.{◌++◌, ℕ, List, Some, None, codes, decimal}
use Rattle.gtd_ask.specs.Texts.{question_fault_text}
use Rattle.gtd_calendar.specs.declared.stamp.StampFault.{StampFault}
use Rattle.gtd_calendar.specs.declared.stamp.StampFault.TheVariants as moment
use Rattle.gtd_core.specs.Names.{fault_name}
use Rattle.gtd_core.specs.declared.horizon.HorizonFault.{HorizonFault}
use Rattle.gtd_core.specs.declared.horizon.HorizonFault.TheVariants as horizon
use Rattle.gtd_faults.specs.Listing.{fault_text}
use Rattle.gtd_faults.specs.Printable.{printable}
use Rattle.gtd_hours_faults.specs.Refused.{refusal_snippet}
use Rattle.gtd_hours_faults.specs.Words as of_hours
use Rattle.gtd_hours_faults.specs.Words.{place_in}
use Rattle.gtd_hours_faults.specs.declared.refused.RefusalSnippet.{RefusalSnippet}
use Rattle.gtdesk_words.specs.declared.refusal.NoDomain.{NoDomain}
use Rattle.gtdesk_words.specs.declared.refusal.NoDomain.TheVariants as none
use Rattle.gtdesk_words.specs.declared.refusal.Reason.{Reason}
use Rattle.gtdesk_words.specs.declared.refusal.Reason.TheVariants as reason
use Rattle.gtdesk_words.specs.declared.refusal.WordFault.{WordFault}
use Rattle.gtdesk_words.specs.declared.refusal.WordName.{WordName}
use Rattle.gtdesk_words.specs.declared.refusal.WordName.TheVariants as name
use Rattle.gtdesk_words.specs.declared.refusal.WordsRefusal.{WordsRefusal}
use Rattle.gtdesk_words.specs.declared.refusal.WordsRefusal.TheVariants as words
use Rattle.gtdesk_tool.specs.declared.refusal.Refusal.{Refusal}
use Rattle.gtdesk_tool.specs.declared.refusal.Refusal.TheVariants as refusal
use Rattle.gtdesk_tool.specs.declared.refusal.RunRefusal.{RunRefusal}
use Rattle.gtdesk_tool.specs.declared.refusal.RunRefusal.TheVariants as run

-- why a text is not a moment
abbrev pub moment_reason : StampFault → List ℕ
moment_reason moment.Shape = codes "not of the form YYYY-MM-DDThh:mm:ss"
moment_reason moment.NoSuchDate = codes "no such date or clock time"
moment_reason moment.Range = codes "not from 1901-01-01T00:00:00 to 2199-12-31T23:59:59"

-- why two days make no horizon
abbrev pub horizon_reason : HorizonFault → List ℕ
horizon_reason horizon.Empty = codes "not after FROM"
horizon_reason horizon.TooEarly = codes "FROM is before 1901-01-01"
horizon_reason horizon.TooLate = codes "after 2700-01-01"
horizon_reason horizon.TooLong = codes "more than 146098 days after FROM"

-- why a text is not a date
abbrev pub date_reason : StampFault → List ℕ
date_reason moment.Shape = codes "not of the form YYYY-MM-DD"
date_reason moment.NoSuchDate = codes "no such date"
date_reason moment.Range = codes "not from 1901-01-01 to 2700-01-01"

-- why it has no domain: its first fault and the place, or that the domain is too large
abbrev pub no_domain_text : NoDomain → List ℕ
no_domain_text (none.Fault why) = of_hours.fault_text (place_in why) why
no_domain_text (none.TooMany needed) = codes "TooMany at 0"

-- the name of a word
abbrev pub word_name : WordName → List ℕ
word_name name.Domain = codes "DOMAIN"
word_name name.First = codes "FIRST"
word_name name.Second = codes "SECOND"
word_name name.Element = codes "ELEMENT"
word_name name.Direction = codes "DIRECTION"
word_name name.Vehicle = codes "VEHICLE"
word_name name.Year = codes "YEAR"
word_name name.Moment = codes "MOMENT"
word_name name.From = codes "FROM"
word_name name.To = codes "TO"
word_name name.Language = codes "LANGUAGE"
word_name name.Names = codes "NAMES"
word_name name.Years = codes "YEARS"
word_name name.OpenEnd = codes "OPEN-END"
word_name name.Points = codes "POINTS"
word_name name.Sunrise = codes "SUNRISE"
word_name name.Sunset = codes "SUNSET"
word_name name.Dawn = codes "DAWN"
word_name name.Dusk = codes "DUSK"
word_name name.Rule = codes "RULE"
word_name name.Day = codes "DAY"
word_name name.Zone = codes "ZONE"

-- why a word names no years
abbrev pub year_reason : List ℕ
year_reason = codes "neither F nor F-L, where F and L are years from 1802 to 2797 that make at most 98 years"

-- why a word names no rules: the rules that there are
abbrev pub rule_reason : List ℕ
rule_reason =
    codes "not names of rules with commas between them; the rules are first-of-month, each-day-of-month, "
    ++ codes "each-day-of-year, each-hour, sunday-to-thursday, monday-and-friday, "
    ++ codes "sunday-and-monday, minutes, end-as-duration, end-past-midnight, days-cut-nights, season-cuts-nights, "
    ++ codes "weekday-on-date, product-first, days-of-year, thirty-first, no-such-day, never-holds, always-holds, past, "
    ++ codes "ends-soon, lone-code"

-- why a word stands for nothing; of a domain, its first fault and the place
abbrev pub reason_text : Reason → List ℕ
reason_text reason.Element = codes "not a number of 1 to 10 digits"
reason_text reason.Direction = codes "neither positive nor negative"
reason_text reason.Vehicle = codes "not a number from 1 to 99"
reason_text reason.Year = codes "not a number from 1901 to 2199"
reason_text (reason.Moment why) = moment_reason why
reason_text (reason.Date why) = date_reason why
reason_text (reason.Horizon why) = horizon_reason why
reason_text (reason.Domain why) = fault_name why.kind ++ codes " at " ++ decimal why.place
reason_text (reason.Hours why) = no_domain_text why
reason_text reason.Language = codes "not en, de or fr"
reason_text reason.DayNames = codes "not de"
reason_text reason.Years = year_reason
reason_text reason.OpenEnd = codes "not a clock time HH:MM from 00:00 to 48:00"
reason_text reason.Points = codes "not a number from 1 to 1440"
reason_text reason.Clock = codes "not a clock time HH:MM from 00:00 to 24:00"
reason_text reason.Rule = rule_reason
reason_text reason.Day = codes "not from 1901-01-01 to 2699-12-31"
reason_text reason.Zone = codes "not the name of a time zone"

-- the word that stands for nothing, and why
abbrev pub word_text : WordFault → List ℕ
word_text fault = word_name fault.word ++ codes ": " ++ reason_text fault.why

-- why no hours are printed
abbrev pub no_hours : List ℕ
no_hours = codes "DOMAIN: no opening hours are found that have its seconds"

-- why there is no picture: nobody could see its stretches
abbrev pub crowded : List ℕ
crowded = codes "Crowded: the seconds of the year make more than 20,000 stretches, too many for a picture"

-- why words are refused: where the fault is, and what it is
abbrev pub words_text : WordsRefusal → List ℕ
words_text (words.Usage told None) = codes "command line: " ++ told.now ++ codes " (see gtdesk --help)"
words_text (words.Usage told (Some name)) =
    codes "command line: " ++ told.now ++ codes ": did you mean '" ++ name.now ++ codes "'? (see gtdesk --help)"
words_text (words.Word why) = word_text why
words_text words.Memory = codes "memory: refused by the system"

-- why a plan is not carried out. The name of the record file is shown as printable ASCII.
abbrev pub run_text : List ℕ → RunRefusal → List ℕ
run_text file (run.Word why) = word_text why
run_text file run.NoHours = no_hours
run_text file (run.NoDomain why) = codes "TEXT: " ++ no_domain_text why
run_text file run.NoElement = printable file ++ codes ": no row names the element"
run_text file run.Crowded = crowded
run_text file (run.Records why) = printable file ++ codes ": " ++ fault_text why
run_text file run.Open = printable file ++ codes ": cannot be opened"
run_text file (run.Old why) = printable file ++ codes ": " ++ fault_text why
run_text file run.OldOpen = printable file ++ codes ": cannot be opened"
run_text file (run.Means why) = printable file ++ codes ": " ++ fault_text why
run_text file run.MeansOpen = printable file ++ codes ": cannot be opened"
run_text file (run.TooManyRows rows) =
    printable file
    ++ (codes ": TooManyRows: the record file would have " ++ (decimal rows ++ codes " rows; at most 65536 are accepted"))
run_text file (run.Questions why) = codes "standard input: " ++ question_fault_text why
run_text file run.Write = codes "standard output: cannot be written"
run_text file run.Memory = codes "memory: refused by the system"

-- the line, which says where the fault is and what it is, and below it what is shown
abbrev pub refusal_lines : List ℕ → Refusal → RefusalSnippet → List ℕ
refusal_lines file (refusal.Words why) shown = codes "gtdesk: " ++ (words_text why ++ (codes "\n" ++ refusal_snippet shown))
refusal_lines file (refusal.Run why) shown = codes "gtdesk: " ++ (run_text file why ++ (codes "\n" ++ refusal_snippet shown))
