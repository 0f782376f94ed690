-- Which words of a command are given.
use Rattle.std.specs.Prelude.{◌≡◌, ◌⊎◌, ◌||◌, ◌&&◌, Bool, false, List, [], ◌∷◌, Option, Some, None, Result, Ok, Err, codes}
use Rattle.std.specs.Prelude.{if◌then◌else◌, is_ok, length, nat_lt, not}
use Rattle.std.specs.Str.{bytes_eq}
use Rattle.clap.specs.Walk.{Row, first_of}
use Rattle.clap.specs.Simple.{subcommand_of}
use Rattle.clap.specs.Kinds.{IsAmong}
use Rattle.clap.specs.Faults.{fault_of}
use Rattle.clap.specs.declared.error.kind.ErrorKind.{ErrorKind}
use Rattle.gtdesk_plans.specs.Arguments.{Text}
use Rattle.gtdesk_plans.specs.CommandLine.{desk_app, is_request, usage_text}
use Rattle.gtdesk_plans.specs.Hints.{meant_by}
use Rattle.gtd_moments.specs.Moments.{moment_in}
use Rattle.gtdesk_plans.specs.Rows.{but_last, from_last, has_input, has_value, is_given, is_input, is_read_once, text_of}
use Rattle.gtdesk_plans.specs.Rows.{texts_of}
use Rattle.gtdesk_plans.specs.TextOptions.{has_text_options}
use Rattle.gtdesk_plans.specs.declared.forms.Form.{Form}
use Rattle.gtdesk_plans.specs.declared.forms.Form.TheVariants as form
use Rattle.gtdesk_plans.specs.declared.forms.Misuse.{Misuse}
use Rattle.gtdesk_plans.specs.declared.forms.Misuse.TheVariants as misuse

-- What is wrong with the words of a command that have no fault and do not give all that it takes, or more.
abbrev pub told_of : Misuse → Text
told_of misuse.TextOrDomain = codes "hours takes either TEXT or --of DOMAIN"
told_of misuse.OptionsOfText = codes "hours takes no other option with --of DOMAIN"
told_of misuse.WordsOrFile = codes "same takes either FIRST and SECOND or --file FILE alone"
told_of misuse.NoWarnings = codes "faults takes --allow and --at with --warn alone"
told_of misuse.FileOrHours = codes "mend takes either FILE or hours TEXT"
told_of misuse.NamesOfFile = codes "mend takes --day-names with hours TEXT alone"
told_of misuse.MomentOrZone = codes "now takes FILE.. MOMENT VEHICLE, or FILE.. VEHICLE --zone NAME"
told_of misuse.TwoForms = codes "now takes either --json or --table"
told_of misuse.InputTwice = codes "standard input is given more than once"
told_of misuse.Nothing = codes "the words are not understood"

-- A form whose files are these: standard input is one of them at most.
abbrev pub form_with : Form → List Text → Result Form Misuse
form_with form files = if is_read_once files then Ok form else Err misuse.InputTwice

-- `now` of files, at a moment, for a vehicle type: the last word but one is the moment.
abbrev pub moment_form : List Text → Result Form Misuse
moment_form words = if nat_lt 2 (length words) then form_with form.Now (but_last 2 words) else Err misuse.MomentOrZone

-- The same by the clock of a zone: all words but the last are files, and the last of these is no moment.
abbrev pub zone_form : List Text → Result Form Misuse
zone_form words =
    if nat_lt 1 (length words) && not (is_ok (moment_in (from_last 1 words))) then form_with form.NowIn (but_last 1 words)
    else Err misuse.MomentOrZone

abbrev pub words_form : List Text → Bool → Result Form Misuse
words_form words zone = if zone then zone_form words else moment_form words

-- An answer has one form.
abbrev pub now_form : List Row → Result Form Misuse
now_form rows =
    if is_given (codes "json") rows && is_given (codes "table") rows then Err misuse.TwoForms
    else words_form (texts_of (codes "FILE") rows) (has_value (codes "zone") rows)

-- Options of warnings go with warnings.
abbrev pub warned_form : Bool → Bool → Bool → List Text → Result Form Misuse
warned_form warn allow at files =
    if warn then form_with form.Faults files
    else if allow then Err misuse.NoWarnings
    else if at then Err misuse.NoWarnings
    else form_with form.Faults files

abbrev pub faults_form : List Row → Result Form Misuse
faults_form rows =
    warned_form (is_given (codes "warn") rows) (has_value (codes "allow") rows) (has_value (codes "at") rows)
    (texts_of (codes "FILE") rows)

-- A form of files, where the table of holidays may be standard input: then none of the files is.
abbrev pub tabled_form : Form → Bool → List Text → Result Form Misuse
tabled_form form table files = if table && has_input files then Err misuse.InputTwice else form_with form files

-- `hours` of a text or of a domain, of which one is given; options of texts go with a text.
abbrev pub hours_form : Bool → Bool → Bool → Result Form Misuse
hours_form text domain options =
    if text then (if domain then Err misuse.TextOrDomain else Ok form.Hours)
    else if domain then (if options then Err misuse.OptionsOfText else Ok form.HoursOf)
    else Err misuse.TextOrDomain

-- `same` of two words, of domains or of opening hours; or of files, which stand alone.
abbrev pub pair_form : Bool → Bool → Result Form Misuse
pair_form hours second =
    if second then (if hours then Ok form.SameHours else Ok form.Same) else Err misuse.WordsOrFile

abbrev pub rows_form : Bool → List Text → Result Form Misuse
rows_form more files = if more then Err misuse.WordsOrFile else form_with form.SameRows files

abbrev pub same_form : List Row → Result Form Misuse
same_form rows =
    if has_value (codes "file") rows
    then rows_form (is_given (codes "hours") rows || (has_value (codes "FIRST") rows || has_value (codes "from") rows))
    (texts_of (codes "file") rows)
    else pair_form (is_given (codes "hours") rows) (has_value (codes "SECOND") rows)

-- `mend` of a file, or of a text behind the word `hours`, with which an option of texts goes.
abbrev pub file_form : Bool → Result Form Misuse
file_form names = if names then Err misuse.NamesOfFile else Ok form.Mend

abbrev pub mend_form : List Row → Result Form Misuse
mend_form rows =
    if has_value (codes "TEXT") rows
    then (if bytes_eq (text_of (codes "FILE") rows) (codes "hours") then Ok form.MendHours else Err misuse.FileOrHours)
    else file_form (has_value (codes "day-names") rows)

-- The form of the command of a name, from what was found for it.
abbrev pub form_in : Text × List Row → Result Form Misuse
form_in found =
    if bytes_eq found.0 (codes "now") then now_form found.1
    else if bytes_eq found.0 (codes "faults") then faults_form found.1
    else if bytes_eq found.0 (codes "words") then Ok form.Words
    else if bytes_eq found.0 (codes "hours")
    then hours_form (has_value (codes "TEXT") found.1) (has_value (codes "of") found.1)
    (has_text_options found.1)
    else if bytes_eq found.0 (codes "same") then same_form found.1
    else if bytes_eq found.0 (codes "diff") then Ok form.Diff
    else if bytes_eq found.0 (codes "ask") then Ok form.Ask
    else if bytes_eq found.0 (codes "records")
    then tabled_form form.Records (is_input (first_of (codes "holidays") found.1)) (texts_of (codes "FILE") found.1)
    else if bytes_eq found.0 (codes "conditions")
    then tabled_form form.Conditions (is_input (first_of (codes "holidays") found.1))
    (text_of (codes "TAGS") found.1 ∷ text_of (codes "MEANS") found.1 ∷ [])
    else if bytes_eq found.0 (codes "mend") then mend_form found.1
    else if bytes_eq found.0 (codes "picture") then Ok form.Picture
    else if bytes_eq found.0 (codes "picture-domain") then Ok form.PictureDomain
    else Err misuse.Nothing

-- A command, by its form, with what was found for it.
pub record Given : Type 0 where
  pub form : Form
  pub rows : List Row

abbrev pub with_rows : List Row → Result Form Misuse → Result Given Misuse
with_rows rows (Ok form) = Ok (record { form = form; rows = rows })
with_rows rows (Err misuse) = Err misuse

abbrev pub given_in : Option (Text × List Row) → Result Given Misuse
given_in None = Err misuse.Nothing
given_in (Some found) = with_rows found.1 (form_in found)

-- The command among the words of a command line, or what is wrong with them.
abbrev pub given_by : List Text → Result Given Misuse
given_by words = given_in (subcommand_of desk_app words)

-- What is read: without words, the program is asked for its help.
abbrev pub help_words : List Text
help_words = codes "--help" ∷ []

abbrev pub asked_words : List Text → List Text
asked_words [] = help_words
asked_words (word ∷ words) = word ∷ words

-- The words give this command, with all of its words and no fault.
pub record Give (words : List Text) (given : Given) : Type 0 where
  pub faultless : fault_of desk_app words ≡ []
  pub is : given_by words ≡ Ok given

-- The words have a fault that is not a request for help; or they have none, and do not give a command with what it takes. The
-- text says which fault it is, and a command may be meant.
abbrev pub AreMistaken : List Text → Text → Option Text → Type 0
AreMistaken words told meant =
    ((kind : ErrorKind) × IsAmong kind (fault_of desk_app words) × (is_request kind ≡ false) × (told ≡ usage_text kind)
    × (meant ≡ meant_by kind words))
    ⊎ ((misuse : Misuse) × (fault_of desk_app words ≡ []) × (given_by words ≡ Err misuse) × (told ≡ told_of misuse)
    × (meant ≡ None))
