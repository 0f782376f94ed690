-- What a command line asks for, and why it is refused.
use Rattle.std.specs.Prelude.{◌≡◌, ⊤, List, [], ◌∷◌, Option, Some, None, map, option_map, string_bytes}
use Rattle.clap.specs.declared.error.kind.ErrorKind.{ErrorKind}
use Rattle.clap.specs.declared.error.kind.ErrorKind.TheVariants.{DisplayVersion}
use Rattle.gtdesk_plans.specs.Arguments.{Text}
use Rattle.gtdesk_plans.specs.CommandLine.{AskForText, version_line}
use Rattle.gtdesk_plans.specs.Commands.{asks_of, words_of}
use Rattle.gtdesk_plans.specs.Given.{AreMistaken, Give, Given}
use Rattle.gtdesk_plans.specs.Refused.{IsRefusedText}
use Rattle.gtdesk_words.specs.declared.moment.Moment.{Moment}
use Rattle.gtdesk_words.specs.Readings.{AreStopped, IsFirstFault}
use Rattle.gtdesk_plans.specs.declared.commands.now.ZonePlan.{ZonePlan}
use Rattle.gtdesk_plans.specs.declared.plans.Files.{Files}
use Rattle.gtdesk_plans.specs.declared.plans.Files.TheVariants as files
use Rattle.gtdesk_plans.specs.declared.plans.OnePlan.{OnePlan}
use Rattle.gtdesk_plans.specs.declared.plans.OnePlan.TheVariants as one
use Rattle.gtdesk_plans.specs.declared.plans.Plan.{Plan}
use Rattle.gtdesk_plans.specs.declared.plans.Plan.TheVariants as plan
use Rattle.gtdesk_words.specs.declared.refusal.WordsRefusal.{WordsRefusal}
use Rattle.gtdesk_words.specs.declared.refusal.WordsRefusal.TheVariants as refusal

-- The command asks for what the plan carries out.
abbrev pub Asks : Given → Plan → Type 0
Asks given p = asks_of given.form given.rows p

-- The refusal is for the first word of the command that stands for nothing.
abbrev pub IsWordFault : Given → WordsRefusal → Type 0
IsWordFault given (refusal.Usage told meant) = ⊥
IsWordFault given (refusal.Word fault) = IsFirstFault (words_of given.form given.rows) fault
IsWordFault given refusal.Memory = ⊥

-- The refusal is for that word, or of memory.
abbrev pub IsRefused : Given → WordsRefusal → Type 0
IsRefused given r = AreStopped (words_of given.form given.rows) r

-- The plan shows a text: that of help, which is not said here, or the line of the version.
abbrev pub IsShown : ErrorKind → Plan → Type 0
IsShown kind (plan.One (one.Show text)) = kind ≡ DisplayVersion → string_bytes text ≡ version_line
IsShown kind other = ⊥

-- The words ask for what the plan carries out: they give a command that asks for it, or they ask for a text.
pub data AskFor (words : List Text) (wanted : Plan) : Type 0 where
  command : (given : Given) → Give words given → Asks given wanted → AskFor words wanted
  text : (kind : ErrorKind) → AskForText words kind → IsShown kind wanted → AskFor words wanted

-- Why words are refused: they give no command, as the refusal says; or a word of the command stands for nothing; or memory was
-- refused.
abbrev pub AreRefused : List Text → WordsRefusal → Type 0
AreRefused words (refusal.Usage told meant) = AreMistaken words told.now (option_map (λ name. name.now) meant)
AreRefused words (refusal.Word fault) = (given : Given) × Give words given × IsWordFault given (refusal.Word fault)
AreRefused words refusal.Memory = Unit {0}

-- The refusal is for no word.
abbrev pub IsWordless : WordsRefusal → Type 0
IsWordless (refusal.Word fault) = ⊥
IsWordless other = ⊤

-- A refusal of a word keeps it: the text of the first word of the command that stands for nothing. Any other keeps nothing.
abbrev pub KeepsWord : List Text → WordsRefusal → Text → Type 0
KeepsWord words (refusal.Word fault) word =
    (given : Given) × Give words given × IsRefusedText (words_of given.form given.rows) fault word
KeepsWord words other word = word ≡ []

-- The path of a file that may be left out.
abbrev pub path_if : Option Text → List Text
path_if None = []
path_if (Some path) = path ∷ []

-- The paths of the files that a plan reads, one after the other.
abbrev pub files_of : OnePlan → List Text
files_of (one.Now p) = map string_bytes p.files.items
files_of (one.Faults p) = map string_bytes p.files.items
files_of (one.Picture p) = string_bytes p.file ∷ []
files_of (one.SameRows files) = map string_bytes files.items
files_of (one.Records p) = map string_bytes p.files.items
files_of (one.Mend file) = string_bytes file ∷ []
files_of (one.DomainOf p) = path_if (option_map string_bytes p.options.holidays)
files_of other = []

-- The same of what a plan answers.
abbrev pub texts_in : Files → List Text
texts_in files.None = []
texts_in (files.One path) = path.now ∷ []
texts_in (files.Several paths) = map string_bytes paths.now

-- The plan of a zone, once it is known which moment its clock shows.
abbrev pub plan_at : ZonePlan → Moment → OnePlan
plan_at p moment = one.Now (record { files = p.files; moment = moment; view = p.view })

-- The text of opening hours that a plan reads when it is carried out; nothing, if it reads none.
abbrev pub hours_text_of : OnePlan → Text
hours_text_of (one.DomainOf p) = string_bytes p.text
hours_text_of (one.MendHours p) = string_bytes p.text
hours_text_of other = []
