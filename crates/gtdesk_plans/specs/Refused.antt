-- The word that a refusal keeps.
use Rattle.std.specs.Prelude.{◌≡◌, ◌⊎◌, List, [], ◌∷◌, codes}
use Rattle.clap.specs.Walk.{Row}
use Rattle.gtdesk_plans.specs.Arguments.{Text}
use Rattle.gtdesk_plans.specs.Commands.Now.{moment_word, vehicle_word}
use Rattle.gtdesk_plans.specs.Rows.{text_of}
use Rattle.gtdesk_plans.specs.declared.forms.Form.{Form}
use Rattle.gtdesk_plans.specs.declared.forms.Form.TheVariants as form
use Rattle.gtdesk_words.specs.Readings.{IsFaultOf, Reading, Stands, Word}
use Rattle.gtdesk_words.specs.declared.refusal.WordFault.{WordFault}
use Rattle.gtdesk_words.specs.declared.refusal.WordName.{WordName}
use Rattle.gtdesk_words.specs.declared.refusal.WordName.TheVariants as name
use Rattle.gtdesk_words.specs.declared.refusal.WordsRefusal.{WordsRefusal}
use Rattle.gtdesk_words.specs.declared.refusal.WordsRefusal.TheVariants as refusal

-- The text that is read. Of two dates it is the second.
abbrev pub text_in : Reading → Text
text_in (Reading.element text) = text
text_in (Reading.elements text) = text
text_in (Reading.direction text) = text
text_in (Reading.vehicle text) = text
text_in (Reading.year text) = text
text_in (Reading.moment text) = text
text_in (Reading.date text) = text
text_in (Reading.days from to) = to
text_in (Reading.domain text) = text
text_in (Reading.hours text) = text
text_in (Reading.language text) = text
text_in (Reading.day_names text) = text
text_in (Reading.years text) = text
text_in (Reading.open_end text) = text
text_in (Reading.points text) = text
text_in (Reading.event text) = text
text_in (Reading.rules text) = text
text_in (Reading.day text) = text
text_in (Reading.zone text) = text

-- The text is that of the first of these words that is not what it has to be, as the fault says.
abbrev pub IsRefusedText : List Word → WordFault → Text → Type 0
IsRefusedText [] fault text = ⊥
IsRefusedText (word ∷ words) fault text =
    (IsFaultOf word fault × (text ≡ text_in word.reading)) ⊎ (Stands word.reading × IsRefusedText words fault text)

-- What a refusal keeps of these words: the text of the word that it is for, or nothing.
abbrev pub IsKept : List Word → WordsRefusal → Text → Type 0
IsKept words (refusal.Word fault) text = IsRefusedText words fault text
IsKept words other text = text ≡ []

-- The word of a command, as it was given.
abbrev pub word_of : Form → WordName → List Row → Text
word_of form.HoursOf name.Domain rows = text_of (codes "of") rows
word_of other name.Domain rows = text_of (codes "DOMAIN") rows
word_of other name.First rows = text_of (codes "FIRST") rows
word_of other name.Second rows = text_of (codes "SECOND") rows
word_of form.Picture name.Element rows = text_of (codes "ELEMENT") rows
word_of other name.Element rows = text_of (codes "element") rows
word_of other name.Direction rows = text_of (codes "DIRECTION") rows
word_of form.Now name.Vehicle rows = vehicle_word rows
word_of form.NowIn name.Vehicle rows = vehicle_word rows
word_of other name.Vehicle rows = text_of (codes "VEHICLE") rows
word_of other name.Year rows = text_of (codes "YEAR") rows
word_of form.Now name.Moment rows = moment_word rows
word_of other name.Moment rows = text_of (codes "from") rows
word_of other name.From rows = text_of (codes "FROM") rows
word_of other name.To rows = text_of (codes "TO") rows
word_of other name.Language rows = text_of (codes "lang") rows
word_of other name.Names rows = text_of (codes "day-names") rows
word_of other name.Years rows = text_of (codes "years") rows
word_of other name.OpenEnd rows = text_of (codes "open-end") rows
word_of other name.Points rows = text_of (codes "points") rows
word_of other name.Sunrise rows = text_of (codes "sunrise") rows
word_of other name.Sunset rows = text_of (codes "sunset") rows
word_of other name.Dawn rows = text_of (codes "dawn") rows
word_of other name.Dusk rows = text_of (codes "dusk") rows
word_of other name.Rule rows = text_of (codes "allow") rows
word_of other name.Day rows = text_of (codes "at") rows
word_of other name.Zone rows = text_of (codes "zone") rows

-- The word that a refusal is for, if it is for one.
abbrev pub word_at : Form → WordsRefusal → List Row → Text
word_at form (refusal.Word fault) rows = word_of form fault.word rows
word_at form other rows = []
