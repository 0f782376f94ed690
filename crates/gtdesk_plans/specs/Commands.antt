-- The forms of commands: the words of each, and the plan that each asks for.
use Rattle.std.specs.Prelude.{List}
use Rattle.clap.specs.Walk.{Row}
use Rattle.gtdesk_plans.specs.Commands.Ask as ask
use Rattle.gtdesk_plans.specs.Commands.Conditions as conditions
use Rattle.gtdesk_plans.specs.Commands.Diff as diff
use Rattle.gtdesk_plans.specs.Commands.Faults as faults
use Rattle.gtdesk_plans.specs.Commands.Hours as hours
use Rattle.gtdesk_plans.specs.Commands.Mend as mend
use Rattle.gtdesk_plans.specs.Commands.Now as now
use Rattle.gtdesk_plans.specs.Commands.Picture as picture
use Rattle.gtdesk_plans.specs.Commands.Records as records
use Rattle.gtdesk_plans.specs.Commands.Same as same
use Rattle.gtdesk_plans.specs.Commands.Words as words
use Rattle.gtdesk_words.specs.Readings.{Word}
use Rattle.gtdesk_plans.specs.declared.forms.Form.{Form}
use Rattle.gtdesk_plans.specs.declared.forms.Form.TheVariants as form
use Rattle.gtdesk_plans.specs.declared.plans.Plan.{Plan}
pub mod Ask
pub mod Conditions
pub mod Diff
pub mod Faults
pub mod Hours
pub mod Mend
pub mod Now
pub mod Picture
pub mod Records
pub mod Same
pub mod Words

-- The words of a command that have to be something, from left to right, and those of its options last.
abbrev pub words_of : Form → List Row → List Word
words_of form.Now rows = now.words rows
words_of form.NowIn rows = now.zone_words rows
words_of form.Faults rows = faults.words rows
words_of form.Words rows = words.words rows
words_of form.Hours rows = hours.words rows
words_of form.HoursOf rows = hours.words_of rows
words_of form.Same rows = same.words rows
words_of form.SameHours rows = same.hours_words rows
words_of form.SameRows rows = same.file_words rows
words_of form.Diff rows = diff.words rows
words_of form.Ask rows = ask.words rows
words_of form.Records rows = records.words rows
words_of form.Conditions rows = conditions.words rows
words_of form.Mend rows = mend.words rows
words_of form.MendHours rows = mend.hours_words rows
words_of form.Picture rows = picture.words rows
words_of form.PictureDomain rows = picture.domain_words rows

-- The plan that a command asks for.
abbrev pub asks_of : Form → List Row → Plan → Type 0
asks_of form.Now rows p = now.Asks rows p
asks_of form.NowIn rows p = now.AsksIn rows p
asks_of form.Faults rows p = faults.Asks rows p
asks_of form.Words rows p = words.Asks rows p
asks_of form.Hours rows p = hours.Asks rows p
asks_of form.HoursOf rows p = hours.AsksOf rows p
asks_of form.Same rows p = same.Asks rows p
asks_of form.SameHours rows p = same.AsksHours rows p
asks_of form.SameRows rows p = same.AsksFile rows p
asks_of form.Diff rows p = diff.Asks rows p
asks_of form.Ask rows p = ask.Asks rows p
asks_of form.Records rows p = records.Asks rows p
asks_of form.Conditions rows p = conditions.Asks rows p
asks_of form.Mend rows p = mend.Asks rows p
asks_of form.MendHours rows p = mend.AsksHours rows p
asks_of form.Picture rows p = picture.Asks rows p
asks_of form.PictureDomain rows p = picture.AsksDomain rows p
