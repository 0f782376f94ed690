-- A text with times of all forms, as it is read, and the plain text of the same meaning.
use Rattle.std.specs.Prelude.{ℕ, List, ◌≡◌}
use Rattle.gtd_hours_times.specs.declared.times.TimeToken.{TimeToken}
use Rattle.gtd_hours_times.specs.Tokens.{AreTimeTokens}
use Rattle.gtd_hours_moments.specs.declared.clocks.Clocks.{Clocks}
use Rattle.gtd_hours_moments.specs.declared.parts.Part.{Part}
use Rattle.gtd_hours_moments.specs.declared.placed.PlacedText.{PlacedText}
use Rattle.gtd_hours_moments.specs.declared.text.MomentText.{MomentText}
use Rattle.gtd_hours_moments.specs.Checked.{checked_puts}
use Rattle.gtd_hours_moments.specs.Parts.{breaks_off, forms_of, parts_of, told_of}
use Rattle.gtd_hours_moments.specs.Places.{Holds}
use Rattle.gtd_hours_moments.specs.Plain.{plain_puts}

-- The parts are those of the text's tokens.
pub record ArePartsIn (text : List ℕ) (parts : List Part) : Type 0 where
  pub tokens : List TimeToken
  pub are : AreTimeTokens text tokens
  pub is : parts ≡ parts_of tokens

-- The text with these parts is so: its checked text, how faults of that are told, its forms, and whether one breaks off.
pub record HasParts (text : List ℕ) (parts : List Part) (read : MomentText) : Type 0 where
  pub checked : Holds read.checked (checked_puts text parts)
  pub told : read.told.items ≡ told_of parts
  pub forms : read.forms.items ≡ forms_of parts
  pub breaks : read.breaks_off ≡ breaks_off parts

-- The text, of its tokens, is so.
pub record IsMomentText (text : List ℕ) (read : MomentText) : Type 0 where
  pub tokens : List TimeToken
  pub are : AreTimeTokens text tokens
  pub has : HasParts text (parts_of tokens) read

-- The plain text of the text, with these options.
pub record IsPlainText (clocks : Clocks) (text : List ℕ) (plain : PlacedText) : Type 0 where
  pub tokens : List TimeToken
  pub are : AreTimeTokens text tokens
  pub holds : Holds plain (plain_puts clocks text (parts_of tokens))
