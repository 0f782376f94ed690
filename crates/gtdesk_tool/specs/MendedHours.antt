-- What the command `mend hours` prints, and why it refuses a text.
use Rattle.std.specs.Prelude.{◌≡◌, ◌++◌, List, ℕ, codes}
use Rattle.gtd_hours_loose_tokens.specs.declared.token.DayNames.{DayNames}
use Rattle.gtd_hours_mended.specs.Mending.{IsMendStop, IsMendedText}
use Rattle.gtd_hours_options.specs.declared.fault.OptionsReadFault.{OptionsReadFault}
use Rattle.gtdesk_plans.specs.Arguments.{Text}
use Rattle.gtdesk_tool.specs.TextHours.{unread}
use Rattle.gtdesk_tool.specs.declared.refusal.RunRefusal.{RunRefusal}

-- The line of the mended text.
abbrev pub IsMendedLine : DayNames → Text → List ℕ → Type 0
IsMendedLine names text line =
    (mended : List ℕ) × IsMendedText names text mended × (line ≡ mended ++ codes "\n")

-- The refusal gives the first fault of the text, or is of memory.
abbrev pub IsUnmended : DayNames → Text → RunRefusal → Type 0
IsUnmended names text r = (fault : OptionsReadFault) × IsMendStop names text fault × (r ≡ unread fault)
