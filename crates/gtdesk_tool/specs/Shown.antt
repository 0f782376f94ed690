-- What is shown below the line of a refusal.
use Rattle.std.specs.Prelude.{◌≡◌, ℕ, List, Some, get_or}
use Rattle.gtd_faults.specs.Snippet.{IsOfField}
use Rattle.gtd_faults.specs.Expected as of_records
use Rattle.gtd_faults.specs.declared.snippet.Snippet.TheVariants as snippet
use Rattle.gtd_hours_faults.specs.Accepted.{Told, told_in, told_of}
use Rattle.gtd_hours_faults.specs.Refused.{IsOfHours, IsOfTooMany}
use Rattle.gtd_hours_faults.specs.declared.refused.RefusalSnippet.{RefusalSnippet}
use Rattle.gtd_records.specs.declared.fault.RecordFault.TheVariants as records
use Rattle.gtdesk_words.specs.declared.refusal.NoDomain.{NoDomain}
use Rattle.gtdesk_words.specs.declared.refusal.NoDomain.TheVariants as none
use Rattle.gtdesk_words.specs.declared.refusal.Reason.{Reason}
use Rattle.gtdesk_words.specs.declared.refusal.Reason.TheVariants as reason
use Rattle.gtdesk_words.specs.declared.refusal.WordsRefusal.TheVariants as words
use Rattle.gtdesk_tool.specs.declared.refusal.Refusal.{Refusal}
use Rattle.gtdesk_tool.specs.declared.refusal.Refusal.TheVariants as refusal
use Rattle.gtdesk_tool.specs.declared.refusal.RunRefusal.{RunRefusal}
use Rattle.gtdesk_tool.specs.declared.refusal.RunRefusal.TheVariants as run

-- nothing
abbrev pub IsNothing : RefusalSnippet → Type 0
IsNothing shown = (shown.snippet ≡ snippet.Nothing) × (told_of shown.accepted ≡ Told.nothing)

-- what is shown of a text of opening hours without a domain
abbrev pub IsOfText : List ℕ → NoDomain → RefusalSnippet → Type 0
IsOfText text (none.Fault why) shown = IsOfHours text why shown
IsOfText text (none.TooMany needed) shown = IsOfTooMany text needed shown

-- what is shown of a word: of a time domain and of opening hours the text, of any other nothing
abbrev pub IsOfWord : List ℕ → Reason → RefusalSnippet → Type 0
IsOfWord text (reason.Domain why) shown =
    IsOfField (Some text) why.place shown.snippet
    × (told_of shown.accepted ≡ told_in (of_records.accepted_at (records.Domain 1 why) (get_or text why.place 0)))
IsOfWord text (reason.Hours why) shown = IsOfText text why shown
IsOfWord text other shown = IsNothing shown

-- what is shown of the text that a refusal is about
abbrev pub IsOfRun : List ℕ → RunRefusal → RefusalSnippet → Type 0
IsOfRun text (run.NoDomain why) shown = IsOfText text why shown
IsOfRun text other shown = IsNothing shown

abbrev pub IsShownBelow : List ℕ → Refusal → RefusalSnippet → Type 0
IsShownBelow text (refusal.Words (words.Word fault)) shown = IsOfWord text fault.why shown
IsShownBelow text (refusal.Words other) shown = IsNothing shown
IsShownBelow text (refusal.Run why) shown = IsOfRun text why shown
