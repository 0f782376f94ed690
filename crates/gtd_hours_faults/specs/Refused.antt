-- What is shown below the line that refuses a text.
use Rattle.std.specs.Prelude.{◌≡◌, ◌++◌, ℕ, List, Some}
use Rattle.gtd_faults.specs.Snippet.{IsOfField, snippet_text}
use Rattle.gtd_hours_faults.specs.Accepted.{Told, accepted, told_line, told_of}
use Rattle.gtd_hours_faults.specs.Words.{place_in}
use Rattle.gtd_hours_faults.specs.declared.refused.RefusalSnippet.{RefusalSnippet}
use Rattle.gtd_hours_options.specs.declared.fault.OptionsFault.{OptionsFault}

-- its lines: the stretch of the text with its caret, and what is accepted there
abbrev pub refusal_snippet : RefusalSnippet → List ℕ
refusal_snippet shown = snippet_text shown.snippet ++ told_line (told_of shown.accepted)

-- what is shown of opening hours with a fault: the stretch around its place, and what is accepted there
abbrev pub IsOfHours : List ℕ → OptionsFault → RefusalSnippet → Type 0
IsOfHours text why shown =
    IsOfField (Some text) (place_in why) shown.snippet × (told_of shown.accepted ≡ Told.words (accepted why))

-- what is shown of opening hours that take so many basic domains
abbrev pub IsOfTooMany : List ℕ → ℕ → RefusalSnippet → Type 0
IsOfTooMany text needed shown = IsOfField (Some text) 0 shown.snippet × (told_of shown.accepted ≡ Told.fewer needed)
