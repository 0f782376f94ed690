-- The words and options of a command, in what `clap` found for it.
use Rattle.std.specs.Prelude.{◌||◌, ◌-◌, ℕ, Bool, true, false, not, List, [], ◌∷◌, Option, Some, None, codes, get_or, is_some}
use Rattle.std.specs.Prelude.{if◌then◌else◌, length, nat_lt, take, unwrap_or}
use Rattle.std.specs.Str.{bytes_eq}
use Rattle.clap.specs.Walk.{Row, all_of, first_of}
use Rattle.gtdesk_plans.specs.Arguments.{Text}

-- The word of this name. Without one that must be given, the words of the command line have a fault.
abbrev pub text_of : Text → List Row → Text
text_of name rows = unwrap_or (first_of name rows) []

-- The words of this name, or the values of the option.
abbrev pub texts_of : Text → List Row → List Text
texts_of name rows = unwrap_or (all_of name rows) []

-- Words without their last ones, of which there are so many.
abbrev pub but_last : ℕ → List Text → List Text
but_last count words = take (length words - count) words

-- The word that stands before so many others at the end.
abbrev pub from_last : ℕ → List Text → Text
from_last behind words = if nat_lt behind (length words) then get_or words (length words - 1 - behind) [] else []

-- What `clap` keeps of an option without a value says that it was given.
abbrev pub is_set : Option Text → Bool
is_set None = false
is_set (Some text) = bytes_eq text (codes "true")

-- Whether the option of this name was given, which has no value.
abbrev pub is_given : Text → List Row → Bool
is_given name rows = is_set (first_of name rows)

-- Whether the word or the option of this name was given, which has a value.
abbrev pub has_value : Text → List Row → Bool
has_value name rows = is_some (first_of name rows)

-- Standard input is among these files: it is `-`.
abbrev pub has_input : List Text → Bool
has_input [] = false
has_input (file ∷ files) = bytes_eq file (codes "-") || has_input files

-- A file that may be left out is standard input.
abbrev pub is_input : Option Text → Bool
is_input None = false
is_input (Some file) = bytes_eq file (codes "-")

-- It is among them once at most.
abbrev pub is_read_once : List Text → Bool
is_read_once [] = true
is_read_once (file ∷ files) = if bytes_eq file (codes "-") then not (has_input files) else is_read_once files
