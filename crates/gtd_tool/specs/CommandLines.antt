-- The command lines of `gtd`: the name of a command, and positional words.
use Rattle.std.specs.Prelude.{◌==◌, Bool, false, List, [], ◌∷◌}
use Rattle.std.specs.Prelude.{Option, Some, None, option_map, option_and_then, codes}
use Rattle.std.specs.Prelude.{if◌then◌else◌}
use Rattle.std.specs.List.{list_any}
use Rattle.std.specs.Str.{bytes_eq}
use Rattle.gtd_tool.specs.Commands.{command_names, reading_named}
use Rattle.gtd_tool.specs.Readings.{Reading}
use Rattle.gtd_tool.specs.Asked.{Text}

-- The word is the name of a command.
abbrev pub is_command : Text → Bool
is_command word = list_any (λ name. bytes_eq name word) command_names

-- The word is an option: it has two or more bytes, and the first is a hyphen.
abbrev pub is_option : Text → Bool
is_option (first ∷ second ∷ rest) = first == 45
is_option word = false

-- The positional words, by the conventions of POSIX for utilities: those before the first `--`, none of which may be an
-- option, and all after it.
abbrev pub plain_words : List Text → Option (List Text)
plain_words [] = Some []
plain_words (word ∷ rest) =
    if bytes_eq word (codes "--") then Some rest
    else if is_option word then None
    else option_map (λ words. word ∷ words) (plain_words rest)

-- The name of a command, which comes first, and the other positional words.
abbrev pub named_in : List Text → Option (Text × List Text)
named_in [] = None
named_in (name ∷ rest) = if is_command name then option_map (λ words. (name, words)) (plain_words rest) else None

-- The reading of a command line, if it names a command and has as many words as that command takes.
abbrev pub reading_in : List Text → Option Reading
reading_in words = option_and_then (λ given. reading_named given.0 given.1) (named_in words)
