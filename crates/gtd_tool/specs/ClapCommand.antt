-- The command line as it is described to `clap`, and what it finds in the words.
use Rattle.std.specs.Prelude.{◌≡◌, Bool, true, false, List, [], ◌∷◌, Option, Some, None, codes, fold}
use Rattle.clap.specs.Walk.{Row, Rule, all_of}
use Rattle.clap.specs.Simple.{App, Shape, new_app, new_rule, new_shape, with_rule, with_subcommand, subcommand_rows_of}
use Rattle.clap.specs.declared.builder.action.ArgAction.TheVariants.{Append}
use Rattle.clap.specs.declared.error.kind.ErrorKind.{ErrorKind}
use Rattle.clap.specs.declared.error.kind.ErrorKind.TheVariants.{OutOfMemory}
use Rattle.clap.specs.declared.parser.matches.ArgMatches.{ArgMatches}
use Rattle.gtd_tool.specs.CommandLines.{named_in}
use Rattle.gtd_tool.specs.Commands.{command_names}
use Rattle.gtd_tool.specs.Asked.{Text}

-- The one argument of each command: its words.
abbrev pub id : Text
id = codes "WORDS"

-- It takes any number of words. Their number is checked once the command is known.
abbrev pub word_rule : Rule
word_rule = record (new_rule id) { action = Some Append }

-- The command with this name.
abbrev pub leaf_given : Text → Shape
leaf_given name = (with_rule (new_app name) word_rule).top

-- The program: a command must be given, and `help` is not one.
abbrev pub top_given : Shape
top_given = record (new_shape (codes "gtd")) {
  no_binary_name = true;
  disable_help_flag = true;
  disable_help_subcommand = true;
  subcommand_required = true;
}

-- The program without its commands.
abbrev pub none_given : App
none_given = record { top = top_given; subs = [] }

-- The program with a command more of each name.
abbrev pub with_commands : App → List Text → App
with_commands app names = fold (λ before name. with_subcommand before (leaf_given name)) app names

-- The program with all its commands.
abbrev pub gtd_app : App
gtd_app = with_commands none_given command_names

-- What is found in these words: nothing if there are none.
abbrev pub found_words : List Text → Option (List Text)
found_words [] = None
found_words (v ∷ vs) = Some (v ∷ vs)

-- The matches have the name and the words that the command line gives.
abbrev pub HasGiven : List Text → ArgMatches → Type 0
HasGiven words m = (p : Text × List Text) × (rows : List Row) × (named_in words ≡ Some p)
    × (subcommand_rows_of m ≡ Some (p.0, rows)) × (all_of id rows ≡ found_words p.1)

-- The error is a refusal of memory.
abbrev pub is_memory : ErrorKind → Bool
is_memory OutOfMemory = true
is_memory _ = false
