-- The words and options that a command takes, as they are described to `clap`.
use Rattle.std.specs.Prelude.{◌≡◌, true, List, Some, Result, IfOk, fold}
use Rattle.clap.specs.Walk.{Rule}
use Rattle.clap.specs.Lexer.{usize_max}
use Rattle.clap.specs.Simple.{App, app_of, new_app, new_rule, with_rule}
use Rattle.clap.specs.declared.builder.action.ArgAction.TheVariants.{Append, Set, SetTrue}
use Rattle.clap.specs.declared.builder.command.Command.{Command}
use Rattle.gtdesk_plans.specs.declared.arguments.Argument.{Argument}
use Rattle.gtdesk_plans.specs.declared.arguments.Argument.TheVariants as argument
pub use Rattle.gtdesk_words.specs.Text.{Text}

-- A word of a command, under the name that help shows. It must be given.
abbrev pub word_rule : Text → Rule
word_rule name = record (new_rule name) { action = Some Set; required = true }

-- A word that must be given, and may be followed by more of its kind.
abbrev pub words_rule : Text → Rule
words_rule name =
    record (new_rule name) {
      action = Some Append;
      range = Some (record { start_inclusive = 1; end_inclusive = usize_max });
      required = true;
    }

-- An option without a value, of this long name.
abbrev pub flag_rule : Text → Rule
flag_rule name = record (new_rule name) { long = Some name; action = Some SetTrue }

-- A word of a command that may be left out.
abbrev pub free_word_rule : Text → Rule
free_word_rule name = record (new_rule name) { action = Some Set }

-- An option with a value, of this long name, that may be left out. Help shows one name for its value.
abbrev pub option_rule : Text → Rule
option_rule name = record (new_rule name) { long = Some name; value_names = 1; action = Some Set }

-- The same with one value or more.
abbrev pub options_rule : Text → Rule
options_rule name =
    record (new_rule name) {
      long = Some name;
      value_names = 1;
      action = Some Append;
      range = Some (record { start_inclusive = 1; end_inclusive = usize_max });
    }

-- What `clap` is told of a word or an option. Its help has no definition here.
abbrev pub rule : Argument → Rule
rule (argument.Word name help) = word_rule name.now
rule (argument.Words name help) = words_rule name.now
rule (argument.FreeWord name help) = free_word_rule name.now
rule (argument.Flag name help) = flag_rule name.now
rule (argument.Option name value help) = option_rule name.now
rule (argument.Options name value help) = options_rule name.now

-- The command with these words and options more.
abbrev pub with_rules : App → List Rule → App
with_rules app rules = fold with_rule app rules

-- The command of this name that takes these words and options.
abbrev pub command_of : Text → List Rule → App
command_of name rules = with_rules (new_app name) rules

-- The command is this one, unless memory was refused while it was built.
abbrev pub Builds : {E : Type 0} → App → Result Command E → Type 0
Builds app built = IfOk built (λ command. app_of command ≡ app)
