-- The command line as it is described to `clap`. The specification of that library says which of the given words is which
-- word of a command.
use Rattle.std.specs.Prelude.{◌≡◌, Bool, true, false, List, [], ◌∷◌, codes, fold, unwrap_or}
use Rattle.clap.specs.Simple.{App, new_shape, subcommand_of, subcommand_rows_of, with_subcommand}
use Rattle.clap.specs.Kinds.{IsAmong}
use Rattle.clap.specs.Faults.{fault_of}
use Rattle.clap.specs.Values.{kind_text}
use Rattle.clap.specs.declared.error.kind.ErrorKind.{ErrorKind}
use Rattle.clap.specs.declared.parser.matches.ArgMatches.{ArgMatches}
use Rattle.clap.specs.declared.error.kind.ErrorKind.TheVariants.{DisplayHelp, DisplayVersion, OutOfMemory}
use Rattle.gtdesk_plans.specs.Arguments.{Text}
use Rattle.gtdesk_plans.specs.Commands.Ask as ask
use Rattle.gtdesk_plans.specs.Commands.Conditions as conditions
use Rattle.gtdesk_plans.specs.Commands.Diff as diff
use Rattle.gtdesk_plans.specs.Commands.Faults as faults
use Rattle.gtdesk_plans.specs.Commands.Hours as hours
use Rattle.gtdesk_plans.specs.Commands.Mend as mend
use Rattle.gtdesk_plans.specs.Commands.Now as now
use Rattle.gtdesk_plans.specs.Commands.Picture as picture
use Rattle.gtdesk_plans.specs.Commands.Records as records
use Rattle.gtdesk_plans.specs.Commands.Same as same
use Rattle.gtdesk_plans.specs.Commands.Words as words

-- The program without its commands: one must be given, and there is a version to show.
abbrev pub none_given : App
none_given = record {
  top = record (new_shape (codes "gtdesk")) { no_binary_name = true; has_version = true; subcommand_required = true };
  subs = [];
}

-- The program with all its commands.
abbrev pub desk_app : App
desk_app =
    fold (λ program command. with_subcommand program command.top) none_given
    (now.app ∷ faults.app ∷ words.app ∷ hours.app ∷ same.app ∷ diff.app ∷ ask.app ∷ records.app
    ∷ conditions.app ∷ mend.app ∷ picture.app ∷ picture.domain_app ∷ [])

-- The words have no fault, and the matches are theirs.
pub record HasWords (words : List Text) (m : ArgMatches) : Type 0 where
  pub faultless : fault_of desk_app words ≡ []
  pub entered : subcommand_rows_of m ≡ subcommand_of desk_app words

-- The error is a refusal of memory.
abbrev pub is_memory : ErrorKind → Bool
is_memory OutOfMemory = true
is_memory _ = false

-- The error is a request for help or for the version.
abbrev pub is_request : ErrorKind → Bool
is_request DisplayHelp = true
is_request DisplayVersion = true
is_request _ = false

-- The words ask for help or for the version, as the kind says.
abbrev pub AskForText : List Text → ErrorKind → Type 0
AskForText words kind = IsAmong kind (fault_of desk_app words) × (is_request kind ≡ true)

-- The line of the version. The text of help is what the library makes of the program, which has no definition here.
abbrev pub version_line : Text
version_line = codes "gtdesk 0.1.0\n"

-- What is wrong with words that have a fault of this kind, as the library names it.
abbrev pub usage_text : ErrorKind → Text
usage_text kind = unwrap_or (kind_text kind) (codes "the words are not understood")
