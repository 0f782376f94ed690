-- The program so far has the commands of the names that were passed.
use Rattle.std.proofs.Common.{◌≡◌, take}
use Rattle.clap.specs.Simple.{app_of}
use Rattle.gtd_tool.specs.Asked.{texts}
use Rattle.gtd_tool.specs.ClapCommand.{with_commands}
use Rattle.gtd_tool.proofs.arguments.add_commands.Given as goal

abbrev pub invariant-loop-name : goal.invariant-loop-name
invariant-loop-name l = app_of l.program ≡ with_commands (app_of l.initial.program) (texts (take l.name-index l.names))
