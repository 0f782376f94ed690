-- The commands, by their names.
use Rattle.std.specs.Prelude.{List, [], ◌∷◌, Option, option_and_then, map, find, codes}
use Rattle.std.specs.Str.{bytes_eq}
use Rattle.gtd_tool.specs.Commands.Check as check
use Rattle.gtd_tool.specs.Commands.Canon as canon
use Rattle.gtd_tool.specs.Commands.At as at_moment
use Rattle.gtd_tool.specs.Commands.Next as next
use Rattle.gtd_tool.specs.Commands.Ever as ever
use Rattle.gtd_tool.specs.Commands.Schedule as schedule
use Rattle.gtd_tool.specs.Commands.Year as table
use Rattle.gtd_tool.specs.Commands.Migrate as migrate
use Rattle.gtd_tool.specs.Readings.{Reading}
use Rattle.gtd_tool.specs.Asked.{Asked, Text}
use Rattle.gtd_tool.specs.Asked as asked
use Rattle.gtd_tool.specs.Task.{Task}
pub mod Check
pub mod Canon
pub mod At
pub mod Next
pub mod Ever
pub mod Schedule
pub mod Year
pub mod Migrate

-- The commands by their names, and how each reads its words, if they are as many as it takes.
abbrev pub commands : List (Text × (List Text → Option Reading))
commands =
    (codes "check", check.reading)
    ∷ (codes "canon", canon.reading)
    ∷ (codes "at", at_moment.reading)
    ∷ (codes "next", next.reading)
    ∷ (codes "ever", ever.reading)
    ∷ (codes "schedule", schedule.reading)
    ∷ (codes "year", table.reading)
    ∷ (codes "migrate", migrate.reading)
    ∷ []

-- The names of the commands.
abbrev pub command_names : List Text
command_names = map (λ command. command.0) commands

-- The reading of the words by the command with this name.
abbrev pub reading_named : Text → List Text → Option Reading
reading_named name words =
    option_and_then (λ command. command.1 words) (find (λ command. bytes_eq name command.0) commands)

-- What is to be done for what is asked.
abbrev pub task_of : Asked → Task
task_of (asked.Check domain) = check.task domain
task_of (asked.Canon domain) = canon.task domain
task_of (asked.At domain moment) = at_moment.task domain moment
task_of (asked.Next domain moment to) = next.task domain moment to
task_of (asked.Ever domain moment) = ever.task domain moment
task_of (asked.Schedule path horizon vehicle) = schedule.task path horizon vehicle
task_of (asked.Year path element direction vehicle year) = table.task path element direction vehicle year
task_of (asked.Migrate path) = migrate.task path

-- The file that is read, if there is one.
abbrev pub file_of : Asked → Option Text
file_of asked = (task_of asked).file
