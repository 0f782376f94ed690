-- What a command prints.
use Rattle.std.specs.Prelude.{◌++◌, ℕ, List, Option, codes}
use Rattle.std.specs.Io.KnownBytes.{Appends}
use Rattle.gtd_tool.specs.Asked.{Asked}
use Rattle.gtd_tool.specs.Commands.{task_of}
use Rattle.gtd_tool.specs.Writing.{AppendsPart}

-- The answer, without its line end. A command that reads a file has none.
abbrev pub IsAnswer : Asked → List ℕ → Type 0
IsAnswer asked answer = (task_of asked).is_answer answer

-- The writer's known bytes grew by one line, an answer that meets the condition.
abbrev pub AppendsLine : (List ℕ → Type 0) → Option (List ℕ) → Option (List ℕ) → Type 0
AppendsLine is old new = (answer : List ℕ) × is answer × Appends old new (answer ++ codes "\n")

-- They grew by a first part of such a line.
abbrev pub AppendsPartOfLine : (List ℕ → Type 0) → Option (List ℕ) → Option (List ℕ) → Type 0
AppendsPartOfLine is old new = (answer : List ℕ) × is answer × AppendsPart old new (answer ++ codes "\n")

-- What is printed takes memory, or is found by what takes memory.
abbrev pub TakesMemory : Asked → Type 0
TakesMemory asked = (task_of asked).takes_memory

-- All later changes of a domain that gives a year are asked for; such a domain need not repeat.
abbrev pub AsksPastYears : Asked → Type 0
AsksPastYears asked = (task_of asked).asks_past_years
