-- What a run that translated a file of tags warns of.
use Rattle.std.specs.Prelude.{ℕ, List, [], Option, Result, Ok, Err, ⊤}
use Rattle.gtd_hours_options.specs.Readings.{HowRead}
use Rattle.gtd_conditional_means.specs.Table.{IsTable}
use Rattle.gtd_conditional_means.specs.declared.meaning.MeansRow.{MeansRow}
use Rattle.gtd_conditional_elements.specs.File.{AreOfFile}
use Rattle.gtd_conditional_elements.specs.Warnings.{AreWarnings}
use Rattle.gtd_conditional_elements.specs.declared.found.ElementRow.{ElementRow}
use Rattle.gtd_conditional_file.specs.Run.{IfBoth, TwoPaths}
use Rattle.gtd_conditional_file.specs.declared.converted.Converted.{Converted}
use Rattle.gtd_conditional_file.specs.declared.unconverted.Unconverted.{Unconverted}

-- The bytes are a table of means, and by it a file of tags without a fault; the text is the warnings of its tags.
pub record AreWarningsOf (how : HowRead) (path means tags text : List ℕ) : Type 0 where
  pub table : List MeansRow
  pub rows : List ElementRow
  pub read : IsTable means (Ok table)
  pub file : AreOfFile how table tags rows []
  pub lines : AreWarnings path tags file.sound text

-- what the answer warns of
abbrev pub IsWarned : HowRead → TwoPaths → Option (List ℕ) → Option (List ℕ) → Result Converted Unconverted → Type 0
IsWarned how paths table file (Ok done) =
    IfBoth table file (λ means tags. AreWarningsOf how paths.tags means tags done.warnings.items)
IsWarned how paths table file (Err why) = ⊤
