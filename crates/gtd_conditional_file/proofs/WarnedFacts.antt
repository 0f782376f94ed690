-- What a run warned of, by its answer.
use Rattle.std.proofs.Common.{◌≡◌, subst, sym, ℕ, List, [], Option, Some, None}
use Rattle.std.specs.Prelude.{IfOk, IfSome, Result, Ok, Err}
use Rattle.gtd_hours_options.specs.Readings.{HowRead}
use Rattle.gtd_conditional_elements.specs.File.{AreOfFile}
use Rattle.gtd_conditional_elements.specs.Warnings.{AreWarnings}
use Rattle.gtd_conditional_elements.specs.declared.fault.ConditionsFault.{ConditionsFault}
use Rattle.gtd_conditional_elements.specs.declared.found.ElementRow.{ElementRow}
use Rattle.gtd_conditional_means.specs.Table.{IsTable}
use Rattle.gtd_conditional_means.specs.declared.meaning.MeansRow.{MeansRow}
use Rattle.gtd_conditional_file.specs.Run.{TwoPaths}
use Rattle.gtd_conditional_file.specs.Warned.{AreWarningsOf, IsWarned}
use Rattle.gtd_conditional_file.specs.declared.converted.Converted.{Converted}
use Rattle.gtd_conditional_file.specs.declared.unconverted.Unconverted.{Unconverted}

-- what a file with these faults stands for, and the warnings of its tags
abbrev pub WarnsOf : HowRead → List MeansRow → List ℕ → List ℕ → List ElementRow → List ℕ → List ConditionsFault → Type 0
WarnsOf how table path bytes rows text faults =
    (file : AreOfFile how table bytes rows faults) × AreWarnings path bytes file.sound text

-- a file without a fault has these warnings
pub warnings_of : (how : HowRead) (table : List MeansRow) (path means bytes : List ℕ) (rows : List ElementRow)
    (text : List ℕ) (faults : List ConditionsFault) → faults ≡ [] → IsTable means (Ok table)
    → WarnsOf how table path bytes rows text faults → AreWarningsOf how path means bytes text
warnings_of how table path means bytes rows text faults none read warns =
    let sound = subst (WarnsOf how table path bytes rows text) none warns in record {
      table = table;
      rows = rows;
      read = read;
      file = sound.0;
      lines = sound.1;
    }

-- an answer with these warnings tells them
pub warned_with : (how : HowRead) (paths : TwoPaths) (table bytes text : List ℕ) (r : Result Converted Unconverted)
    → IfOk r (λ done. done.warnings.items ≡ text) → AreWarningsOf how paths.tags table bytes text
    → IsWarned how paths (Some table) (Some bytes) r
warned_with how paths table bytes text (Ok done) same are =
    subst (λ (t : List ℕ). AreWarningsOf how paths.tags table bytes t) (sym same) are
warned_with how paths table bytes text (Err why) same are = tt

-- if the input of the tags tells its bytes, these were read
pub warned_told : (how : HowRead) (paths : TwoPaths) (table bytes : List ℕ) (file : Option (List ℕ))
    (r : Result Converted Unconverted) → IfSome file (λ all. bytes ≡ all) → IsWarned how paths (Some table) (Some bytes) r
    → IsWarned how paths (Some table) file r
warned_told how paths table bytes (Some all) r same are =
    subst (λ (b : List ℕ). IsWarned how paths (Some table) (Some b) r) same are
warned_told how paths table bytes None (Ok done) same are = tt
warned_told how paths table bytes None (Err why) same are = tt
