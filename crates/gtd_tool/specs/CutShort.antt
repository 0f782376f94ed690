-- Why a run stops, and what was written by then.
use Rattle.std.specs.Prelude.{ℕ, List, Option}
use Rattle.gtd_tool.specs.Asked.{Asked}
use Rattle.gtd_tool.specs.Printed.{AppendsPartOfLine, AsksPastYears, IsAnswer, TakesMemory}
use Rattle.gtd_tool.specs.declared.refusal.Refusal.{Refusal}
use Rattle.gtd_tool.specs.declared.refusal.Refusal.TheVariants as refusal

-- For a command that reads no file: a write fails after a first part of the line; or, before anything is written, memory
-- is refused or the domain gives a year.
abbrev pub IsCutShort : Asked → Option (List ℕ) → Option (List ℕ) → Type 0 → Refusal → Type 0
IsCutShort asked old new unwritten refusal.Write = AppendsPartOfLine (IsAnswer asked) old new
IsCutShort asked old new unwritten refusal.Memory = unwritten × TakesMemory asked
IsCutShort asked old new unwritten refusal.HasYear = unwritten × AsksPastYears asked
IsCutShort asked old new unwritten r = ⊥
