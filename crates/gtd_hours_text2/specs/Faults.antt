-- Why parts could not be read: memory was refused, or a token is out of range.
use Rattle.std.specs.Prelude.{◌≡◌, ℕ, Result, Ok, Err}
use Rattle.gtd_hours_text2.specs.declared.brackets.PartError.{PartError}
use Rattle.gtd_hours_text2.specs.declared.brackets.PartError.TheVariants.{NoMemory, Range}

abbrev pub IsPartFault : {A : Type 0} → PartError → Result A ℕ → Type 0
IsPartFault NoMemory read = Unit {0}
IsPartFault (Range offset) read = read ≡ Err offset
