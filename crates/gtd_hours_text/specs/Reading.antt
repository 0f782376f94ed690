-- What is wrong with a text whose hours cannot be read.
use Rattle.std.specs.Prelude.{List, ℕ}
use Rattle.gtd_hours_parts.specs.declared.piece.Piece.{Piece}
use Rattle.gtd_hours_grammar.specs.Faults.{IsFirstFault, IsHoursText}
use Rattle.gtd_hours_grammar.specs.declared.reading.Reading.{Reading}
use Rattle.gtd_hours_grammar.specs.Steps.{IsReading}
use Rattle.gtd_hours_text.specs.declared.builder.Building.{Building}
use Rattle.gtd_hours_text.specs.Drafts.{IsBuilding}
use Rattle.gtd_hours_text.specs.declared.reader.HoursTextFault.{HoursTextFault}
use Rattle.gtd_hours_text.specs.declared.reader.HoursTextFault.TheVariants as fault

-- the first fault, or want of memory for a text that has none
abbrev pub IsFaultOf : List ℕ → HoursTextFault → Type 0
IsFaultOf text (fault.Fault bad) = IsFirstFault text bad
IsFaultOf text fault.NoMemory = (p : List Piece) × IsHoursText text p

-- The pieces that have been read are those that have been built.
pub record HasBuilt (text : List ℕ) (reading : Reading) (so_far : Building) : Type 0 where
  pub given : List Piece
  pub read : IsReading text reading given
  pub built : IsBuilding given so_far
