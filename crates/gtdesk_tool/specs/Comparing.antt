-- What is printed of how the seconds of two domains compare.
use Rattle.std.specs.Prelude.{◌≡◌, ◌⊎◌, ◌++◌, ℕ, ℤ, Bool, List, Option, Result, Ok, Err, IfErr, IfOk, IsTrue, codes}
use Rattle.std.specs.Io.KnownBytes.{Appends, Keeps}
use Rattle.gtd_calendar.specs.Stamp.{stamp_text}
use Rattle.gtd_core.specs.Seconds.{IsHorizonSecond}
use Rattle.gtd_core.specs.declared.domain.Domain.{Domain}
use Rattle.gtd_difference.specs.Difference.{IsComparison}
use Rattle.gtd_difference.specs.declared.comparison.Apart.{Apart as Difference}
use Rattle.gtd_difference.specs.declared.comparison.Comparison.{Comparison}
use Rattle.gtd_difference.specs.declared.comparison.Comparison.TheVariants.{Same, SameUntil2700, Apart}
use Rattle.gtd_difference.specs.declared.comparison.Side.{Side}
use Rattle.gtd_difference.specs.declared.comparison.Side.TheVariants.{First, Second}
use Rattle.gtd_faults.specs.Run.{TookSome}
use Rattle.gtdesk_tool.specs.declared.ending.Ending.{Ending}
use Rattle.gtdesk_tool.specs.declared.ending.Ending.TheVariants as ending
use Rattle.gtdesk_tool.specs.declared.refusal.RunRefusal.{RunRefusal}
use Rattle.gtdesk_tool.specs.declared.refusal.RunRefusal.TheVariants as refusal

-- the word for the domain that has a second alone
abbrev pub side_word : Side → List ℕ
side_word First = codes "first"
side_word Second = codes "second"

abbrev pub apart_line : Difference → List ℕ
apart_line apart = stamp_text apart.second.0 ++ codes " " ++ side_word apart.side ++ codes "\n"

-- `same`, `same until 2700`, or the first second that one of the domains has alone and which, with a line end
abbrev pub comparison_line : Comparison → List ℕ
comparison_line Same = codes "same\n"
comparison_line SameUntil2700 = codes "same until 2700\n"
comparison_line (Apart apart) = apart_line apart

-- how the command ends
abbrev pub comparison_ending : Comparison → Ending
comparison_ending Same = ending.Done
comparison_ending SameUntil2700 = ending.Done
comparison_ending (Apart apart) = ending.Differ

-- the second that is told has a text
abbrev pub IsShown : Comparison → Type 0
IsShown Same = Unit {0}
IsShown SameUntil2700 = Unit {0}
IsShown (Apart apart) = IsHorizonSecond apart.second.0

-- the same answer with another ending
abbrev pub with_ending : Ending → Result Ending RunRefusal → Result Ending RunRefusal
with_ending ending (Ok other) = Ok ending
with_ending ending (Err why) = Err why

-- The line of a comparison was put whole, the output was ended, and the command ends as it says; or the output failed, and had
-- taken a first part of the line, which may be none or all of it; or memory was refused, and nothing was put.
pub record PutsComparison (found : Comparison) (old new : Option (List ℕ)) (ended : Bool) (result : Result Ending RunRefusal)
    : Type 0 where
  pub whole : IfOk result (λ e. (e ≡ comparison_ending found) × Appends old new (comparison_line found) × IsTrue ended)
  pub refused : IfErr result (λ r. ((r ≡ refusal.Write) × TookSome old new (comparison_line found))
      ⊎ ((r ≡ refusal.Memory) × Keeps old new))

-- The same of the line that tells how the domains compare from the second on. If memory was refused, that may not be known.
pub record HasCompared (first second : Domain) (from : ℤ) (old new : Option (List ℕ)) (ended : Bool)
    (result : Result Ending RunRefusal) : Type 0 where
  pub whole : IfOk result (λ e. (found : Comparison) × IsComparison first second from found × (e ≡ comparison_ending found)
      × Appends old new (comparison_line found) × IsTrue ended)
  pub refused : IfErr result (λ r. ((r ≡ refusal.Write)
      × ((found : Comparison) × IsComparison first second from found × TookSome old new (comparison_line found)))
      ⊎ ((r ≡ refusal.Memory) × Keeps old new))
