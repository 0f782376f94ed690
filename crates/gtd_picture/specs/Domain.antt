-- The picture of the seconds that a time domain contains.
use Rattle.std.specs.Prelude.{ℕ, List, Option, Result, Ok, Err, codes}
use Rattle.std.specs.Io.KnownBytes.{Keeps}
use Rattle.gtd_core.specs.declared.domain.Domain.{Domain}
use Rattle.gtd_eval.specs.Membership.{InDomain}
use Rattle.gtd_report.specs.Putting.{text_of}
use Rattle.gtd_report.specs.Run.{PutsWhole, TookFirst}
use Rattle.gtd_report.specs.declared.fault.RunFault.{RunFault}
use Rattle.gtd_report.specs.declared.fault.RunFault.TheVariants as fault
use Rattle.gtd_picture.specs.Crowded.{IsSeen}
use Rattle.gtd_picture.specs.Picture.{IsPicture}

-- The picture of the seconds of a year that the domain contains.
abbrev pub IsDomainPicture : Domain → List ℕ → ℕ → List (List ℕ) → Type 0
IsDomainPicture domain title year lines =
    IsPicture (InDomain domain) title (codes "in the domain") (codes "not in the domain") year lines

-- The same, or no line if it is crowded.
abbrev pub IsDomainSeen : Domain → List ℕ → ℕ → List (List ℕ) → Type 0
IsDomainSeen domain title year = IsSeen (InDomain domain) year (IsDomainPicture domain title year)

-- What the output took of a text of this kind, by the answer.
abbrev pub HasPut : (List (List ℕ) → Type 0) → Option (List ℕ) → Option (List ℕ) → Result ℕ RunFault → Type 0
HasPut IsText old new (Ok count) = PutsWhole IsText old new (Ok count)
HasPut IsText old new (Err (fault.WriteFault n)) = (lines : List (List ℕ)) → IsText lines → TookFirst old new n (text_of lines)
HasPut IsText old new (Err (fault.NoMemory n)) = (lines : List (List ℕ)) → IsText lines → TookFirst old new n (text_of lines)
HasPut IsText old new (Err fault.YearRange) = Keeps old new
HasPut IsText old new (Err other) = ⊥
