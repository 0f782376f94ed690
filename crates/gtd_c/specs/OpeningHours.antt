-- The domain of a text of opening hours, and its fault as numbers.
use Rattle.std.specs.Prelude.{◌≡◌, ◌≢◌, ◌↔◌, ◌≤◌, ◌<◌, ◌⊎◌, ℕ, ℤ, List, Option, Some, codes}
use Rattle.gtd_core.specs.Limits.{most_basic_domains}
use Rattle.gtd_core.specs.declared.domain.Domain.{Domain}
use Rattle.gtd_eval.specs.Membership.{InDomain}
use Rattle.gtd_hours.specs.Cost.{hours_cost}
use Rattle.gtd_hours.specs.Opening.{IsOpen}
use Rattle.gtd_hours.specs.declared.hours.Hours.{Hours}
use Rattle.gtd_hours_grammar.specs.Faults.{IsFirstFault}
use Rattle.gtd_hours_grammar.specs.declared.fault.FaultKind.{FaultKind}
use Rattle.gtd_hours_grammar.specs.declared.fault.FaultKind.TheVariants as kind
use Rattle.gtd_hours_grammar.specs.declared.fault.HoursFault.{HoursFault}
use Rattle.gtd_hours_text.specs.Standing.{StandsFor}
use Rattle.gtd_handles.specs.Writing.{IsWritten}
use Rattle.gtd_handles.specs.declared.handle.Thing.{Thing}
use Rattle.gtd_handles.specs.declared.handle.Thing.TheVariants as thing
use Rattle.gtd_c.specs.declared.hours_faults.HoursFaultNumbers.{HoursFaultNumbers}

-- The domain has exactly the seconds at which the hours are open that the text stands for.
pub record HasHoursOf (text : List ℕ) (found : Domain) : Type 0 where
  pub hours : Hours
  pub stands : StandsFor text hours
  pub same : (s : ℤ) → InDomain found s ↔ IsOpen hours s

-- the handle stands for such a domain
abbrev pub IsHoursDomain : List ℕ → Option Thing → Type 0
IsHoursDomain text (Some (thing.Domain found)) = HasHoursOf text found
IsHoursDomain text _ = ⊥

-- the number of a kind of fault of a text of opening hours
abbrev pub hours_fault_number : FaultKind → ℕ
hours_fault_number kind.BadToken = 1
hours_fault_number kind.Unsupported = 2
hours_fault_number kind.Range = 3
hours_fault_number kind.Unexpected = 4
hours_fault_number kind.Incomplete = 5
hours_fault_number kind.Years = 7

-- the number that says that the domain would have too many basic domains
abbrev pub too_many_number : ℕ
too_many_number = 6

-- the numbers of the fault of a text: its kind, and the bytes before it
abbrev pub hours_fault_numbers : HoursFault → HoursFaultNumbers
hours_fault_numbers found = record { kind = hours_fault_number found.kind; place = found.place }

-- the numbers of hours whose domain would have too many basic domains
abbrev pub too_many_numbers : HoursFaultNumbers
too_many_numbers = record { kind = too_many_number; place = 0 }

-- the numbers are those of the first fault of the text
pub record IsFirstHoursFault (text : List ℕ) (numbers : HoursFaultNumbers) : Type 0 where
  pub found : HoursFault
  pub is_fault : IsFirstFault text found
  pub numbered : numbers ≡ hours_fault_numbers found

-- the text stands for hours whose domain would have too many basic domains, and the numbers say so
pub record AreTooMany (text : List ℕ) (numbers : HoursFaultNumbers) : Type 0 where
  pub hours : Hours
  pub stands : StandsFor text hours
  pub many : most_basic_domains < hours_cost hours
  pub numbered : numbers ≡ too_many_numbers

-- why the text has no domain
abbrev pub IsHoursFault : List ℕ → HoursFaultNumbers → Type 0
IsHoursFault text numbers = IsFirstHoursFault text numbers ⊎ AreTooMany text numbers

-- the name of a kind of fault of a text of opening hours
abbrev pub hours_fault_name : FaultKind → List ℕ
hours_fault_name kind.BadToken = codes "BadToken"
hours_fault_name kind.Unsupported = codes "Unsupported"
hours_fault_name kind.Range = codes "Range"
hours_fault_name kind.Unexpected = codes "Unexpected"
hours_fault_name kind.Incomplete = codes "Incomplete"
hours_fault_name kind.Years = codes "Years"

-- the numbers of the kinds of faults of a text of opening hours
abbrev pub IsHoursTextFaultKind : ℕ → Type 0
IsHoursTextFaultKind kind = (1 ≤ kind) × (kind ≤ 7) × (kind ≢ too_many_number)

-- these, and the one of too many basic domains
abbrev pub IsHoursFaultKind : ℕ → Type 0
IsHoursFaultKind kind = (1 ≤ kind) × (kind ≤ 7)

-- the name of the fault of a text of opening hours with this number
pub record IsHoursFaultName (kind answer : ℕ) (old new : List ℕ) (count : ℕ) : Type 0 where
  pub fault : FaultKind
  pub numbered : hours_fault_number fault ≡ kind
  pub written : IsWritten (hours_fault_name fault) answer old new count
