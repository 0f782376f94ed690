-- What is printed for a text of opening hours that is read strictly or loosely, and what is told of it.
use Rattle.std.specs.Prelude.{◌≡◌, ◌↔◌, ◌⊎◌, ◌++◌, ◌<◌, ℕ, ℤ, Bool, true, false, List, Option, Result, IfErr, IfOk, IsTrue}
use Rattle.std.specs.Prelude.{codes}
use Rattle.std.specs.Io.KnownBytes.{Appends, Keeps}
use Rattle.gtd_core.specs.Limits.{most_basic_domains}
use Rattle.gtd_core.specs.Parts.{domain_tree}
use Rattle.gtd_core.specs.declared.domain.Domain.{Domain}
use Rattle.gtd_faults.specs.Run.{TookSome}
use Rattle.gtd_hours.specs.Cost.{hours_cost}
use Rattle.gtd_hours.specs.Opening.{IsOpen}
use Rattle.gtd_hours.specs.declared.hours.Hours.{Hours}
use Rattle.gtd_hours_loose.specs.declared.manner.Manner.{Manner}
use Rattle.gtd_hours_loose.specs.declared.manner.Manner.TheVariants as manner
use Rattle.gtd_hours_loose_tokens.specs.declared.token.DayNames.{DayNames}
use Rattle.gtd_hours_search.specs.Membership.{InDomain}
use Rattle.gtd_text.specs.Canonical.{canonical}
use Rattle.gtdesk_plans.specs.Arguments.{Text}
use Rattle.gtdesk_tool.specs.Telling.{IsUntold, Telling, ToldIfSome}
use Rattle.gtdesk_tool.specs.declared.ending.Ending.{Ending}
use Rattle.gtdesk_tool.specs.declared.ending.Ending.TheVariants as ending
use Rattle.gtdesk_tool.specs.declared.refusal.RunRefusal.{RunRefusal}
use Rattle.gtdesk_tool.specs.declared.refusal.RunRefusal.TheVariants as refusal
use Rattle.gtdesk_words.specs.HoursWords.{too_many}

-- A text that is to be written strictly is read as it is written; another one also where it is written loosely, with these names
-- of weekdays.
abbrev pub manner_of : Bool → DayNames → Manner
manner_of true names = manner.Strict
manner_of false names = manner.Loose names

-- The line is the canonical text of some domain, with a line end, and this has exactly the seconds at which the hours are open.
pub record Translates (hours : Hours) (line : List ℕ) : Type 0 where
  pub domain : Domain
  pub same : (s : ℤ) → InDomain domain s ↔ IsOpen hours s
  pub written : line ≡ canonical (domain_tree domain) ++ codes "\n"

-- The refusal is of memory, or the hours take too many basic domains, which are counted.
abbrev pub IsUntranslated : Hours → RunRefusal → Type 0
IsUntranslated hours r =
    (r ≡ refusal.Memory) ⊎ ((r ≡ refusal.NoDomain (too_many hours)) × (most_basic_domains < hours_cost hours))

-- The line of the domain was put whole, the output was ended, and the warnings were told, if there are any. If the output failed,
-- it had taken a first part of the line, and nothing was told.
pub record PutLines (domain warnings : List ℕ) (old new : Option (List ℕ)) (ended : Bool) (errors : Telling)
    (result : Result Ending RunRefusal) : Type 0 where
  pub whole : IfOk result (λ e. (e ≡ ending.Done) × Appends old new domain × IsTrue ended × ToldIfSome errors warnings)
  pub refused : IfErr result (λ r. (r ≡ refusal.Write) × TookSome old new domain × IsUntold errors)

-- The same of some lines of this kind. Any other refusal has its cause; then nothing was put or told.
pub record RanLines (IsOfText : List ℕ → List ℕ → Type 0) (IsCause : RunRefusal → Type 0) (old new : Option (List ℕ))
    (ended : Bool) (errors : Telling) (result : Result Ending RunRefusal) : Type 0 where
  pub whole : IfOk result (λ e. (e ≡ ending.Done) × ((domain : List ℕ) × (warnings : List ℕ)
      × IsOfText domain warnings × Appends old new domain × ToldIfSome errors warnings) × IsTrue ended)
  pub refused : IfErr result (λ r. IsUntold errors × (((r ≡ refusal.Write) × ((domain : List ℕ) × (warnings : List ℕ)
      × IsOfText domain warnings × TookSome old new domain)) ⊎ (IsCause r × Keeps old new)))
