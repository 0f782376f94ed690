-- What a text of opening hours stands for.
use Rattle.std.specs.Prelude.{◌≡◌, ◌↔◌, ◌<◌, ◌≤◌, ℤ}
use Rattle.gtd_core.specs.Limits.{most_basic_domains}
use Rattle.gtd_core.specs.declared.domain.Domain.{Domain}
use Rattle.gtd_hours_domain.specs.Membership.{InDomain}
use Rattle.gtd_hours.specs.Cost.{counted, hours_cost}
use Rattle.gtd_hours.specs.Opening.{IsOpen}
use Rattle.gtd_hours.specs.declared.hours.Hours.{Hours}
use Rattle.gtd_hours_grammar.specs.Faults.{IsFirstFault}
use Rattle.gtd_hours_grammar.specs.declared.fault.HoursFault.{HoursFault}
use Rattle.gtd_hours_known.specs.declared.fault.KnownFault.TheVariants as known
use Rattle.gtd_hours_options.specs.declared.fault.OptionsFault.{OptionsFault}
use Rattle.gtd_hours_options.specs.declared.fault.OptionsFault.TheVariants as wrong
use Rattle.gtd_hours_text.specs.Standing.{StandsFor}
use Rattle.gtdesk_words.specs.Text.{Text}
use Rattle.gtdesk_words.specs.declared.refusal.NoDomain.{NoDomain}
use Rattle.gtdesk_words.specs.declared.refusal.NoDomain.TheVariants as none

-- The text stands for hours that fit into a domain.
abbrev pub HasDomain : Text → Type 0
HasDomain text = (hours : Hours) × StandsFor text hours × (hours_cost hours ≤ most_basic_domains)

-- The hours fit into a domain, and this one contains exactly the seconds at which they are open.
pub record IsTranslation (hours : Hours) (domain : Domain) : Type 0 where
  pub fits : hours_cost hours ≤ most_basic_domains
  pub same : (s : ℤ) → InDomain domain s ↔ IsOpen hours s

-- The text stands for such hours, and the domain contains exactly the seconds at which they are open.
abbrev pub IsHoursDomain : Text → Domain → Type 0
IsHoursDomain text domain = (hours : Hours) × StandsFor text hours × IsTranslation hours domain

-- a fault of plain hours, as one of hours that are read with options
abbrev pub plain_fault : HoursFault → OptionsFault
plain_fault first = wrong.Known (known.Hours first)

-- the refusal that says how many basic domains the hours take
abbrev pub too_many : Hours → NoDomain
too_many hours = none.TooMany (counted (hours_cost hours))

-- Why a text has no domain: its first fault; or it stands for hours whose domain has too many basic domains.
abbrev pub IsNoDomainOf : Text → NoDomain → Type 0
IsNoDomainOf text (none.Fault why) = (first : HoursFault) × IsFirstFault text first × (why ≡ plain_fault first)
IsNoDomainOf text (none.TooMany needed) =
    (hours : Hours) × StandsFor text hours × (most_basic_domains < hours_cost hours) × (needed ≡ counted (hours_cost hours))
