-- What a command line asks for, and what a plan carries out.
use Rattle.std.specs.Prelude.{List, Option, Result, Ok, Err, string_bytes}
use Rattle.gtd_core.specs.Parts.{domain_tree}
use Rattle.gtd_core.specs.Whole.{to_day}
use Rattle.gtd_tool.specs.Asked.{Asked, Check, Canon, At, Next, Ever, Schedule, Year, Migrate, Text}
use Rattle.gtd_tool.specs.CommandLines.{reading_in}
use Rattle.gtd_tool.specs.Readings.{Gives, Reading}
use Rattle.gtd_tool.specs.Refusals.{IsStoppedBy}
use Rattle.gtd_tool.specs.declared.plans.Plan.{Plan}
use Rattle.gtd_tool.specs.declared.plans.Plan.TheVariants as plan
use Rattle.gtd_tool.specs.declared.refusal.Refusal.{Refusal}

-- What a plan carries out.
abbrev pub asked_by : Plan → Asked
asked_by (plan.Check domain) = Check (domain_tree domain)
asked_by (plan.Canon domain) = Canon (domain_tree domain)
asked_by (plan.At domain moment) = At (domain_tree domain) moment.second
asked_by (plan.Next domain moment) = Next (domain_tree domain) moment.second (to_day moment.horizon)
asked_by (plan.Ever domain moment) = Ever (domain_tree domain) moment.second
asked_by (plan.Schedule file horizon vehicle) = Schedule (string_bytes file) horizon vehicle
asked_by (plan.Year file element direction vehicle year) = Year (string_bytes file) element direction vehicle year
asked_by (plan.Migrate file) = Migrate (string_bytes file)

-- The reading is carried out by this plan, or stopped by this refusal.
abbrev pub IsReadTo : Option Reading → Result Plan Refusal → Type 0
IsReadTo reading (Ok plan) = Gives reading (asked_by plan)
IsReadTo reading (Err r) = IsStoppedBy reading r

-- The command line asks for this.
abbrev pub AsksFor : List Text → Asked → Type 0
AsksFor words asked = Gives (reading_in words) asked
