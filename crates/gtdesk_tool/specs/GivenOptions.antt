-- The options with which the texts of a plan's files are read.
use Rattle.std.specs.Prelude.{◌≡◌, ℕ, List, Option, Some, None, Result, Ok, Err, IfSome, option_map, string_bytes}
use Rattle.gtd_hours_holidays.specs.declared.holidays.Holidays.{Holidays}
use Rattle.gtd_hours_options.specs.declared.options.Options.{Options}
use Rattle.gtdesk_plans.specs.declared.options.HoursOptions.{HoursOptions}
use Rattle.gtdesk_plans.specs.declared.plans.OnePlan.{OnePlan}
use Rattle.gtdesk_plans.specs.declared.plans.OnePlan.TheVariants as plan
use Rattle.gtdesk_tool.specs.declared.plan_options.PlanOptions.{PlanOptions}
use Rattle.gtdesk_tool.specs.declared.plan_options.ReadTable.{ReadTable}
use Rattle.gtdesk_tool.specs.declared.refusal.RunRefusal.{RunRefusal}

-- a table that was read: what it says, and its path
abbrev pub holidays_of : ReadTable → Holidays
holidays_of read = read.table

abbrev pub path_of : ReadTable → List ℕ
path_of read = read.path.now

-- what the table says that was answered, if one was
abbrev pub holidays_in : Result (Option ReadTable) RunRefusal → Result (Option Holidays) RunRefusal
holidays_in (Ok (Some read)) = Ok (Some read.table)
holidays_in (Ok None) = Ok None
holidays_in (Err why) = Err why

-- the options, and the path of the table that was read for them, if one was
abbrev pub options_of : PlanOptions → Options
options_of read = read.options

abbrev pub table_of : PlanOptions → Option (List ℕ)
table_of read = option_map (λ path. path.now) read.path

-- The options are those that are given: with these years and clock times, and with a table that was read from the path that is
-- named; or with none, if none is.
pub record AreOptionsOf (given : HoursOptions) (read : PlanOptions) : Type 0 where
  pub table : table_of read ≡ option_map string_bytes given.holidays
  pub years : read.options.known.years ≡ given.years
  pub clocks : read.options.clocks ≡ given.clocks

-- what a plan gives for texts of opening hours, if its files have such
abbrev pub given_by : OnePlan → Option HoursOptions
given_by (plan.Records p) = Some p.options
given_by other = None

-- The options are those of the plan, if its files have such texts.
abbrev pub AreOptionsIn : OnePlan → PlanOptions → Type 0
AreOptionsIn p read = IfSome (given_by p) (λ given. AreOptionsOf given read)
