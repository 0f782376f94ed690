-- The rules of a text, one after another.
use Rattle.std.proofs.Common.{◌≡◌, refl, sym, subst, inl, inr, ℕ, ℤ, List, [], ◌∷◌, ◌++◌, append_assoc, length, arith}
use Rattle.std.proofs.lemmas.List.{append-nil}
use Rattle.gtd_hours.specs.declared.hours.Rule.{Rule}
use Rattle.gtd_hours.specs.declared.hours.Selector.{Selector}
use Rattle.gtd_hours_days.specs.declared.listed.Listed.{Listed}
use Rattle.gtd_hours_holiday_rules.specs.declared.rules.HolidayRule.{HolidayRule}
use Rattle.gtd_hours_known.specs.Rules.{AreAllSaid, AreGivenDays, AreHolidayRules, AreWithHolidays, HasHolidays}
use Rattle.gtd_hours_known.specs.Rules.{IsHolidayRule, IsHolidayUncovered, IsRuleStop, IsRulesStop}
use Rattle.gtd_hours_known.specs.declared.known.Known.{Known}
use Rattle.gtd_hours_known.specs.declared.rules.RulesStop.{RulesStop}
use Rattle.gtd_hours_known.specs.declared.rules.RulesStop.TheVariants as stop

-- one rule more has the holidays
pub with_more : (from : HolidayRule) (days : List Selector) (plain made : List Rule) (p m : Rule)
    → AreWithHolidays from days plain made → HasHolidays from days p m
    → AreWithHolidays from days (plain ++ p ∷ []) (made ++ m ∷ [])
with_more from days [] [] p m are has = (has, tt)
with_more from days (q ∷ plain) (r ∷ made) p m are has = (are.0, with_more from days plain made p m are.1 has)
with_more from days [] (r ∷ made) p m are has = absurd are
with_more from days (q ∷ plain) [] p m are has = absurd are

-- the rules so far, with those of the rules of the text that are left, are all
abbrev pub AreJoined : Known → List HolidayRule → List HolidayRule → List Rule → Type 0
AreJoined known all rest made =
    (others : List Rule) → AreHolidayRules known rest others → AreHolidayRules known all (made ++ others)

pub joined_more : (known : Known) (all : List HolidayRule) (rule : HolidayRule) (more : List HolidayRule)
    (made own : List Rule) → AreJoined known all (rule ∷ more) made → IsHolidayRule known rule own
    → AreJoined known all more (made ++ own)
joined_more known all rule more made own joins is others are =
    subst (AreHolidayRules known all) (sym (append_assoc made own others)) (joins (own ++ others) (own, others, is, are, refl))

pub all_joined : (known : Known) (all rest : List HolidayRule) (made : List Rule) → AreJoined known all rest made
    → rest ≡ [] → AreHolidayRules known all made
all_joined known all rest made joins none =
    subst (AreHolidayRules known all) (append-nil made)
    (joins [] (subst (λ (rs : List HolidayRule). AreHolidayRules known rs []) (sym none) refl))

-- what is uncovered in the rules that are left is so in all
abbrev pub AreCovered : Known → List HolidayRule → List HolidayRule → Type 0
AreCovered known all rest =
    (place : ℕ) (day : ℤ) → IsHolidayUncovered known rest place day → IsHolidayUncovered known all place day

all_said : (known : Known) (holidays : List Listed) (days : List Selector) → AreGivenDays known holidays days
    → AreAllSaid known holidays
all_said known [] days are = tt
all_said known (h ∷ holidays) days are = (are.0, are.1, are.2, are.3.0)

pub covered_more : (known : Known) (all : List HolidayRule) (rule : HolidayRule) (more : List HolidayRule)
    (own : List Rule) → AreCovered known all (rule ∷ more) → IsHolidayRule known rule own → AreCovered known all more
covered_more known all rule more own covered is place day un =
    covered place day (inr (all_said known rule.holidays.items is.days is.listed, un))

pub rule_stop : (known : Known) (all : List HolidayRule) (rule : HolidayRule) (more : List HolidayRule) (why : RulesStop)
    → AreCovered known all (rule ∷ more) → IsRuleStop known rule why → IsRulesStop known all why
rule_stop known all rule more (stop.Uncovered place day) covered is = covered place day (inl is)
rule_stop known all rule more stop.NoMemory covered is = tt

pub no_memory : (known : Known) (all : List HolidayRule) (why : RulesStop) → why ≡ stop.NoMemory
    → IsRulesStop known all why
no_memory known all why e = rw e tt

-- a list without a length is empty
pub no_rules : (rules : List HolidayRule) → length rules ≡ 0 → rules ≡ []
no_rules [] e = refl
no_rules (x ∷ xs) e = absurd (omega (arith, e))
