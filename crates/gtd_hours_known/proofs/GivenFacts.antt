-- A rule with holidays for which all is given has a table and years, and its holidays have days.
use Rattle.std.proofs.Common.{◌≡◌, refl, subst, ℕ, List, [], ◌∷◌, Bool, true, false, length, Option, Some, None, arith}
use Rattle.std.proofs.Common.{Result, Ok, Err, Vec, Global, zero, suc}
use Rattle.std.proofs.lemmas.Bool.{false≢true}
use Rattle.std.specs.Prelude.{IfErr, IfOk, IsSome, ◌==◌, if◌then◌else◌}
use Rattle.gtd_hours_days.specs.declared.listed.EasterDays.{EasterDays}
use Rattle.gtd_hours_days.specs.declared.listed.Listed.{Listed}
use Rattle.gtd_hours_holidays.specs.declared.holidays.Holidays.{Holidays}
use Rattle.gtd_hours_holidays.specs.declared.known_years.KnownYears.{KnownYears}
use Rattle.gtd_hours_holiday_rules.specs.declared.rules.HolidayRule.{HolidayRule}
use Rattle.gtd_hours_known.specs.Given.{AreAllGiven, has_table, no_easter_years, no_last_year, no_years, none_given, not_given}
use Rattle.gtd_hours_known.specs.Given.{or_later, rule_lacks}
use Rattle.gtd_hours_known.specs.Easter.{AreEasterDays, listed_of}
use Rattle.gtd_hours_known.specs.HolidayDays.{AreDaysIn, AreDaysOf}
use Rattle.gtd_hours_known.specs.Needs.{first_need, need_of, unknown_fault}
use Rattle.gtd_hours_known.specs.Rules.{AreGivenDays, IsDaysStop, IsGiven, IsRuleStop, first_place}
use Rattle.gtd_hours_known.specs.declared.fault.KnownFault.{KnownFault}
use Rattle.gtd_hours_known.specs.declared.fault.KnownFault.TheVariants as fault
use Rattle.gtd_hours_known.specs.declared.known.Known.{Known}
use Rattle.gtd_hours_known.specs.declared.rules.RulesStop.{RulesStop}
use Rattle.gtd_hours_known.specs.declared.rules.RulesStop.TheVariants as stop
use Rattle.gtd_hours.specs.declared.hours.Selector.{Selector}

pub none_of : (a b : Option KnownFault) → or_later a b ≡ None → (a ≡ None) × (b ≡ None)
none_of None b e = (refl, e)
none_of (Some bad) b e = absurd cc

-- there are a table and years
abbrev pub AreGiven : Option Holidays → Option KnownYears → Type 0
AreGiven table years = IsSome table × IsSome years

of_test : (b : Bool) (years : Option KnownYears) (place : ℕ)
    → (if b then no_years years place else Some (fault.Holidays place)) ≡ None → (b ≡ true) × (no_years years place ≡ None)
of_test true years place e = (refl, e)
of_test false years place e = absurd cc

of_years : (years : Option KnownYears) (place : ℕ) → no_years years place ≡ None → IsSome years
of_years None place e = absurd cc
of_years (Some years) place e = refl

of_table : (table : Option Holidays) (h : Listed) → has_table table h ≡ true → IsSome table
of_table None h e = absurd cc
of_table (Some table) h e = refl

of_holiday : (known : Known) (h : Listed) (place : ℕ) → not_given known h place ≡ None → AreGiven known.holidays known.years
of_holiday known h place e =
    let both = of_test (has_table known.holidays h) known.years place e in
    (of_table known.holidays h both.0, of_years known.years place both.1)

is_given : (known : Known) (holidays : List Listed) (places : List ℕ) → (length holidays ≡ 0 → ⊥)
    → none_given known holidays places ≡ None → AreGiven known.holidays known.years
is_given known [] places some none = absurd (some refl)
is_given known (h ∷ holidays) places some none =
    of_holiday known h (first_place places) (none_of (not_given known h (first_place places)) _ none).0

pub no_table : (known : Known) (holidays : List Listed) (places : List ℕ) → (length holidays ≡ 0 → ⊥)
    → none_given known holidays places ≡ None → known.holidays ≡ None → ⊥
no_table known holidays places some none e =
    let bad : false ≡ true = subst (λ (o : Option Holidays). IsSome o) e (is_given known holidays places some none).0 in
    absurd (false≢true bad)

pub no_years_given : (known : Known) (holidays : List Listed) (places : List ℕ) → (length holidays ≡ 0 → ⊥)
    → none_given known holidays places ≡ None → known.years ≡ None → ⊥
no_years_given known holidays places some none e =
    let bad : false ≡ true = subst (λ (o : Option KnownYears). IsSome o) e (is_given known holidays places some none).1 in
    absurd (false≢true bad)

-- what is given for a rule is so for its years without a last one
pub last_year_given : (known : Known) (rule : HolidayRule) → rule_lacks known rule ≡ None
    → no_last_year known.years rule.every_place ≡ None
last_year_given known rule e =
    (none_of (no_last_year known.years rule.every_place)
    (or_later (no_easter_years known.years rule.easter.items rule.easter_places.items)
    (none_given known rule.holidays.items rule.places.items)) e).0

-- and so for its days of Easter, and for its holidays
pub rule_given : (known : Known) (rule : HolidayRule) → rule_lacks known rule ≡ None
    → (no_easter_years known.years rule.easter.items rule.easter_places.items ≡ None)
    × (none_given known rule.holidays.items rule.places.items ≡ None)
rule_given known rule e =
    let more = none_of (no_last_year known.years rule.every_place)
    (or_later (no_easter_years known.years rule.easter.items rule.easter_places.items)
    (none_given known rule.holidays.items rule.places.items)) e in
    none_of (no_easter_years known.years rule.easter.items rule.easter_places.items)
    (none_given known rule.holidays.items rule.places.items) more.1

pub years_for_easter : (years : Option KnownYears) (easter : List EasterDays) (places : List ℕ) → (length easter ≡ 0 → ⊥)
    → no_easter_years years easter places ≡ None → years ≡ None → ⊥
years_for_easter years [] places some none e = some refl
years_for_easter years (h ∷ easter) places some none e =
    let bad : false ≡ true = subst (λ (o : Option KnownYears). IsSome o) e (of_years years (first_place places) none) in
    absurd (false≢true bad)

pub easter_given : (known : Known) (years : KnownYears) (easter : List EasterDays) (days : List Selector)
    → (length easter ≡ 0 → ⊥) → known.years ≡ Some years → AreDaysIn [] years (listed_of easter) days
    → AreEasterDays known easter days
easter_given known years [] days some given are = absurd (some refl)
easter_given known years (h ∷ easter) days some given are = (years, given, are)

pub found_easter : (known : Known) (years : KnownYears) (easter : List EasterDays) (read : Result (Vec Selector Global) RulesStop)
    → (length easter ≡ 0 → ⊥) → known.years ≡ Some years
    → IfOk read (λ days. AreDaysIn [] years (listed_of easter) days.items)
    → IfOk read (λ days. AreEasterDays known easter days.items)
found_easter known years easter (Ok days) some given are = easter_given known years easter days.items some given are
found_easter known years easter (Err why) some given are = tt

-- rules that need nothing have all that is given
pub all_given : (known : Known) (rules : List HolidayRule) → first_need known rules ≡ None → AreAllGiven known rules
all_given known [] e = tt
all_given known (rule ∷ rules) e =
    let both = none_of (need_of known rule rules) (first_need known rules) e in
    let own = none_of (rule_lacks known rule) (unknown_fault rule rules) both.0 in
    (own.0, all_given known rules both.1)

-- ---- the days of a rule's holidays

pub not_none : (n : ℕ) → false ≡ (n == 0) → n ≡ 0 → ⊥
not_none zero f e = false≢true f
not_none (suc n) f e = absurd (omega (arith, e))

days_given : (known : Known) (table : Holidays) (years : KnownYears) (holidays : List Listed) (days : List Selector)
    → (length holidays ≡ 0 → ⊥) → IsGiven known table years → AreDaysOf table years holidays days
    → AreGivenDays known holidays days
days_given known table years [] days some given are = absurd (some refl)
days_given known table years (h ∷ holidays) days some given are = (table, years, given, are)

pub found_days : (known : Known) (table : Holidays) (years : KnownYears) (holidays : List Listed)
    (read : Result (Vec Selector Global) RulesStop) → (length holidays ≡ 0 → ⊥) → IsGiven known table years
    → IfOk read (λ days. AreDaysOf table years holidays days.items)
    → IfOk read (λ days. AreGivenDays known holidays days.items)
found_days known table years holidays (Ok days) some given are =
    days_given known table years holidays days.items some given are
found_days known table years holidays (Err why) some given are = tt

days_stop : (known : Known) (table : Holidays) (years : KnownYears) (from : HolidayRule) (why : RulesStop)
    → IsGiven known table years → IsDaysStop table years from why → IsRuleStop known from why
days_stop known table years from (stop.Uncovered place day) given is = (table, years, given, is)
days_stop known table years from stop.NoMemory given is = tt

pub no_found_days : (known : Known) (table : Holidays) (years : KnownYears) (from : HolidayRule)
    (read : Result (Vec Selector Global) RulesStop) → IsGiven known table years
    → IfErr read (IsDaysStop table years from) → IfErr read (IsRuleStop known from)
no_found_days known table years from (Ok days) given is = tt
no_found_days known table years from (Err why) given is = days_stop known table years from why given is
