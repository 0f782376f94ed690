-- Hours that are read without holidays, comments, unknown and fallback rules are those that are read plainly.
use Rattle.std.proofs.Common.{◌≡◌, ◌∙◌, refl, sym, ap, subst, Bool, ℕ, List, [], ◌∷◌, length, Option, Some, None}
use Rattle.gtd_hours.specs.declared.hours.Hours.{Hours}
use Rattle.gtd_hours.specs.declared.hours.Rule.{Rule}
use Rattle.gtd_hours.specs.declared.hours.Selector.{Selector}
use Rattle.gtd_hours_days.specs.declared.listed.EasterDays.{EasterDays}
use Rattle.gtd_hours_days.specs.declared.listed.Listed.{Listed}
use Rattle.gtd_hours_text.specs.Standing.{StandsFor}
use Rattle.gtd_hours_loose.specs.Manners.{IsReadingIn}
use Rattle.gtd_hours_loose.specs.Reading.{IsLooseReading, IsStrict}
use Rattle.gtd_hours_loose.specs.Reading as loose
use Rattle.gtd_hours_loose.specs.declared.manner.Manner.{Manner}
use Rattle.gtd_hours_loose.specs.declared.manner.Manner.TheVariants as manner
use Rattle.gtd_hours_loose.specs.declared.reader.LooseHours.{LooseHours}
use Rattle.gtd_hours_loose.specs.declared.strict.Part.{Part}
use Rattle.gtd_hours_loose.specs.declared.strict.StrictForm.{StrictForm}
use Rattle.gtd_hours_loose_tokens.specs.declared.token.DayNames.{DayNames}
use Rattle.gtd_hours_holiday_rules.specs.declared.rules.HolidayRule.{HolidayRule}
use Rattle.gtd_hours_holiday_rules.specs.declared.text.HolidayText.{HolidayText}
use Rattle.gtd_hours_holidays.specs.declared.known_years.KnownYears.{KnownYears}
use Rattle.gtd_hours_known.specs.Easter.{AreEasterDays, IsOwnHours}
use Rattle.gtd_hours_known.specs.Given.{no_easter_years, no_last_year, none_given, or_later, rule_lacks}
use Rattle.gtd_hours_known.specs.Manners.{IsKnownLooseReading, IsKnownReadingIn, IsPlaced, mended, placed_holiday, placed_places}
use Rattle.gtd_hours_known.specs.Manners.{strict}
use Rattle.gtd_hours_known.specs.Marks.{HasMarks}
use Rattle.gtd_hours_known.specs.Needs.{first_need, unknown_fault}
use Rattle.gtd_hours_known.specs.Reading.{IsKnown, KnownStandsFor, listed, plain}
use Rattle.gtd_hours_known.specs.Rules.{AreGivenDays, AreHolidayRules, IsHolidayRule, first_holiday, first_or, place_or}
use Rattle.gtd_hours_known.specs.Until.{AreHoursUntil}
use Rattle.gtd_hours_known.specs.declared.known.Known.{Known}
use Rattle.gtd_hours_known.specs.declared.known.KnownHours.{KnownHours}

-- ---- plain hours are read

marks_placed : (end : ℕ) (form : StrictForm) (made : KnownHours) → HasMarks [] made → made.form ≡ Some form
    → IsPlaced end form made made
marks_placed end form made marks is = record {
  hours = refl;
  by_form = is;
  first = marks.first ∙ sym (ap (placed_holiday end form.parts.items) marks.first);
  remarks = marks.remarks ∙ sym (ap (placed_places end form.parts.items) marks.remarks);
  unknowns = marks.unknowns ∙ sym (ap (placed_places end form.parts.items) marks.unknowns);
}

plain_loose : (names : DayNames) (known : Known) (text : List ℕ) (read : LooseHours) (made : KnownHours)
    → IsLooseReading names text read → made.hours ≡ read.hours → made.form ≡ read.form → HasMarks [] made
    → IsKnownLooseReading names known text made
plain_loose names known text read made (loose.strict none stands) same form marks =
    strict (form ∙ none) (subst (StandsFor text) (sym same) stands) marks
plain_loose names known text read made (loose.mended found other e is stands) same form marks =
    mended found made other is (plain (subst (StandsFor found.text.items) (sym same) stands) marks)
    (marks_placed (length text) found made marks (form ∙ e))

pub as_plain : (m : Manner) (known : Known) (text : List ℕ) (read : LooseHours) (made : KnownHours) → IsReadingIn m text read
    → made.hours ≡ read.hours → made.form ≡ read.form → HasMarks [] made → IsKnownReadingIn m known text made
as_plain manner.Strict known text read made is same form marks =
    (plain (subst (StandsFor text) (sym same) is.0) marks, form ∙ is.1)
as_plain (manner.Loose names) known text read made is same form marks =
    plain_loose names known text read made is same form marks

-- ---- and no others are read of them

only_stands : (known : Known) (text : List ℕ) (read : KnownHours) → IsStrict text → KnownStandsFor known text read
    → StandsFor text read.hours
only_stands known text read is (plain stands marks) = stands
only_stands known text read is (listed found other text_is sound has marks) = absurd (other is)

only_loose : (names : DayNames) (known : Known) (text : List ℕ) (read : KnownHours) → IsStrict text
    → IsKnownLooseReading names known text read
    → IsLooseReading names text (record { hours = read.hours; form = read.form })
only_loose names known text read is (strict none stands marks) = loose.strict none stands
only_loose names known text read is (mended form own other with stands placed) = absurd (other is)

pub only_plain : (m : Manner) (known : Known) (text : List ℕ) (read : KnownHours) → IsStrict text
    → IsKnownReadingIn m known text read → IsReadingIn m text (record { hours = read.hours; form = read.form })
only_plain manner.Strict known text read is stands = (only_stands known text read is stands.0, stands.1)
only_plain (manner.Loose names) known text read is stands = only_loose names known text read is stands

-- ---- without holidays, Easter and years without a last one nothing needs to be known

no_place : (place later : Option ℕ) → place_or place later ≡ None → (place ≡ None) × (later ≡ None)
no_place None later e = (refl, e)
no_place (Some place) later e = absurd cc

no_first : {A : Type 0} (xs : List A) (places : List ℕ) (later : Option ℕ) → first_or xs places later ≡ None
    → (xs ≡ []) × (later ≡ None)
no_first [] places later e = (refl, e)
no_first (x ∷ xs) places later e = absurd cc

same_days : (known other : Known) (holidays : List Listed) (days : List Selector) → holidays ≡ []
    → AreGivenDays known holidays days → AreGivenDays other holidays days
same_days known other [] days none are = are
same_days known other (h ∷ holidays) days none are = absurd cc

same_easter : (known other : Known) (easter : List EasterDays) (days : List Selector) → easter ≡ []
    → AreEasterDays known easter days → AreEasterDays other easter days
same_easter known other [] days none are = are
same_easter known other (h ∷ easter) days none are = absurd cc

same_until : (years other : Option KnownYears) (place : Option ℕ) (marks : List Bool) (own hours : Hours) → place ≡ None
    → AreHoursUntil years place marks own hours → AreHoursUntil other place marks own hours
same_until years other None marks own hours none are = are
same_until years other (Some place) marks own hours none are = absurd cc

-- a rule needs nothing
record NeedsNothing (rule : HolidayRule) : Type 0 where
  every : rule.every_place ≡ None
  easter : rule.easter.items ≡ []
  holidays : rule.holidays.items ≡ []

same_own : (known other : Known) (from : HolidayRule) (hours : Hours) → NeedsNothing from
    → IsOwnHours known from hours → IsOwnHours other from hours
same_own known other from hours none is = record {
  easter = is.easter;
  are = same_easter known other from.easter.items is.easter none.easter is.are;
  dated = is.dated;
  stands = is.stands;
  until = same_until known.years other.years from.every_place from.every.items is.dated hours none.every is.until;
}

-- and those behind it neither
no_holiday : (rule : HolidayRule) (rules : List HolidayRule) → first_holiday (rule ∷ rules) ≡ None
    → NeedsNothing rule × (first_holiday rules ≡ None)
no_holiday rule rules none =
    let first = no_place rule.every_place _ none in
    let own = no_first rule.easter.items rule.easter_places.items
    (first_or rule.holidays.items rule.places.items (first_holiday rules)) first.1 in
    let more = no_first rule.holidays.items rule.places.items (first_holiday rules) own.1 in
    (record { every = first.0; easter = own.0; holidays = more.0 }, more.1)

same_rule : (known other : Known) (from : HolidayRule) (made : List Rule) → NeedsNothing from
    → IsHolidayRule known from made → IsHolidayRule other from made
same_rule known other from made none is = record {
  plain = is.plain;
  days = is.days;
  own = same_own known other from is.plain none is.own;
  listed = same_days known other from.holidays.items is.days none.holidays is.listed;
  are = is.are;
}

same_rules : (known other : Known) (rules : List HolidayRule) (made : List Rule) → first_holiday rules ≡ None
    → AreHolidayRules known rules made → AreHolidayRules other rules made
same_rules known other [] made none are = are
same_rules known other (rule ∷ rules) made none are =
    let all = no_holiday rule rules none in
    (are.0, are.1, same_rule known other rule are.0 all.0 are.2, same_rules known other rules are.1 all.1 are.3, are.4)

same_given : (known other : Known) (holidays : List Listed) (places : List ℕ) → holidays ≡ []
    → none_given known holidays places ≡ none_given other holidays places
same_given known other [] places none = refl
same_given known other (h ∷ holidays) places none = absurd cc

no_easter : (years other : Option KnownYears) (easter : List EasterDays) (places : List ℕ) → easter ≡ []
    → no_easter_years years easter places ≡ no_easter_years other easter places
no_easter years other [] places none = refl
no_easter years other (h ∷ easter) places none = absurd cc

no_every : (years other : Option KnownYears) (place : Option ℕ) → place ≡ None
    → no_last_year years place ≡ no_last_year other place
no_every years other None none = refl
no_every years other (Some place) none = absurd cc

same_lacks : (known other : Known) (rule : HolidayRule) → NeedsNothing rule → rule_lacks known rule ≡ rule_lacks other rule
same_lacks known other rule none =
    let last = no_every known.years other.years rule.every_place none.every in
    let years = no_easter known.years other.years rule.easter.items rule.easter_places.items none.easter in
    let given = same_given known other rule.holidays.items rule.places.items none.holidays in
    λ i. or_later (last i) (or_later (years i) (given i))

same_need : (known other : Known) (rules : List HolidayRule) → first_holiday rules ≡ None
    → first_need known rules ≡ first_need other rules
same_need known other [] none = refl
same_need known other (rule ∷ rules) none =
    let all = no_holiday rule rules none in
    let here = same_lacks known other rule all.0 in
    let later = same_need known other rules all.1 in
    λ i. or_later (or_later (here i) (unknown_fault rule rules)) (later i)

same_known : (known other : Known) (found : HolidayText) (hours : Hours) → first_holiday found.rules.items ≡ None
    → IsKnown known found hours → IsKnown other found hours
same_known known other found hours none is = record {
  no_need = sym (same_need known other found.rules.items none) ∙ is.no_need;
  rules = same_rules known other found.rules.items hours.rules.items none is.rules;
}

same_stands : (known other : Known) (text : List ℕ) (read : KnownHours) → KnownStandsFor known text read
    → read.first_holiday ≡ None → KnownStandsFor other text read
same_stands known other text read (plain stands marks) e = plain stands marks
same_stands known other text read (listed found other_text is sound has marks) e =
    listed found other_text is sound (same_known known other found read.hours (sym marks.first ∙ e) has) marks

none_placed : (end : ℕ) (parts : List Part) (first : Option ℕ) → placed_holiday end parts first ≡ None → first ≡ None
none_placed end parts None e = refl
none_placed end parts (Some place) e = absurd cc

same_loose : (names : DayNames) (known other : Known) (text : List ℕ) (read : KnownHours)
    → IsKnownLooseReading names known text read → read.first_holiday ≡ None → IsKnownLooseReading names other text read
same_loose names known other text read (strict none stands marks) e = strict none stands marks
same_loose names known other text read (mended form own other_text is stands placed) e =
    mended form own other_text is
    (same_stands known other form.text.items own stands
    (none_placed (length text) form.parts.items own.first_holiday (sym placed.first ∙ e))) placed

pub same_reading : (m : Manner) (known other : Known) (text : List ℕ) (read : KnownHours) → IsKnownReadingIn m known text read
    → read.first_holiday ≡ None → IsKnownReadingIn m other text read
same_reading manner.Strict known other text read is e = (same_stands known other text read is.0 e, is.1)
same_reading (manner.Loose names) known other text read is e = same_loose names known other text read is e
