-- The hours of a text with holidays, and its first fault.
use Rattle.std.proofs.Common.{◌≡◌, refl, inl, inr, ℕ, List, length, None, Result, Ok, Err}
use Rattle.std.specs.Prelude.{IfErr, IfOk}
use Rattle.gtd_hours_grammar.specs.Faults.{IsFirstFault}
use Rattle.gtd_hours_grammar.specs.declared.fault.HoursFault.{HoursFault}
use Rattle.gtd_hours_grammar.specs.facts.FirstFault.{hours_or_fault}
use Rattle.gtd_hours_holiday_rules.specs.Reading.{IsHolidayText}
use Rattle.gtd_hours_items.specs.Comments.{IsNoHolidayText}
use Rattle.gtd_hours_items.specs.declared.stop.NoHolidayText.{NoHolidayText}
use Rattle.gtd_hours_items.specs.declared.stop.NoHolidayText.TheVariants as stop
use Rattle.gtd_hours_holiday_rules.specs.declared.text.HolidayText.{HolidayText}
use Rattle.gtd_hours_loose.specs.Reading.{IsStrict}
use Rattle.gtd_hours_loose.specs.StrictForms.{IsLooseStop, IsStrictForm}
use Rattle.gtd_hours_loose.specs.declared.strict.StrictForm.{StrictForm}
use Rattle.gtd_hours_loose_tokens.specs.declared.stop.LooseStop.{LooseStop}
use Rattle.gtd_hours_loose_tokens.specs.declared.stop.LooseStop.TheVariants as loose_stop
use Rattle.gtd_hours_loose_tokens.specs.declared.token.DayNames.{DayNames}
use Rattle.gtd_hours_known.specs.Faults.{stopped}
use Rattle.gtd_hours_known.specs.Marks.{HasMarks}
use Rattle.gtd_hours_known.specs.Needs.{first_need}
use Rattle.gtd_hours_loose.specs.declared.manner.Manner.TheVariants as manner
use Rattle.gtd_hours_known.specs.Manners.{IsKnownLooseStop, IsKnownReadingIn, IsMendedStop, no_form, placed}
use Rattle.gtd_hours_known.specs.Manners as manners
use Rattle.gtd_hours_known.specs.Reading.{IsHolidayFault, IsHolidayStop, IsKnown, IsKnownStop, IsOtherStop, IsSound}
use Rattle.gtd_hours_known.specs.Reading.{IsTableStop, IsUnsound}
use Rattle.gtd_hours_known.specs.Reading.{KnownStandsFor, checked, own, listed, token, uncovered, within}
use Rattle.gtd_hours_known.specs.Rules.{AreHolidayRules}
use Rattle.gtd_hours_known.specs.declared.fault.KnownFault.{KnownFault}
use Rattle.gtd_hours_known.specs.declared.fault.KnownFault.TheVariants as fault
use Rattle.gtd_hours_known.specs.declared.fault.KnownReadFault.{KnownReadFault}
use Rattle.gtd_hours_known.specs.declared.fault.KnownReadFault.TheVariants as reading
use Rattle.gtd_hours_known.specs.declared.known.Known.{Known}
use Rattle.gtd_hours_known.specs.declared.known.KnownHours.{KnownHours}

-- a text with a first fault is no plain hours
pub not_strict : (text : List ℕ) (bad : HoursFault) → IsFirstFault text bad → IsStrict text → ⊥
not_strict text bad f is = hours_or_fault text is.0 bad is.1 f

-- ---- a text with holidays

pub unsound : (known : Known) (found : HolidayText) (bad : KnownFault) → IsUnsound found bad
    → IsHolidayFault known found bad
unsound known found bad (inl x) = checked x.0 x.1 x.2
unsound known found bad (inr x) = own x.0 x.1 x.2 x.3

pub no_text : (known : Known) (text : List ℕ) (why : NoHolidayText) → IsNoHolidayText text why
    → IsOtherStop known text (stopped why)
no_text known text (stop.BadToken place) is = token place is refl
no_text known text stop.NoMemory is = tt

pub listed_hours : (known : Known) (text : List ℕ) (found : HolidayText) (read : Result KnownHours KnownReadFault)
    → (IsStrict text → ⊥) → IsHolidayText text found → IfOk read (λ r. IsSound found)
    → IfOk read (λ r. IsKnown known found r.hours) → IfOk read (HasMarks found.rules.items)
    → IfOk read (KnownStandsFor known text)
listed_hours known text found (Ok r) other is sound has marks = listed found other is sound has marks
listed_hours known text found (Err why) other is sound has marks = tt

listed_stop : (known : Known) (text : List ℕ) (found : HolidayText) (why : KnownReadFault) → IsHolidayText text found
    → IsHolidayStop known found why → IsOtherStop known text why
listed_stop known text found (reading.Fault bad) is fault = within found is fault
listed_stop known text found reading.NoMemory is fault = tt

pub listed_fault : (known : Known) (text : List ℕ) (found : HolidayText) (read : Result KnownHours KnownReadFault)
    → IsHolidayText text found → IfErr read (IsHolidayStop known found) → IfErr read (IsOtherStop known text)
listed_fault known text found (Ok r) is fault = tt
listed_fault known text found (Err why) is fault = listed_stop known text found why is fault

-- ---- a text that is no plain hours

known_stop : (known : Known) (text : List ℕ) (why : KnownReadFault) → (IsStrict text → ⊥) → IsOtherStop known text why
    → IsKnownStop known text why
known_stop known text (reading.Fault bad) other f = (other, f)
known_stop known text reading.NoMemory other f = tt

pub known_fault : (known : Known) (text : List ℕ) (read : Result KnownHours KnownReadFault) → (IsStrict text → ⊥)
    → IfErr read (IsOtherStop known text) → IfErr read (IsKnownStop known text)
known_fault known text (Ok r) other f = tt
known_fault known text (Err why) other f = known_stop known text why other f

-- ---- its strict form

pub form_stop : (names : DayNames) (known : Known) (text : List ℕ) (why : LooseStop) → IsLooseStop names text why
    → IsMendedStop names known text (no_form why)
form_stop names known text (loose_stop.Token bad) f = manners.token bad f refl
form_stop names known text loose_stop.NoMemory f = tt

pub placed_stop : (names : DayNames) (known : Known) (text : List ℕ) (form : StrictForm) (why : KnownReadFault)
    → IsStrictForm names text form → IsKnownStop known form.text.items why
    → IsMendedStop names known text (placed (length text) form.parts.items why)
placed_stop names known text form (reading.Fault bad) is f = manners.form form bad is f refl
placed_stop names known text form reading.NoMemory is f = tt

loose_stop_of : (names : DayNames) (known : Known) (text : List ℕ) (why : KnownReadFault) → (IsStrict text → ⊥)
    → IsMendedStop names known text why → IsKnownLooseStop names known text why
loose_stop_of names known text (reading.Fault bad) other f = (other, f)
loose_stop_of names known text reading.NoMemory other f = tt

pub loose_fault : (names : DayNames) (known : Known) (text : List ℕ) (read : Result KnownHours KnownReadFault)
    → (IsStrict text → ⊥) → IfErr read (IsMendedStop names known text) → IfErr read (IsKnownLooseStop names known text)
loose_fault names known text (Ok r) other f = tt
loose_fault names known text (Err why) other f = loose_stop_of names known text why other f

-- ---- a text whose rules need nothing

pub known_hours : (known : Known) (found : HolidayText) (read : Result KnownHours KnownReadFault)
    → first_need known found.rules.items ≡ None → IfOk read (λ r. AreHolidayRules known found.rules.items r.hours.rules.items)
    → IfOk read (λ r. IsKnown known found r.hours)
known_hours known found (Ok r) no_need are = record { no_need = no_need; rules = are }
known_hours known found (Err why) no_need are = tt

table_stop : (known : Known) (found : HolidayText) (why : KnownReadFault) → IsSound found
    → first_need known found.rules.items ≡ None → IsTableStop known found.rules.items why → IsHolidayStop known found why
table_stop known found (reading.Fault (fault.Uncovered at day)) sound no_need un = uncovered at day sound no_need un refl
table_stop known found (reading.Fault (fault.Hours bad)) sound no_need un = absurd un
table_stop known found (reading.Fault (fault.Ambiguous at)) sound no_need un = absurd un
table_stop known found (reading.Fault (fault.Holidays at)) sound no_need un = absurd un
table_stop known found (reading.Fault (fault.Years at)) sound no_need un = absurd un
table_stop known found (reading.Fault (fault.Unknown at)) sound no_need un = absurd un
table_stop known found reading.NoMemory sound no_need un = tt

pub table_fault : (known : Known) (found : HolidayText) (read : Result KnownHours KnownReadFault) → IsSound found
    → first_need known found.rules.items ≡ None → IfErr read (IsTableStop known found.rules.items)
    → IfErr read (IsHolidayStop known found)
table_fault known found (Ok r) sound no_need un = tt
table_fault known found (Err why) sound no_need un = table_stop known found why sound no_need un

-- ---- a text that is read as it is written

pub strict_reading : (known : Known) (text : List ℕ) (read : Result KnownHours KnownReadFault)
    → IfOk read (KnownStandsFor known text) → IfOk read (λ r. r.form ≡ None)
    → IfOk read (IsKnownReadingIn manner.Strict known text)
strict_reading known text (Ok r) stands none = (stands, none)
strict_reading known text (Err why) stands none = tt
