-- The hours of a text, and its first fault.
use Rattle.std.proofs.Common.{◌≡◌, ℕ, List, length, Option, Some, None, Result, Ok, Err, refl, subst}
use Rattle.std.specs.Prelude.{IfErr, IfOk, IfSome, IsSome}
use Rattle.gtd_hours_grammar.specs.Faults.{IsFirstFault}
use Rattle.gtd_hours_grammar.specs.declared.fault.HoursFault.{HoursFault}
use Rattle.gtd_hours_grammar.specs.facts.FirstFault.{hours_or_fault}
use Rattle.gtd_hours_text.specs.Reading.{IsFaultOf}
use Rattle.gtd_hours_text.specs.Standing.{StandsFor}
use Rattle.gtd_hours_text.specs.declared.reader.HoursTextFault.{HoursTextFault}
use Rattle.gtd_hours_text.specs.declared.reader.HoursTextFault.TheVariants as text_fault
use Rattle.gtd_hours_loose.specs.declared.reader.LooseHours.{LooseHours}
use Rattle.gtd_hours_loose.specs.declared.reader.LooseReadFault.{LooseReadFault}
use Rattle.gtd_hours_loose.specs.declared.reader.LooseReadFault.TheVariants as reading
use Rattle.gtd_hours_loose_tokens.specs.declared.stop.LooseStop.{LooseStop}
use Rattle.gtd_hours_loose_tokens.specs.declared.stop.LooseStop.TheVariants as stop
use Rattle.gtd_hours_loose.specs.declared.strict.StrictForm.{StrictForm}
use Rattle.gtd_hours_loose_tokens.specs.declared.token.DayNames.{DayNames}
use Rattle.gtd_hours_loose.specs.Reading.{IsLooseReading, IsMendedStop, IsReadFault, IsStrict, placed, stopped, strict}
use Rattle.gtd_hours_loose.specs.Reading.{mended, token, hours}
use Rattle.gtd_hours_loose.specs.StrictForms.{IsLooseStop, IsStrictForm}

-- a text with a first fault is not hours as it is written
pub not_strict : (text : List ℕ) (bad : HoursFault) → IsFirstFault text bad → IsStrict text → ⊥
not_strict text bad f is = hours_or_fault text is.0 bad is.1 f

pub read_fault : (names : DayNames) (text : List ℕ) (why : LooseReadFault) → (IsStrict text → ⊥) → IsMendedStop names text why
    → IsReadFault names text why
read_fault names text (reading.Fault bad) other f = (other, f)
read_fault names text reading.NoMemory other f = tt

pub stop_fault : (names : DayNames) (text : List ℕ) (why : LooseStop) → IsLooseStop names text why
    → IsMendedStop names text (stopped why)
stop_fault names text (stop.Token bad) f = token bad f refl
stop_fault names text stop.NoMemory f = tt

pub form_fault : (names : DayNames) (text : List ℕ) (form : StrictForm) (why : HoursTextFault) → IsStrictForm names text form
    → IsFaultOf form.text.items why → IsMendedStop names text (placed why (length text) form.parts.items)
form_fault names text form (text_fault.Fault bad) is f = hours form bad is f refl
form_fault names text form text_fault.NoMemory is f = tt

-- what is read of the strict form
by_form : (names : DayNames) (text : List ℕ) (read : LooseHours) (found : Option StrictForm) → (IsStrict text → ⊥)
    → read.form ≡ found → IfSome found (λ form. IsStrictForm names text form × StandsFor form.text.items read.hours)
    → IsSome found → IsLooseReading names text read
by_form names text read None other e h some = absurd cc
by_form names text read (Some form) other e h some = mended form other e h.0 h.1

pub mended_reading : (names : DayNames) (text : List ℕ) (read : Result LooseHours LooseReadFault) → (IsStrict text → ⊥)
    → IfOk read (λ r. IfSome r.form (λ form. IsStrictForm names text form × StandsFor form.text.items r.hours))
    → IfOk read (λ r. IsSome r.form) → IfOk read (IsLooseReading names text)
mended_reading names text (Ok read) other h some = by_form names text read read.form other refl h some
mended_reading names text (Err why) other h some = tt

pub mended_fault : (names : DayNames) (text : List ℕ) (read : Result LooseHours LooseReadFault) → (IsStrict text → ⊥)
    → IfErr read (IsMendedStop names text) → IfErr read (IsReadFault names text)
mended_fault names text (Ok read) other f = tt
mended_fault names text (Err why) other f = read_fault names text why other f

-- ---- laws

pub strict_law : (names : DayNames) (text : List ℕ) (read : LooseHours) → IsStrict text → IsLooseReading names text read
    → (read.form ≡ None) × StandsFor text read.hours
strict_law names text read is (strict none stands) = (none, stands)
strict_law names text read is (mended form other e f stands) = absurd (other is)

pub mended_law : (names : DayNames) (text : List ℕ) (read : LooseHours) (form : StrictForm) → IsLooseReading names text read
    → read.form ≡ Some form → IsStrict form.text.items × StandsFor form.text.items read.hours
mended_law names text read form (strict none stands) e = absurd cc
mended_law names text read form (mended other none e' f stands) e =
    let same : other ≡ form = cc in
    subst (λ (x : StrictForm). IsStrict x.text.items × StandsFor x.text.items read.hours) same ((stands.p, stands.is), stands)
