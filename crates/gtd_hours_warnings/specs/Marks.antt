-- The warnings of a text that may have holidays, comments and fallback rules that are unknown.
use Rattle.std.specs.Prelude.{◌≡◌, ◌+◌, ◌++◌, ◌==◌, not, ℕ, Bool, List, [], ◌∷◌, codes, decimal, drop, length, take}
use Rattle.std.specs.Prelude.{Option, Some, None}
use Rattle.std.specs.List.{prefix_len}
use Rattle.gtd_hours_holidays.specs.declared.known_years.KnownYears.{KnownYears}
use Rattle.gtd_hours_known.specs.declared.known.KnownHours.{KnownHours}
use Rattle.gtd_hours_loose.specs.Mending.{strict_place}
use Rattle.gtd_hours_loose.specs.declared.strict.StrictForm.{StrictForm}
use Rattle.gtd_hours_warnings.specs.Warnings.{AddsAllHides, AddsLooseForm, place_in, put_in, strict_text}
use Rattle.gtd_hours_warnings.specs.WholeDays.{AreWholeDays}
use Rattle.gtd_hours_warnings.specs.declared.warnings.Warning.{Warning}
use Rattle.gtd_hours_warnings.specs.declared.warnings.WarningKind.TheVariants as kind

-- ---- remarks

-- a byte that is no quote (34)
abbrev pub is_unquoted : ℕ → Bool
is_unquoted byte = not (byte == 34)

-- The comment with which bytes begin: the first quote, and what follows with the next quote or, if there is none, to the end.
abbrev pub comment_of : List ℕ → List ℕ
comment_of [] = []
comment_of (quote ∷ bytes) = quote ∷ take (prefix_len is_unquoted bytes + 1) bytes

-- The comment whose first quote is here.
abbrev pub comment_at : List ℕ → ℕ → List ℕ
comment_at text place = comment_of (drop place text)

-- The comment that is written here in a text, which may have a strict form of its own, as it is strictly written.
abbrev pub remark_at : List ℕ → Option StrictForm → ℕ → List ℕ
remark_at text None place = comment_at text place
remark_at text (Some form) place =
    comment_at form.text.items (strict_place place (length form.text.items) form.parts.items)

-- The warning of a comment on an open rule: it lacks the word that says that the rule is open.
pub record IsRemarkWarning (text : List ℕ) (strict : Option StrictForm) (place : ℕ) (w : Warning) : Type 0 where
  pub kind : w.kind ≡ kind.Remark
  pub at : w.place ≡ place
  pub form : w.form.items ≡ codes "open " ++ remark_at text strict place

-- Those of the comments at these places are put to the warnings before.
abbrev pub AddsRemarks : List ℕ → Option StrictForm → List ℕ → List Warning → List Warning → Type 0
AddsRemarks text form [] before after = after ≡ before
AddsRemarks text form (place ∷ places) before after =
    (w : Warning) × IsRemarkWarning text form place w × AddsRemarks text form places (put_in w before) after

-- ---- rules that are not known

-- The warning of a fallback rule of which it is not known whether it is open, by what stands at this place.
pub record IsNotKnownWarning (place : ℕ) (w : Warning) : Type 0 where
  pub kind : w.kind ≡ kind.NotKnown
  pub at : w.place ≡ place
  pub form : w.form.items ≡ []

-- Those of the rules at these places are put to the warnings before.
abbrev pub AddsNotKnown : List ℕ → List Warning → List Warning → Type 0
AddsNotKnown [] before after = after ≡ before
AddsNotKnown (place ∷ places) before after =
    (w : Warning) × IsNotKnownWarning place w × AddsNotKnown places (put_in w before) after

-- ---- rules that hold all day

-- The warning of a rule at this place that says days alone, and behind which a comma begins another rule: it holds all day.
pub record IsWholeDayWarning (place : ℕ) (w : Warning) : Type 0 where
  pub kind : w.kind ≡ kind.WholeDay
  pub at : w.place ≡ place
  pub form : w.form.items ≡ codes "open"

-- Those of the rules at these places of a strict form are put to the warnings before.
abbrev pub AddsWholeDaysAt : List ℕ → Option StrictForm → List ℕ → List Warning → List Warning → Type 0
AddsWholeDaysAt text form [] before after = after ≡ before
AddsWholeDaysAt text form (place ∷ places) before after =
    (w : Warning) × IsWholeDayWarning (place_in text form place) w × AddsWholeDaysAt text form places (put_in w before) after

-- Those of all such rules of the strict form are.
pub record AddsWholeDays (text : List ℕ) (form : Option StrictForm) (before after : List Warning) : Type 0 where
  pub places : List ℕ
  pub are : AreWholeDays (strict_text text form) places
  pub put : AddsWholeDaysAt text form places before after

-- ---- holidays, Easter, and years without a last one

-- the years as a warning names them: `F-L`, also if they are the same
abbrev pub years_text : KnownYears → List ℕ
years_text years = decimal years.first ++ codes "-" ++ decimal years.last

-- The warning that what needs years at this place, and all else that needs them, is known in these years alone.
pub record IsKnownYearsWarning (place : ℕ) (years : KnownYears) (w : Warning) : Type 0 where
  pub kind : w.kind ≡ kind.KnownYears
  pub at : w.place ≡ place
  pub form : w.form.items ≡ years_text years

-- It is put to the warnings before, if years are given.
abbrev pub AddsYears : ℕ → Option KnownYears → List Warning → List Warning → Type 0
AddsYears place None before after = after ≡ before
AddsYears place (Some years) before after =
    (w : Warning) × IsKnownYearsWarning place years w × (after ≡ put_in w before)

-- Of a text in which nothing needs years, nothing is put for them.
abbrev pub AddsYearsIf : Option ℕ → Option KnownYears → List Warning → List Warning → Type 0
AddsYearsIf None years before after = after ≡ before
AddsYearsIf (Some place) years before after = AddsYears place years before after

-- ---- all

-- The warnings of a text from which these hours are read, if holidays are known in these years: of what is written loosely, in
-- its order; and put to these, each at its place, first those of its remarks, then those of its rules that are not known, those
-- of its rules that say days alone, those of its rules that hide hours and, if something needs them, the years.
pub record AreWarningsWith (text : List ℕ) (read : KnownHours) (years : Option KnownYears) (found : List Warning) : Type 0 where
  pub loose : List Warning
  pub remarked : List Warning
  pub marked : List Warning
  pub whole : List Warning
  pub hidden : List Warning
  pub are_loose : AddsLooseForm text read.form loose
  pub remarks : AddsRemarks text read.form read.remarks.items loose remarked
  pub unknowns : AddsNotKnown read.unknowns.items remarked marked
  pub days : AddsWholeDays text read.form marked whole
  pub hides : AddsAllHides text read.hours read.form whole hidden
  pub put : AddsYearsIf read.first_holiday years hidden found
