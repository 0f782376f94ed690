-- The warnings of a text.
use Rattle.std.specs.Prelude.{◌≡◌, ◌↔◌, ◌<◌, ℕ, Bool, true, false, List, [], ◌∷◌, ◌++◌, length, nat_le, Option, Some, None}
use Rattle.std.specs.List.{Contains, insert, prefix_len}
use Rattle.std.specs.List.Sorted.{IsStrictlyIncreasing}
use Rattle.gtd_hours.specs.declared.hours.Hours.{Hours}
use Rattle.gtd_hours_hidden.specs.Hides.{Hides}
use Rattle.gtd_hours_loose.specs.Mending.{is_loose, stretch, written_place}
use Rattle.gtd_hours_loose.specs.declared.strict.Part.{Part}
use Rattle.gtd_hours_loose.specs.declared.strict.StrictForm.{StrictForm}
use Rattle.gtd_hours_warnings.specs.Commas.{rule_place, semicolon_of, word_before}
use Rattle.gtd_hours_warnings.specs.Forms.{IsJoinedForm}
use Rattle.gtd_hours_warnings.specs.declared.warnings.Warning.{Warning}
use Rattle.gtd_hours_warnings.specs.declared.warnings.WarningKind.TheVariants as kind

-- ---- written loosely

-- The warning of a part that is written loosely: where it is written, and its strict form.
pub record IsLooseWarning (strict : List ℕ) (p : Part) (w : Warning) : Type 0 where
  pub kind : w.kind ≡ kind.Loose
  pub place : w.place ≡ p.from
  pub form : w.form.items ≡ stretch strict p.start p.end

-- one warning more if the part is written loosely, and else none
abbrev pub IsPut : Bool → List ℕ → Part → List Warning → List Warning → Type 0
IsPut true strict p before after = (w : Warning) × IsLooseWarning strict p w × (after ≡ before ++ w ∷ [])
IsPut false strict p before after = after ≡ before

abbrev pub IsPutIf : List ℕ → List ℕ → Part → List Warning → List Warning → Type 0
IsPutIf text strict p before after = IsPut (is_loose text strict p) strict p before after

-- and so for these parts, one after another
abbrev pub AddsLoose : List ℕ → List ℕ → List Part → List Warning → List Warning → Type 0
AddsLoose text strict [] before after = after ≡ before
AddsLoose text strict (p ∷ ps) before after =
    (with : List Warning) × IsPutIf text strict p before with × AddsLoose text strict ps with after

-- The warnings of what is written loosely. A text without a strict form of its own is strict.
abbrev pub AddsLooseForm : List ℕ → Option StrictForm → List Warning → Type 0
AddsLooseForm text None found = found ≡ []
AddsLooseForm text (Some form) found = AddsLoose text form.text.items form.parts.items [] found

-- ---- rules that hide hours

-- the text as it is strictly written
abbrev pub strict_text : List ℕ → Option StrictForm → List ℕ
strict_text text None = text
strict_text text (Some form) = form.text.items

-- the place in the text of what begins here in its strict form
abbrev pub place_in : List ℕ → Option StrictForm → ℕ → ℕ
place_in text None place = place
place_in text (Some form) place = written_place place (length text) form.parts.items

-- where the semicolon before a rule stands in the strict form
abbrev pub semicolon_in : List ℕ → Hours → Option StrictForm → ℕ → ℕ
semicolon_in text hours form k = semicolon_of (strict_text text form) hours.rules.items k

-- The warning of a rule that hides hours: where the rule begins, and the hours of the text with a comma before it.
pub record IsHidesWarning (text : List ℕ) (hours : Hours) (own : Option StrictForm) (k : ℕ) (w : Warning) : Type 0 where
  pub kind : w.kind ≡ kind.Hides
  pub place : w.place ≡ place_in text own (rule_place (strict_text text own) (semicolon_in text hours own k))
  pub form : IsJoinedForm (strict_text text own) (semicolon_in text hours own k) (word_before hours.rules.items k) w.form.items

-- the warning is not behind this place
abbrev pub is_by : ℕ → Warning → Bool
is_by place w = nat_le w.place place

-- The warnings with one more, put behind those that are not behind its place.
abbrev pub put_in : Warning → List Warning → List Warning
put_in w before = insert before (prefix_len (is_by w.place) before) w

-- The warnings of these rules are put to those before.
abbrev pub AddsHides : List ℕ → Hours → Option StrictForm → List ℕ → List Warning → List Warning → Type 0
AddsHides text hours form [] before after = after ≡ before
AddsHides text hours form (k ∷ ks) before after =
    (w : Warning) × IsHidesWarning text hours form k w × AddsHides text hours form ks (put_in w before) after

-- Those of exactly the rules that hide hours are.
pub record AddsAllHides (text : List ℕ) (hours : Hours) (form : Option StrictForm) (before after : List Warning) : Type 0 where
  pub rules : List ℕ
  pub hide : (k : ℕ) → Contains rules k ↔ Hides hours.rules.items k
  pub in_order : IsStrictlyIncreasing rules
  pub put : AddsHides text hours form rules before after

-- ---- as the code goes

-- each is the number of a rule that is not the first
abbrev pub AreRules : Hours → List ℕ → Type 0
AreRules hours [] = Unit {0}
AreRules hours (k ∷ ks) = (0 < k) × (k < length hours.rules.items) × AreRules hours ks
