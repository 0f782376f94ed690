-- Which hours the pieces of a text stand for.
use Rattle.std.specs.Prelude.{◌≡◌, ℕ, ◌+◌, ◌<◌, ◌≤◌, Bool, true, false, List, [], ◌∷◌, ◌++◌, Option, Some, None}
use Rattle.std.specs.List.{filter}
use Rattle.gtd_hours.specs.Ranges.{IsMovable}
use Rattle.gtd_hours.specs.declared.hours.Link.{Link}
use Rattle.gtd_hours.specs.declared.hours.Link.TheVariants as link
use Rattle.gtd_hours.specs.declared.hours.Modifier.{Modifier}
use Rattle.gtd_hours.specs.declared.hours.Modifier.TheVariants as modifier
use Rattle.gtd_hours.specs.declared.hours.Hours.{Hours}
use Rattle.gtd_hours.specs.declared.hours.Rule.{Rule}
use Rattle.gtd_hours.specs.declared.hours.Selector.{Selector}
use Rattle.gtd_hours.specs.declared.hours.Selector.TheVariants as selector
use Rattle.gtd_hours.specs.declared.hours.TimeRange.{TimeRange}
pub use Rattle.gtd_hours.specs.Writable.{kind_if, selectors}
pub use Rattle.gtd_hours_parts.specs.Values.{AreDates, IsMonthDay, IsSelector, IsYearDate, end_year, last_day, last_month}
pub use Rattle.gtd_hours_parts.specs.Values.{last_number, year_or}
use Rattle.gtd_hours_parts.specs.Times.{minute_of}
use Rattle.gtd_hours_parts.specs.declared.piece.Offset.{Offset}
use Rattle.gtd_hours_parts.specs.declared.piece.Piece.{Piece}
use Rattle.gtd_hours_parts.specs.declared.piece.Piece.TheVariants as piece
use Rattle.gtd_hours_grammar.specs.Faults.{IsHoursText}

-- ---- selectors

-- a weekday at each place from one to another
abbrev pub IsPlace : ℕ → ℕ → Selector → Type 0
IsPlace weekday number (selector.Nth x) = (x.weekday ≡ weekday) × (x.number ≡ number)
IsPlace weekday number x = ⊥

pub data ArePlaces (weekday : ℕ) : ℕ → ℕ → List Selector → Type 0 where
  past : (first last : ℕ) → (xs : List Selector) → last < first → xs ≡ [] → ArePlaces weekday first last xs
  place : (first last : ℕ) → (x : Selector) → (xs ys : List Selector) → first ≤ last → ys ≡ x ∷ xs → IsPlace weekday first x
      → ArePlaces weekday (first + 1) last xs → ArePlaces weekday first last ys

-- the piece is these selectors
abbrev pub AreSelectors : Piece → List Selector → Type 0
AreSelectors (piece.Places weekday first last) xs = ArePlaces weekday first.value (last_number first last) xs
AreSelectors (piece.PlacesEnd offset) xs = xs ≡ []
AreSelectors y (x ∷ []) = IsSelector y x
AreSelectors y xs = ⊥

-- and pieces are these, one after another
pub data AllSelectors : List Piece → List Selector → Type 0 where
  none : (p : List Piece) → (xs : List Selector) → p ≡ [] → xs ≡ [] → AllSelectors p xs
  more : (y : Piece) → (p q : List Piece) → (xs ys zs : List Selector) → p ≡ y ∷ q → zs ≡ xs ++ ys → AreSelectors y xs
      → AllSelectors q ys → AllSelectors p zs

-- ---- weekdays, which offsets may move

-- the offset behind the brackets that end first
abbrev pub offset_in : List Piece → Option Offset
offset_in [] = None
offset_in (piece.PlacesEnd offset ∷ p) = offset
offset_in (y ∷ p) = offset_in p

-- an offset that moves a place
abbrev pub CanMove : Offset → Bool → ℕ → Type 0
CanMove o back number = (1 ≤ o.days.value) × IsMovable number back o.days.value o.is_before

-- Each place in brackets is moved by the offset behind them: in each text it can be. All other weekdays stay.
abbrev pub IsMoved : Option Offset → Selector → Selector → Type 0
IsMoved (Some o) (selector.Nth x) (selector.Moved y) =
    (1 ≤ y.days) × (y.place ≡ x) × (y.is_back ≡ false) × (y.days ≡ o.days.value) × (y.is_before ≡ o.is_before)
IsMoved (Some o) (selector.Nth x) y = (selector.Nth x ≡ y) × (CanMove o false x.number → ⊥)
IsMoved (Some o) (selector.NthBack x) (selector.Moved y) =
    (1 ≤ y.days) × (y.place ≡ x) × (y.is_back ≡ true) × (y.days ≡ o.days.value) × (y.is_before ≡ o.is_before)
IsMoved (Some o) (selector.NthBack x) y = (selector.NthBack x ≡ y) × (CanMove o true x.number → ⊥)
IsMoved o x y = x ≡ y

abbrev pub AreMoved : Option Offset → List Selector → List Selector → Type 0
AreMoved o [] [] = Unit {0}
AreMoved o (x ∷ xs) (y ∷ ys) = IsMoved o x y × AreMoved o xs ys
AreMoved o xs ys = ⊥

-- pieces are these weekdays, one after another
pub data AllWeekdays : List Piece → List Selector → Type 0 where
  none : (p : List Piece) → (xs : List Selector) → p ≡ [] → xs ≡ [] → AllWeekdays p xs
  more : (y : Piece) → (p q : List Piece) → (us xs ys zs : List Selector) → p ≡ y ∷ q → zs ≡ xs ++ ys → AreSelectors y us
      → AreMoved (offset_in q) us xs → AllWeekdays q ys → AllWeekdays p zs

-- ---- times

abbrev pub AllTimes : List Piece → List TimeRange → Type 0
AllTimes [] [] = Unit {0}
AllTimes (piece.Times begin last ∷ p) (x ∷ xs) = (x.begin ≡ minute_of begin) × (x.last ≡ minute_of last) × AllTimes p xs
AllTimes p xs = ⊥

-- ---- rules

abbrev pub names_years : Piece → Bool
names_years (piece.Years first last step) = true
names_years x = false

abbrev pub names_month_days : Piece → Bool
names_month_days (piece.Months first last) = true
names_month_days (piece.Dates first last) = true
names_month_days x = false

abbrev pub names_weeks : Piece → Bool
names_weeks (piece.Weeks first last step) = true
names_weeks x = false

abbrev pub names_weekdays : Piece → Bool
names_weekdays (piece.Weekdays first last) = true
names_weekdays (piece.Places weekday first last) = true
names_weekdays (piece.PlaceBack weekday number) = true
names_weekdays (piece.PlacesEnd offset) = true
names_weekdays x = false

abbrev pub names_times : Piece → Bool
names_times (piece.Times begin last) = true
names_times x = false

-- a rule is closed if a piece of it says so
abbrev pub is_closed : List Piece → Bool
is_closed [] = false
is_closed (piece.Closed ∷ p) = true
is_closed (x ∷ p) = is_closed p

abbrev pub modifier_of : Bool → Modifier
modifier_of true = modifier.Closed
modifier_of false = modifier.Open

-- The pieces are a rule: of each kind its selectors, then its times, and whether it is closed.
pub record IsRule (l : Link) (p : List Piece) (rule : Rule) : Type 0 where
  pub years : List Selector
  pub month_days : List Selector
  pub weeks : List Selector
  pub weekdays : List Selector
  pub are_years : AllSelectors (filter names_years p) years
  pub are_month_days : AllSelectors (filter names_month_days p) month_days
  pub are_weeks : AllSelectors (filter names_weeks p) weeks
  pub are_weekdays : AllWeekdays (filter names_weekdays p) weekdays
  pub kinds : selectors rule.kinds.items ≡ kind_if years ++ kind_if month_days ++ kind_if weeks ++ kind_if weekdays
  pub times : AllTimes (filter names_times p) rule.times.items
  pub modifier : rule.modifier ≡ modifier_of (is_closed p)
  pub link : rule.link ≡ l

abbrev pub begins_rule : Piece → Bool
begins_rule (piece.Rule l) = true
begins_rule x = false

-- no other rule begins in the pieces
abbrev pub is_one_rule : List Piece → Bool
is_one_rule [] = true
is_one_rule (piece.Rule l ∷ p) = false
is_one_rule (x ∷ p) = is_one_rule p

-- The pieces are these rules, the first of which has this link.
pub data AreRules : Link → List Piece → List Rule → Type 0 where
  last : (l : Link) → (p : List Piece) → (rule : Rule) → (rules : List Rule) → is_one_rule p ≡ true → IsRule l p rule
      → rules ≡ rule ∷ [] → AreRules l p rules
  another : (l next : Link) → (p q r : List Piece) → (rule : Rule) → (rules all : List Rule) → p ≡ q ++ piece.Rule next ∷ r
      → is_one_rule q ≡ true → IsRule l q rule → all ≡ rule ∷ rules → AreRules next r rules → AreRules l p all

-- The text stands for these hours.
pub record StandsFor (text : List ℕ) (hours : Hours) : Type 0 where
  pub p : List Piece
  pub is : IsHoursText text p
  pub rules : AreRules link.Instead p hours.rules.items
