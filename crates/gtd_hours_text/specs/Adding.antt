-- What a list has after the selectors or the times of a piece are added.
use Rattle.std.specs.Prelude.{◌≡◌, ℕ, ◌≤◌, List, [], ◌∷◌, ◌++◌, Option}
use Rattle.gtd_hours.specs.declared.hours.Selector.{Selector}
use Rattle.gtd_hours.specs.declared.hours.TimeRange.{TimeRange}
use Rattle.gtd_hours_parts.specs.declared.clock.ClockTime.{ClockTime}
use Rattle.gtd_hours_parts.specs.declared.days.Days.{Days}
use Rattle.gtd_hours_parts.specs.declared.piece.Offset.{Offset}
use Rattle.gtd_hours_parts.specs.Values.{AreDaysOf}
use Rattle.gtd_hours_parts.specs.Times.{minute_of}
use Rattle.gtd_hours_parts.specs.declared.piece.Piece.{Piece}
use Rattle.gtd_hours_text.specs.Standing.{AreMoved, ArePlaces, AreSelectors, IsMoved, IsPlace}

-- the selectors of the piece are added
pub record AddsSelectors (before : List Selector) (x : Piece) (after : List Selector) : Type 0 where
  pub xs : List Selector
  pub all : after ≡ before ++ xs
  pub are : AreSelectors x xs

-- the range of times is added
pub record AddsTimes (before : List TimeRange) (begin last : ClockTime) (after : List TimeRange) : Type 0 where
  pub x : TimeRange
  pub all : after ≡ before ++ x ∷ []
  pub begins : x.begin ≡ minute_of begin
  pub ends : x.last ≡ minute_of last

-- the weekday at a place is added
pub record AddsPlace (before : List Selector) (weekday number : ℕ) (after : List Selector) : Type 0 where
  pub x : Selector
  pub all : after ≡ before ++ x ∷ []
  pub is : IsPlace weekday number x

-- the weekday at each place from one to another is added
pub record AddsPlaces (before : List Selector) (weekday first last : ℕ) (after : List Selector) : Type 0 where
  pub xs : List Selector
  pub all : after ≡ before ++ xs
  pub are : ArePlaces weekday first last xs

-- it is added up to but not including a place
pub record AddsUpTo (before : List Selector) (weekday first number last : ℕ) (after : List Selector) : Type 0 where
  pub xs : List Selector
  pub all : after ≡ before ++ xs
  pub inside : first ≤ number
  pub are : (ys : List Selector) → ArePlaces weekday number last ys → ArePlaces weekday first last (xs ++ ys)

-- a selector as the offset of these days moves it
abbrev pub IsMovedBy : Option Days → Selector → Selector → Type 0
IsMovedBy days x y = (o : Option Offset) → AreDaysOf days o → IsMoved o x y

-- selectors are added as it moves them
pub record AddsMoved (days : Option Days) (before unmoved after : List Selector) : Type 0 where
  pub xs : List Selector
  pub all : after ≡ before ++ xs
  pub are : (o : Option Offset) → AreDaysOf days o → AreMoved o unmoved xs

-- they are added up to but not including the last of them
pub record AddsSome (days : Option Days) (before unmoved rest after : List Selector) : Type 0 where
  pub xs : List Selector
  pub all : after ≡ before ++ xs
  pub are : (o : Option Offset) → AreDaysOf days o → (ys : List Selector) → AreMoved o rest ys → AreMoved o unmoved (xs ++ ys)
