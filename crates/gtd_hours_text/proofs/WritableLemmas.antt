-- Hours that a text stands for can be written.
use Rattle.std.proofs.Common.{◌≡◌, ℕ, ◌+◌, Bool, true, false, cond, List, [], ◌∷◌, Option, Some, None, refl, sym, subst, ◌∙◌}
use Rattle.std.proofs.Common.{arith}
use Rattle.std.specs.List.{filter, list_all}
use Rattle.std.proofs.lemmas.Bool.{lt-ltb}
use Rattle.std.proofs.lemmas.List.Folds.{list_all-append}
use Rattle.gtd_hours.specs.declared.hours.Hours.{Hours}
use Rattle.gtd_hours.specs.declared.hours.Link.{Link}
use Rattle.gtd_hours.specs.declared.hours.Link.TheVariants as link
use Rattle.gtd_hours.specs.declared.hours.Rule.{Rule}
use Rattle.gtd_hours.specs.declared.hours.Selector.{Selector}
use Rattle.gtd_hours.specs.declared.hours.Selector.TheVariants as selector
use Rattle.gtd_hours.specs.Writable.{AreWritable, BeginAnew, IsWritable, IsWritableRule}
use Rattle.gtd_hours.specs.Writable.{is_fallback, is_month_days, is_weekdays, is_weeks, is_years}
use Rattle.gtd_hours_parts.specs.declared.digits.Digits.{Digits}
use Rattle.gtd_hours_parts.specs.declared.piece.LastDate.{LastDate}
use Rattle.gtd_hours_parts.specs.declared.piece.Offset.{Offset}
use Rattle.gtd_hours_parts.specs.declared.piece.Piece.{Piece}
use Rattle.gtd_hours_parts.specs.declared.piece.Piece.TheVariants as piece
use Rattle.gtd_hours_parts.specs.declared.piece.WrittenDate.{WrittenDate}
use Rattle.gtd_hours_moves.specs.declared.stage.Stage.TheVariants as stage
use Rattle.gtd_hours_grammar.specs.Faults.{kinds}
use Rattle.gtd_hours_text.specs.Standing.{AllSelectors, AllWeekdays, AreDates, AreMoved, ArePlaces, AreRules, AreSelectors}
use Rattle.gtd_hours_text.specs.Standing.{IsMoved, IsPlace, IsRule, StandsFor, offset_in}
use Rattle.gtd_hours_text.specs.Standing.{names_month_days, names_weekdays, names_weeks, names_years}
use Rattle.gtd_hours_text.proofs.NoFallback.{NoneFallsBack, none_behind, none_falls_back}
use Rattle.gtd_hours_text.proofs.WrittenSelectors.{and_both}
use Rattle.gtd_hours_text.proofs.WrittenTokens.{both_true}

-- ---- the selectors of a piece are of its kind

only_years : (y : Piece) (xs : List Selector) → names_years y ≡ true → AreSelectors y xs → list_all is_years xs ≡ true
only_years (piece.Years a b d) (selector.Years x ∷ []) e are = refl
only_years (piece.Years a b d) (x ∷ []) e are = absurd are
only_years (piece.Years a b d) xs e are = absurd are
only_years y xs e are = absurd cc

only_weeks : (y : Piece) (xs : List Selector) → names_weeks y ≡ true → AreSelectors y xs → list_all is_weeks xs ≡ true
only_weeks (piece.Weeks a b d) (selector.Weeks x ∷ []) e are = refl
only_weeks (piece.Weeks a b d) (x ∷ []) e are = absurd are
only_weeks (piece.Weeks a b d) xs e are = absurd are
only_weeks y xs e are = absurd cc

only_dates : (year : Option Digits) (a : WrittenDate) (b : Option LastDate) (x : Selector) → AreDates year a b x
    → list_all is_month_days (x ∷ []) ≡ true
only_dates None a b (selector.Dates x) are = refl
only_dates (Some year) a b (selector.Dated x) are = refl
only_dates None a b x are = absurd are
only_dates (Some year) a b x are = absurd are

only_month_days : (y : Piece) (xs : List Selector) → names_month_days y ≡ true → AreSelectors y xs
    → list_all is_month_days xs ≡ true
only_month_days (piece.Months a b) (selector.Months x ∷ []) e are = refl
only_month_days (piece.Months a b) (x ∷ []) e are = absurd are
only_month_days (piece.Months a b) xs e are = absurd are
only_month_days (piece.Dates a b) (x ∷ []) e are = only_dates a.year a b x are
only_month_days (piece.Dates a b) xs e are = absurd are
only_month_days y xs e are = absurd cc

one_place : (k n : ℕ) (x : Selector) → IsPlace k n x → is_weekdays x ≡ true
one_place k n (selector.Nth x) is = refl
one_place k n x is = absurd is

only_places : (k first last : ℕ) (xs : List Selector) → ArePlaces k first last xs → list_all is_weekdays xs ≡ true
only_places k first last xs (ArePlaces.past a b ys less e) =
    subst (λ (l : List Selector). list_all is_weekdays l ≡ true) (sym e) refl
only_places k first last xs (ArePlaces.place a b x ys zs le e is more) =
    subst (λ (l : List Selector). list_all is_weekdays l ≡ true) (sym e)
    (both_true (is_weekdays x) (list_all is_weekdays ys) (one_place k a x is) (only_places k (a + 1) b ys more))

only_weekdays : (y : Piece) (xs : List Selector) → names_weekdays y ≡ true → AreSelectors y xs → list_all is_weekdays xs ≡ true
only_weekdays (piece.Weekdays a b) (selector.Weekdays x ∷ []) e are = refl
only_weekdays (piece.Weekdays a b) (x ∷ []) e are = absurd are
only_weekdays (piece.Weekdays a b) xs e are = absurd are
only_weekdays (piece.PlaceBack a b) (selector.NthBack x ∷ []) e are = refl
only_weekdays (piece.PlaceBack a b) (x ∷ []) e are = absurd are
only_weekdays (piece.PlaceBack a b) xs e are = absurd are
only_weekdays (piece.Places k a b) xs e are = only_places k _ _ xs are
only_weekdays (piece.PlacesEnd o) xs e are = subst (λ (l : List Selector). list_all is_weekdays l ≡ true) (sym are) refl
only_weekdays y xs e are = absurd cc

-- and stay so where an offset moves them
moved_one : (o : Option Offset) (x y : Selector) → is_weekdays x ≡ true → IsMoved o x y → is_weekdays y ≡ true
moved_one (Some o) (selector.Nth x) (selector.Moved y) e h = lt-ltb 0 y.days (omega (arith, h.0))
moved_one (Some o) (selector.Nth x) y e h = subst (λ (z : Selector). is_weekdays z ≡ true) h.0 refl
moved_one (Some o) (selector.NthBack x) (selector.Moved y) e h = lt-ltb 0 y.days (omega (arith, h.0))
moved_one (Some o) (selector.NthBack x) y e h = subst (λ (z : Selector). is_weekdays z ≡ true) h.0 refl
moved_one (Some o) x y e h = subst (λ (z : Selector). is_weekdays z ≡ true) h e
moved_one None x y e h = subst (λ (z : Selector). is_weekdays z ≡ true) h e

moved_all : (o : Option Offset) (xs ys : List Selector) → list_all is_weekdays xs ≡ true → AreMoved o xs ys
    → list_all is_weekdays ys ≡ true
moved_all o [] [] e h = refl
moved_all o (x ∷ xs) (y ∷ ys) e h =
    let two = and_both (is_weekdays x) (list_all is_weekdays xs) e in
    both_true (is_weekdays y) (list_all is_weekdays ys) (moved_one o x y two.0 h.0) (moved_all o xs ys two.1 h.1)
moved_all o [] (y ∷ ys) e h = absurd h
moved_all o (x ∷ xs) [] e h = absurd h

all_weekdays : (p : List Piece) (xs : List Selector) → list_all names_weekdays p ≡ true → AllWeekdays p xs
    → list_all is_weekdays xs ≡ true
all_weekdays p xs h (AllWeekdays.none q zs e f) =
    subst (λ (l : List Selector). list_all is_weekdays l ≡ true) (sym f) refl
all_weekdays p xs h (AllWeekdays.more y o q us a b c e f are moved all) =
    let here : list_all names_weekdays (y ∷ q) ≡ true = subst (λ (l : List Piece). list_all names_weekdays l ≡ true) e h in
    let two = and_both (names_weekdays y) (list_all names_weekdays q) here in
    subst (λ (l : List Selector). list_all is_weekdays l ≡ true) (sym f)
    (list_all-append is_weekdays a b ∙ both_true (list_all is_weekdays a) (list_all is_weekdays b)
    (moved_all (offset_in q) us a (only_weekdays y us two.0 are) moved) (all_weekdays q b two.1 all))

-- ---- and so are those of all pieces

all_such : (is : Piece → Bool) (such : Selector → Bool)
    → ((y : Piece) (xs : List Selector) → is y ≡ true → AreSelectors y xs → list_all such xs ≡ true)
    → (p : List Piece) (xs : List Selector) → list_all is p ≡ true → AllSelectors p xs → list_all such xs ≡ true
all_such is such each p xs h (AllSelectors.none q zs e f) =
    subst (λ (l : List Selector). list_all such l ≡ true) (sym f) refl
all_such is such each p xs h (AllSelectors.more y o q a b c e f are all) =
    let here : list_all is (y ∷ q) ≡ true = subst (λ (l : List Piece). list_all is l ≡ true) e h in
    let two = and_both (is y) (list_all is q) here in
    subst (λ (l : List Selector). list_all such l ≡ true) (sym f)
    (list_all-append such a b ∙ both_true (list_all such a) (list_all such b) (each y a two.0 are)
    (all_such is such each q b two.1 all))

filtered_by : (is : Piece → Bool) (b : Bool) (x : Piece) (xs : List Piece) → is x ≡ b → list_all is xs ≡ true
    → list_all is (cond b (x ∷ xs) xs) ≡ true
filtered_by is true x xs e h = both_true (is x) (list_all is xs) e h
filtered_by is false x xs e h = h

filtered : (is : Piece → Bool) (p : List Piece) → list_all is (filter is p) ≡ true
filtered is [] = refl
filtered is (x ∷ xs) = filtered_by is (is x) x (filter is xs) refl (filtered is xs)

-- ---- rules

writable_rule : (l : Link) (p : List Piece) (rule : Rule) → is_fallback l ≡ false → IsRule l p rule → IsWritableRule rule
writable_rule l p rule kept r = record {
  no_fallback = subst (λ (k : Link). is_fallback k ≡ false) (sym r.link) kept;
  years = r.years;
  month_days = r.month_days;
  weeks = r.weeks;
  weekdays = r.weekdays;
  are_years = all_such names_years is_years only_years (filter names_years p) r.years (filtered names_years p) r.are_years;
  are_month_days = all_such names_month_days is_month_days only_month_days (filter names_month_days p) r.month_days
      (filtered names_month_days p) r.are_month_days;
  are_weeks = all_such names_weeks is_weeks only_weeks (filter names_weeks p) r.weeks (filtered names_weeks p) r.are_weeks;
  are_weekdays = all_weekdays (filter names_weekdays p) r.weekdays (filtered names_weekdays p) r.are_weekdays;
  kinds = r.kinds;
}

writable_rules : (l : Link) (p : List Piece) (rules : List Rule) → is_fallback l ≡ false → NoneFallsBack p → AreRules l p rules
    → AreWritable rules
writable_rules l p rules kept none (AreRules.last k q rule all one is e) =
    subst AreWritable (sym e) (writable_rule k q rule kept is, record {})
writable_rules l p rules kept none (AreRules.another k next o q r rule others all e one is f more) =
    let behind = none_behind q (piece.Rule next ∷ r) (subst NoneFallsBack e none) in
    subst AreWritable (sym f) (writable_rule k q rule kept is, writable_rules next r others behind.0 behind.1 more)

begin_anew : (p : List Piece) (rules : List Rule) → AreRules link.Instead p rules → BeginAnew rules
begin_anew p rules (AreRules.last k q rule all one is e) = subst BeginAnew (sym e) is.link
begin_anew p rules (AreRules.another k next o q r rule others all e one is f more) = subst BeginAnew (sym f) is.link

pub can_be_written : (text : List ℕ) (hours : Hours) → StandsFor text hours → IsWritable hours
can_be_written text hours s = record {
  first = begin_anew s.p hours.rules.items s.rules;
  rules = writable_rules link.Instead s.p hours.rules.items refl (none_falls_back stage.Front s.p (kinds s.is.tokens) s.is.hours)
      s.rules;
}
