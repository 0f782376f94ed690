-- A piece is the same selectors and times, whichever of them are taken.
use Rattle.std.proofs.Common.{◌≡◌, ℕ, ◌+◌, ◌≤◌, Bool, true, false, List, [], ◌∷◌, ◌++◌, Option, Some, None, refl, sym, ap}
use Rattle.std.proofs.Common.{subst, ◌∙◌, arith}
use Rattle.gtd_hours.specs.Ranges.{IsMovable}
use Rattle.gtd_hours.specs.declared.hours.MonthDay.{MonthDay}
use Rattle.gtd_hours.specs.declared.hours.Selector.{Selector}
use Rattle.gtd_hours.specs.declared.hours.Selector.TheVariants as selector
use Rattle.gtd_hours.specs.declared.hours.TimeRange.{TimeRange}
use Rattle.gtd_hours.specs.declared.hours.WeekdayPlace.{WeekdayPlace}
use Rattle.gtd_hours.specs.declared.hours.YearDate.{YearDate}
use Rattle.gtd_hours.specs.declared.places.MovedPlace.{MovedPlace}
use Rattle.gtd_hours_parts.specs.declared.digits.Digits.{Digits}
use Rattle.gtd_hours_parts.specs.declared.piece.LastDate.{LastDate}
use Rattle.gtd_hours_parts.specs.declared.piece.Offset.{Offset}
use Rattle.gtd_hours_parts.specs.declared.piece.Piece.{Piece}
use Rattle.gtd_hours_parts.specs.declared.piece.Piece.TheVariants as piece
use Rattle.gtd_hours_parts.specs.declared.piece.WrittenDate.{WrittenDate}
use Rattle.gtd_hours_text.specs.Standing.{AllSelectors, AllTimes, AreDates, ArePlaces, AreSelectors, IsMonthDay, IsPlace}
use Rattle.gtd_hours_text.specs.Standing.{AllWeekdays, AreMoved, CanMove, IsMoved, IsSelector, IsYearDate, offset_in}
use Rattle.gtd_hours_text.specs.facts.SameParts.{same_dated, same_dates, same_month_day, same_months, same_moved, same_place}
use Rattle.gtd_hours_text.specs.facts.SameParts.{same_times}
use Rattle.gtd_hours_text.specs.facts.SameParts.{same_weekdays, same_weeks, same_year_date, same_years}

one_month_day : (x y : MonthDay) (month day : ℕ) → IsMonthDay x month day → IsMonthDay y month day → x ≡ y
one_month_day x y month day h k = same_month_day x y (h.0 ∙ sym k.0) (h.1 ∙ sym k.1)

one_year_date : (x y : YearDate) (year month day : ℕ) → IsYearDate x year month day → IsYearDate y year month day → x ≡ y
one_year_date x y year month day h k = same_year_date x y (h.0 ∙ sym k.0) (h.1 ∙ sym k.1) (h.2 ∙ sym k.2)

one_dates : (year : Option Digits) (first : WrittenDate) (last : Option LastDate) (x y : Selector) → AreDates year first last x
    → AreDates year first last y → x ≡ y
one_dates None first last (selector.Dates x) (selector.Dates y) h k =
    ap selector.Dates (same_dates x y (one_month_day x.first y.first _ _ h.0 k.0) (one_month_day x.last y.last _ _ h.1 k.1))
one_dates None first last (selector.Dates x) y h k = absurd k
one_dates (Some year) first last (selector.Dated x) (selector.Dated y) h k =
    ap selector.Dated (same_dated x y (one_year_date x.first y.first _ _ _ h.0 k.0) (one_year_date x.last y.last _ _ _ h.1 k.1))
one_dates (Some year) first last (selector.Dated x) y h k = absurd k
one_dates year first last x y h k = absurd h

one_selector : (p : Piece) (x y : Selector) → IsSelector p x → IsSelector p y → x ≡ y
one_selector (piece.Years a b c) (selector.Years x) (selector.Years y) h k =
    ap selector.Years (same_years x y (h.0 ∙ sym k.0) (h.1 ∙ sym k.1) (h.2 ∙ sym k.2))
one_selector (piece.Years a b c) (selector.Years x) y h k = absurd k
one_selector (piece.Months a b) (selector.Months x) (selector.Months y) h k =
    ap selector.Months (same_months x y (h.0 ∙ sym k.0) (h.1 ∙ sym k.1))
one_selector (piece.Months a b) (selector.Months x) y h k = absurd k
one_selector (piece.Dates a b) x y h k = one_dates a.year a b x y h k
one_selector (piece.Weeks a b c) (selector.Weeks x) (selector.Weeks y) h k =
    ap selector.Weeks (same_weeks x y (h.0 ∙ sym k.0) (h.1 ∙ sym k.1) (h.2 ∙ sym k.2))
one_selector (piece.Weeks a b c) (selector.Weeks x) y h k = absurd k
one_selector (piece.Weekdays a b) (selector.Weekdays x) (selector.Weekdays y) h k =
    ap selector.Weekdays (same_weekdays x y (h.0 ∙ sym k.0) (h.1 ∙ sym k.1))
one_selector (piece.Weekdays a b) (selector.Weekdays x) y h k = absurd k
one_selector (piece.PlaceBack a b) (selector.NthBack x) (selector.NthBack y) h k =
    ap selector.NthBack (same_place x y (h.0 ∙ sym k.0) (h.1 ∙ sym k.1))
one_selector (piece.PlaceBack a b) (selector.NthBack x) y h k = absurd k
one_selector p x y h k = absurd h

one_place : (weekday number : ℕ) (x y : Selector) → IsPlace weekday number x → IsPlace weekday number y → x ≡ y
one_place weekday number (selector.Nth x) (selector.Nth y) h k =
    ap selector.Nth (same_place x y (h.0 ∙ sym k.0) (h.1 ∙ sym k.1))
one_place weekday number (selector.Nth x) y h k = absurd k
one_place weekday number x y h k = absurd h

one_places : (weekday first last : ℕ) (xs ys : List Selector) → ArePlaces weekday first last xs
    → ArePlaces weekday first last ys → xs ≡ ys
one_places weekday first last xs ys (ArePlaces.past a b c lt e) (ArePlaces.past d g h more f) = e ∙ sym f
one_places weekday first last xs ys (ArePlaces.past a b c lt e) (ArePlaces.place d g x us h le f is go) =
    absurd (omega (arith))
one_places weekday first last xs ys (ArePlaces.place d g x us h le f is go) (ArePlaces.past a b c lt e) =
    absurd (omega (arith))
one_places weekday first last xs ys (ArePlaces.place a b x us c le e is go) (ArePlaces.place d g y vs h more f at rest) =
    e ∙ ap (λ (z : Selector). z ∷ us) (one_place weekday first x y is at)
    ∙ ap (λ (l : List Selector). y ∷ l) (one_places weekday (first + 1) last us vs go rest) ∙ sym f

pub one_list : (p : Piece) (xs ys : List Selector) → AreSelectors p xs → AreSelectors p ys → xs ≡ ys
one_list (piece.Places weekday first last) xs ys h k = one_places weekday first.value _ xs ys h k
one_list (piece.PlacesEnd offset) xs ys h k = h ∙ sym k
one_list p (x ∷ []) (y ∷ []) h k = ap (λ (z : Selector). z ∷ []) (one_selector p x y h k)
one_list p (x ∷ []) ys h k = absurd k
one_list p xs ys h k = absurd h

pub one_selectors : (p : List Piece) (xs ys : List Selector) → AllSelectors p xs → AllSelectors p ys → xs ≡ ys
one_selectors p xs ys (AllSelectors.none a b e f) (AllSelectors.none c d g h) = f ∙ sym h
one_selectors p xs ys (AllSelectors.none a b e f) (AllSelectors.more y c q us vs d g h are go) = absurd cc
one_selectors p xs ys (AllSelectors.more y c q us vs d g h are go) (AllSelectors.none a b e f) = absurd cc
one_selectors p xs ys (AllSelectors.more x a q us vs b e f are go) (AllSelectors.more y c r ws zs d g h too rest) =
    let all : x ∷ q ≡ y ∷ r = sym e ∙ g in
    let head : x ≡ y = cc in
    let tail : q ≡ r = cc in
    let first : us ≡ ws = one_list y us ws (subst (λ (o : Piece). AreSelectors o us) head are) too in
    let later : vs ≡ zs = one_selectors q vs zs go (subst (λ (o : List Piece). AllSelectors o zs) (sym tail) rest) in
    f ∙ ap (λ (o : List Selector). o ++ vs) first ∙ ap (λ (o : List Selector). ws ++ o) later ∙ sym h

-- ---- weekdays, as offsets move them

can_move : (o : Offset) (back : Bool) (x : WeekdayPlace) (y : MovedPlace) → 1 ≤ y.days → y.place ≡ x → y.is_back ≡ back
    → y.days ≡ o.days.value → y.is_before ≡ o.is_before → CanMove o back x.number
can_move o back x y some place same days before = (
  subst (λ (n : ℕ). 1 ≤ n) days some,
  subst (λ (b : Bool). IsMovable x.number back o.days.value b) before
      (subst (λ (n : ℕ). IsMovable x.number back n y.is_before) days
      (subst (λ (b : Bool). IsMovable x.number b y.days y.is_before) same
      (subst (λ (z : WeekdayPlace). IsMovable z.number y.is_back y.days y.is_before) place y.in_range))),
)

two_moved : (x : WeekdayPlace) (o : Offset) (back : Bool) (y z : MovedPlace) → y.place ≡ x → y.is_back ≡ back
    → y.days ≡ o.days.value → y.is_before ≡ o.is_before → z.place ≡ x → z.is_back ≡ back → z.days ≡ o.days.value
    → z.is_before ≡ o.is_before → selector.Moved y ≡ selector.Moved z
two_moved x o back y z a b d e f g h k = ap selector.Moved (same_moved y z (a ∙ sym f) (b ∙ sym g) (d ∙ sym h) (e ∙ sym k))

front_moved : (o : Offset) (x : WeekdayPlace) (y z : Selector) → IsMoved (Some o) (selector.Nth x) y
    → IsMoved (Some o) (selector.Nth x) z → y ≡ z
front_moved o x (selector.Moved y) (selector.Moved z) h k =
    two_moved x o false y z h.1 h.2 h.3 h.4 k.1 k.2 k.3 k.4
front_moved o x (selector.Moved y) z h k = absurd (k.1 (can_move o false x y h.0 h.1 h.2 h.3 h.4))
front_moved o x y (selector.Moved z) h k = absurd (h.1 (can_move o false x z k.0 k.1 k.2 k.3 k.4))
front_moved o x y z h k = sym h.0 ∙ k.0

back_moved : (o : Offset) (x : WeekdayPlace) (y z : Selector) → IsMoved (Some o) (selector.NthBack x) y
    → IsMoved (Some o) (selector.NthBack x) z → y ≡ z
back_moved o x (selector.Moved y) (selector.Moved z) h k =
    two_moved x o true y z h.1 h.2 h.3 h.4 k.1 k.2 k.3 k.4
back_moved o x (selector.Moved y) z h k = absurd (k.1 (can_move o true x y h.0 h.1 h.2 h.3 h.4))
back_moved o x y (selector.Moved z) h k = absurd (h.1 (can_move o true x z k.0 k.1 k.2 k.3 k.4))
back_moved o x y z h k = sym h.0 ∙ k.0

one_moved : (o : Option Offset) (x y z : Selector) → IsMoved o x y → IsMoved o x z → y ≡ z
one_moved (Some o) (selector.Nth x) y z h k = front_moved o x y z h k
one_moved (Some o) (selector.NthBack x) y z h k = back_moved o x y z h k
one_moved (Some o) x y z h k = sym h ∙ k
one_moved None x y z h k = sym h ∙ k

one_moved_list : (o : Option Offset) (us xs ys : List Selector) → AreMoved o us xs → AreMoved o us ys → xs ≡ ys
one_moved_list o [] [] [] h k = refl
one_moved_list o (u ∷ us) (x ∷ xs) (y ∷ ys) h k =
    ap (λ (z : Selector). z ∷ xs) (one_moved o u x y h.0 k.0)
    ∙ ap (λ (l : List Selector). y ∷ l) (one_moved_list o us xs ys h.1 k.1)
one_moved_list o [] [] (y ∷ ys) h k = absurd k
one_moved_list o (u ∷ us) (x ∷ xs) [] h k = absurd k
one_moved_list o us xs ys h k = absurd h

pub one_weekdays : (p : List Piece) (xs ys : List Selector) → AllWeekdays p xs → AllWeekdays p ys → xs ≡ ys
one_weekdays p xs ys (AllWeekdays.none a b e f) (AllWeekdays.none c d g h) = f ∙ sym h
one_weekdays p xs ys (AllWeekdays.none a b e f) (AllWeekdays.more y c q us ms vs d g h are at go) = absurd cc
one_weekdays p xs ys (AllWeekdays.more y c q us ms vs d g h are at go) (AllWeekdays.none a b e f) = absurd cc
one_weekdays p xs ys (AllWeekdays.more x a q us ms vs b e f are at go) (AllWeekdays.more y c r ws bs zs d g h too bt rest) =
    let all : x ∷ q ≡ y ∷ r = sym e ∙ g in
    let head : x ≡ y = cc in
    let tail : q ≡ r = cc in
    let first : us ≡ ws = one_list y us ws (subst (λ (o : Piece). AreSelectors o us) head are) too in
    let here : AreMoved (offset_in r) ws ms =
    subst (λ (l : List Selector). AreMoved (offset_in r) l ms) first
    (subst (λ (l : List Piece). AreMoved (offset_in l) us ms) tail at) in
    let moved : ms ≡ bs = one_moved_list (offset_in r) ws ms bs here bt in
    let later : vs ≡ zs = one_weekdays q vs zs go (subst (λ (o : List Piece). AllWeekdays o zs) (sym tail) rest) in
    f ∙ ap (λ (o : List Selector). o ++ vs) moved ∙ ap (λ (o : List Selector). bs ++ o) later ∙ sym h

-- ---- times

pub one_times : (p : List Piece) (xs ys : List TimeRange) → AllTimes p xs → AllTimes p ys → xs ≡ ys
one_times [] [] [] h k = refl
one_times [] [] ys h k = absurd k
one_times (piece.Times b l ∷ p) (x ∷ xs) (y ∷ ys) h k =
    ap (λ (z : TimeRange). z ∷ xs) (same_times x y (h.0 ∙ sym k.0) (h.1 ∙ sym k.1))
    ∙ ap (λ (l : List TimeRange). y ∷ l) (one_times p xs ys h.2 k.2)
one_times (piece.Times b l ∷ p) (x ∷ xs) ys h k = absurd k
one_times p xs ys h k = absurd h
