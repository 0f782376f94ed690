-- Pieces with numbers in range are selectors and times.
use Rattle.std.proofs.Common.{◌≡◌, ℕ, zero, suc, ◌+◌, ◌*◌, ◌<◌, ◌≤◌, Bool, true, false, cond, List, [], ◌∷◌, ◌++◌, length}
use Rattle.std.proofs.Common.{inl, inr, ℤ, pos, Option, Some, None, refl, sym, ap, subst, arith, length-append}
use Rattle.std.specs.Prelude.{◌≤ℤ◌, ◌<ℤ◌, ◌+ℤ◌, ◌⊎◌, IfSome}
use Rattle.std.specs.List.{filter}
use Rattle.std.proofs.lemmas.Bool.{cases_lt}
use Rattle.std.proofs.lemmas.Int.{ints}
use Rattle.gtd_hours.specs.Calendar.{day_number}
use Rattle.gtd_hours.specs.Ranges.{IsMovable, IsWeekday}
use Rattle.gtd_hours.specs.declared.hours.MonthDay.{MonthDay}
use Rattle.gtd_hours.specs.declared.hours.Selector.{Selector}
use Rattle.gtd_hours.specs.declared.hours.Selector.TheVariants as selector
use Rattle.gtd_hours.specs.declared.hours.TimeRange.{TimeRange}
use Rattle.gtd_hours.specs.declared.hours.YearDate.{YearDate}
use Rattle.gtd_hours_parts.specs.Dates.{EndsOn, IsDayOfYear, IsWrittenDay, last_year}
use Rattle.gtd_hours_parts.specs.Numbers.{IsOffsetNumber}
use Rattle.gtd_hours_parts.specs.Times.{minute_of}
use Rattle.gtd_hours_parts.specs.declared.digits.Digits.{Digits}
use Rattle.gtd_hours_parts.specs.Pieces.{IsDay, IsLastDay}
use Rattle.gtd_hours_parts.specs.SoundPieces.{ArePieces, IsPiece}
use Rattle.gtd_hours_parts.specs.declared.piece.LastDate.{LastDate}
use Rattle.gtd_hours_parts.specs.declared.piece.LastDate.TheVariants as last_date
use Rattle.gtd_hours_parts.specs.declared.piece.Offset.{Offset}
use Rattle.gtd_hours_parts.specs.declared.piece.Piece.{Piece}
use Rattle.gtd_hours_parts.specs.declared.piece.Piece.TheVariants as piece
use Rattle.gtd_hours_parts.specs.declared.piece.WrittenDate.{WrittenDate}
use Rattle.gtd_hours_text.specs.Standing.{AllSelectors, AllTimes, AllWeekdays, AreDates, AreMoved, ArePlaces, AreSelectors}
use Rattle.gtd_hours_text.specs.Standing.{CanMove, IsMoved, names_month_days, offset_in}
use Rattle.gtd_hours_text.specs.Standing.{names_times, names_weekdays, names_weeks, names_years, year_or}

-- the selectors that a piece is, at most five
record Some5 (x : Piece) : Type 0 where
  xs : List Selector
  are : AreSelectors x xs
  few : length xs ≤ 5

-- ---- dates

abbrev month_day : (m : ℕ) (n : Digits) → IsWrittenDay m n → MonthDay
month_day m n is = record { month = m; day = n.value; in_range = is.1 }

abbrev year_date : (y m : ℕ) (n : Digits) → IsDayOfYear y m n → YearDate
year_date y m n is = record { year = y; month = m; day = n.value; is_date = is.1 }

-- the last date of a range, where the first one has this year
abbrev EndsBy : Option Digits → WrittenDate → Option LastDate → Type 0
EndsBy y first None = Unit {0}
EndsBy y first (Some (last_date.Day n)) = IsLastDay y first.month first.day None first.month n
EndsBy y first (Some (last_date.Date x)) = IsLastDay y first.month first.day x.year x.month x.day

abbrev OneDate : Option Digits → WrittenDate → Option LastDate → Type 0
OneDate y first last = (x : Selector) × AreDates y first last x

no_year : (m : ℕ) (n : Digits) (y : Option Digits) (k : ℕ) (e : Digits) → IsLastDay None m n y k e → IsWrittenDay k e
no_year m n None k e h = h
no_year m n (Some y) k e h = absurd h

with_year : (f : Digits) (m : ℕ) (n : Digits) (y : Option Digits) (k : ℕ) (e : Digits) → IsLastDay (Some f) m n y k e
    → EndsOn f.value m n.value (year_or (last_year f.value m n.value k e.value) y) k e
with_year f m n None k e h = h
with_year f m n (Some y) k e h = h.1

same_day : (n : ℤ) → (n ≤ℤ n) × (n <ℤ (n +ℤ pos 36600))
same_day n = (omega (arith, ints), omega (arith, ints))

each_year : (first : WrittenDate) (last : Option LastDate) → IsWrittenDay first.month first.day → EndsBy None first last
    → OneDate None first last
each_year first None is ends =
    let x = month_day first.month first.day is in
    (selector.Dates (record { first = x; last = x }), ((refl, refl), (refl, refl)))
each_year first (Some (last_date.Day n)) is ends = (
  selector.Dates (record { first = month_day first.month first.day is; last = month_day first.month n ends }),
  ((refl, refl), (refl, refl)),
)
each_year first (Some (last_date.Date x)) is ends = (
  selector.Dates (record {
    first = month_day first.month first.day is;
    last = month_day x.month x.day (no_year first.month first.day x.year x.month x.day ends);
  }),
  ((refl, refl), (refl, refl)),
)

of_year : (y : Digits) (first : WrittenDate) (last : Option LastDate) → IsDayOfYear y.value first.month first.day
    → EndsBy (Some y) first last → OneDate (Some y) first last
of_year y first None is ends =
    let x = year_date y.value first.month first.day is in (
      selector.Dated (record {
        first = x;
        last = x;
        in_range = same_day (day_number (pos y.value) first.month first.day.value);
      }),
      ((refl, refl, refl), (refl, refl, refl)),
    )
of_year y first (Some (last_date.Day n)) is ends = (
  selector.Dated (record {
    first = year_date y.value first.month first.day is;
    last = year_date (last_year y.value first.month first.day.value first.month n.value) first.month n ends.0;
    in_range = ends.1;
  }),
  ((refl, refl, refl), (refl, refl, refl)),
)
of_year y first (Some (last_date.Date x)) is ends =
    let on = with_year y first.month first.day x.year x.month x.day ends in (
      selector.Dated (record {
        first = year_date y.value first.month first.day is;
        last = year_date (year_or (last_year y.value first.month first.day.value x.month x.day.value) x.year) x.month x.day on.0;
        in_range = on.1;
      }),
      ((refl, refl, refl), (refl, refl, refl)),
    )

one_date : (y : Option Digits) (first : WrittenDate) (last : Option LastDate) → IsDay y first.month first.day
    → EndsBy y first last → OneDate y first last
one_date None first last is ends = each_year first last is ends
one_date (Some y) first last is ends = of_year y first last is ends

-- ---- places

abbrev nth : (k n : ℕ) → IsWeekday k → 1 ≤ n → n ≤ 5 → Selector
nth k n is low high = selector.Nth (record { weekday = k; number = n; in_range = (is, low, high) })

record PlacesFrom (k first last most : ℕ) : Type 0 where
  xs : List Selector
  are : ArePlaces k first last xs
  few : length xs ≤ most

places : (most k first last : ℕ) → IsWeekday k → 1 ≤ first → last ≤ 5 → last < first + most → PlacesFrom k first last most
places zero k first last is low high near =
    record { xs = []; are = ArePlaces.past first last [] (omega (arith, near)) refl; few = omega arith }
places (suc most) k first last is low high near = elim (cases_lt last first) [
  | inl past ↦ record { xs = []; are = ArePlaces.past first last [] past refl; few = omega arith }
  | inr here ↦
      let x = nth k first is low (omega (arith, here, high)) in
      let more = places most k (first + 1) last is (omega arith) high (omega (arith, near)) in
      record {
        xs = x ∷ more.xs;
        are = ArePlaces.place first last x more.xs (x ∷ more.xs) here refl (refl, refl) more.are;
        few = (let few = more.few in omega (arith, few));
      }
]

-- ---- selectors

one : (x : Piece) (s : Selector) → AreSelectors x (s ∷ []) → Some5 x
one x s are = record { xs = s ∷ []; are = are; few = omega arith }

years_of : (x : Piece) → names_years x ≡ true → IsPiece x → Some5 x
years_of (piece.Years a None None) e h =
    one (piece.Years a None None) (selector.Years (record {
      first = a.value;
      last = a.value;
      step = 1;
      in_range = (h.1, omega arith, h.2, omega arith, omega arith);
    })) (refl, refl, refl)
years_of (piece.Years a None (Some c)) e h = absurd h
years_of (piece.Years a (Some b) None) e h =
    one (piece.Years a (Some b) None) (selector.Years (record {
      first = a.value;
      last = b.value;
      step = 1;
      in_range = (h.0.0.1, h.0.2, h.0.1.2, omega arith, omega arith);
    })) (refl, refl, refl)
years_of (piece.Years a (Some b) (Some c)) e h =
    one (piece.Years a (Some b) (Some c)) (selector.Years (record {
      first = a.value;
      last = b.value;
      step = c.value;
      in_range = (h.0.0.1, h.0.2, h.0.1.2, h.1.2, h.1.3);
    })) (refl, refl, refl)
years_of x e h = absurd cc

month_days_of : (x : Piece) → names_month_days x ≡ true → IsPiece x → Some5 x
month_days_of (piece.Months m None) e h =
    one (piece.Months m None) (selector.Months (record { first = m; last = m; first_in = h.0; last_in = h.0 })) (refl, refl)
month_days_of (piece.Months m (Some l)) e h =
    one (piece.Months m (Some l)) (selector.Months (record { first = m; last = l; first_in = h.0; last_in = h.1 })) (refl, refl)
month_days_of (piece.Dates first None) e h =
    let x = one_date first.year first None h.1 (record {}) in one (piece.Dates first None) x.0 x.1
month_days_of (piece.Dates first (Some (last_date.Day n))) e h =
    let x = one_date first.year first (Some (last_date.Day n)) h.0.1 h.1 in
    one (piece.Dates first (Some (last_date.Day n))) x.0 x.1
month_days_of (piece.Dates first (Some (last_date.Date l))) e h =
    let x = one_date first.year first (Some (last_date.Date l)) h.0.1 h.1 in
    one (piece.Dates first (Some (last_date.Date l))) x.0 x.1
month_days_of x e h = absurd cc

weeks_of : (x : Piece) → names_weeks x ≡ true → IsPiece x → Some5 x
weeks_of (piece.Weeks a None None) e h =
    one (piece.Weeks a None None) (selector.Weeks (record {
      first = a.value;
      last = a.value;
      step = 1;
      in_range = (h.2, omega arith, h.3, omega arith, omega arith);
    })) (refl, refl, refl)
weeks_of (piece.Weeks a None (Some c)) e h = absurd h
weeks_of (piece.Weeks a (Some b) None) e h =
    one (piece.Weeks a (Some b) None) (selector.Weeks (record {
      first = a.value;
      last = b.value;
      step = 1;
      in_range = (h.0.0.2, h.0.2, h.0.1.3, omega arith, omega arith);
    })) (refl, refl, refl)
weeks_of (piece.Weeks a (Some b) (Some c)) e h =
    one (piece.Weeks a (Some b) (Some c)) (selector.Weeks (record {
      first = a.value;
      last = b.value;
      step = c.value;
      in_range = (h.0.0.2, h.0.2, h.0.1.3, h.1.2, h.1.3);
    })) (refl, refl, refl)
weeks_of x e h = absurd cc

weekdays_of : (x : Piece) → names_weekdays x ≡ true → IsPiece x → Some5 x
weekdays_of (piece.Weekdays k None) e h =
    one (piece.Weekdays k None) (selector.Weekdays (record { first = k; last = k; first_in = h.0; last_in = h.0 })) (refl, refl)
weekdays_of (piece.Weekdays k (Some l)) e h =
    one (piece.Weekdays k (Some l)) (selector.Weekdays (record { first = k; last = l; first_in = h.0; last_in = h.1 }))
    (refl, refl)
weekdays_of (piece.Places k a None) e h =
    let low = h.1.1 in let high = h.1.2 in
    let all = places 5 k a.value a.value h.0 low high (omega arith) in
    record { xs = all.xs; are = all.are; few = all.few }
weekdays_of (piece.Places k a (Some b)) e h =
    let low = h.1.0.1 in let high = h.1.1.2 in
    let all = places 5 k a.value b.value h.0 low high (omega (arith, low, high)) in
    record { xs = all.xs; are = all.are; few = all.few }
weekdays_of (piece.PlaceBack k n) e h =
    one (piece.PlaceBack k n) (selector.NthBack (record { weekday = k; number = n.value; in_range = (h.0, h.1.1, h.1.2) }))
    (refl, refl)
weekdays_of (piece.PlacesEnd o) e h = record { xs = []; are = refl; few = omega arith }
weekdays_of x e h = absurd cc

-- ---- all pieces of a kind

pub record Several (names : Piece → Bool) (p : List Piece) : Type 0 where
  pub xs : List Selector
  pub are : AllSelectors (filter names p) xs
  pub few : length xs ≤ 5 * length p

add : (names : Piece → Bool) (x : Piece) (p : List Piece) (b : Bool) → names x ≡ b
    → (names x ≡ true → Some5 x) → Several names p → Several names (x ∷ p)
add names x p true e make more =
    let first = make e in
    record {
      xs = first.xs ++ more.xs;
      are = subst (λ (l : List Piece). AllSelectors l (first.xs ++ more.xs))
          (ap (λ (b : Bool). cond b (x ∷ filter names p) (filter names p)) (sym e))
          (AllSelectors.more x (x ∷ filter names p) (filter names p) first.xs more.xs (first.xs ++ more.xs) refl refl first.are
          more.are);
      few = (
          let a = first.few in
          let b = more.few in
          omega (arith, a, b, length-append first.xs more.xs)
          );
    }
add names x p false e make more = record {
  xs = more.xs;
  are = subst (λ (l : List Piece). AllSelectors l more.xs)
      (ap (λ (b : Bool). cond b (x ∷ filter names p) (filter names p)) (sym e)) more.are;
  few = (let b = more.few in omega (arith, b));
}

all_of : (names : Piece → Bool) → ((x : Piece) → names x ≡ true → IsPiece x → Some5 x) → (p : List Piece) → ArePieces p
    → Several names p
all_of names make [] are = record { xs = []; are = AllSelectors.none [] [] refl refl; few = omega arith }
all_of names make (x ∷ p) are =
    add names x p (names x) refl (λ e. make x e are.0) (all_of names make p are.1)

pub all_years : (p : List Piece) → ArePieces p → Several names_years p
all_years = all_of names_years years_of

pub all_month_days : (p : List Piece) → ArePieces p → Several names_month_days p
all_month_days = all_of names_month_days month_days_of

pub all_weeks : (p : List Piece) → ArePieces p → Several names_weeks p
all_weeks = all_of names_weeks weeks_of

-- ---- weekdays, as offsets move them

-- whether an offset moves a place
front_movable : (o : Offset) (n : ℕ) → IsOffsetNumber o.days → CanMove o false n ⊎ (CanMove o false n → ⊥)
front_movable o n is = elim (cases_lt 4 n) [
  | inl late ↦ inr (λ h. omega (arith, late, h.1.0))
  | inr early ↦ inl (is.2, (early, is.3, λ e. is.2, λ e f. absurd cc))
]

back_by : (before : Bool) (days n : ℕ) → 1 ≤ days → days ≤ 27
    → ((1 ≤ days) × IsMovable n true days before) ⊎ ((1 ≤ days) × IsMovable n true days before → ⊥)
back_by true days n some few = elim (cases_lt 28 (7 * n + days)) [
  | inl far ↦ inr (λ h. let near = h.1.3 refl refl in omega (arith, far, near))
  | inr near ↦ inl (some, (omega (arith, near, some), few, λ e. some, λ e f. near))
]
back_by false days n some few = elim (cases_lt 4 n) [
  | inl late ↦ inr (λ h. omega (arith, late, h.1.0))
  | inr early ↦ inl (some, (early, few, λ e. some, λ e f. absurd cc))
]

back_movable : (o : Offset) (n : ℕ) → IsOffsetNumber o.days → CanMove o true n ⊎ (CanMove o true n → ⊥)
back_movable o n is = back_by o.is_before o.days.value n is.2 is.3

abbrev Moves : Option Offset → Selector → Type 0
Moves o x = (y : Selector) × IsMoved o x y

moves : (o : Option Offset) (x : Selector) → IfSome o (λ (p : Offset). IsOffsetNumber p.days) → Moves o x
moves (Some o) (selector.Nth x) is = elim (front_movable o x.number is) [
  | inl can ↦ (
    selector.Moved (record {
      place = x;
      is_back = false;
      days = o.days.value;
      is_before = o.is_before;
      in_range = can.1;
    }),
    (can.0, refl, refl, refl, refl),
  )
  | inr never ↦ (selector.Nth x, (refl, never))
]
moves (Some o) (selector.NthBack x) is = elim (back_movable o x.number is) [
  | inl can ↦ (
    selector.Moved (record {
      place = x;
      is_back = true;
      days = o.days.value;
      is_before = o.is_before;
      in_range = can.1;
    }),
    (can.0, refl, refl, refl, refl),
  )
  | inr never ↦ (selector.NthBack x, (refl, never))
]
moves (Some o) x is = (x, refl)
moves None x is = (x, refl)

record MovesAll (o : Option Offset) (us : List Selector) : Type 0 where
  xs : List Selector
  are : AreMoved o us xs
  few : length xs ≤ length us

moves_all : (o : Option Offset) (us : List Selector) → IfSome o (λ (p : Offset). IsOffsetNumber p.days) → MovesAll o us
moves_all o [] is = record { xs = []; are = record {}; few = omega arith }
moves_all o (u ∷ us) is =
    let one = moves o u is in
    let more = moves_all o us is in
    record { xs = one.0 ∷ more.xs; are = (one.1, more.are); few = (let few = more.few in omega (arith, few)) }

-- the offset in pieces is in range
offset_sound : (p : List Piece) → ArePieces p
    → IfSome (offset_in (filter names_weekdays p)) (λ (o : Offset). IsOffsetNumber o.days)
offset_sound [] are = record {}
offset_sound (piece.PlacesEnd o ∷ p) are = are.0
offset_sound (piece.Weekdays k l ∷ p) are = offset_sound p are.1
offset_sound (piece.Places k a b ∷ p) are = offset_sound p are.1
offset_sound (piece.PlaceBack k n ∷ p) are = offset_sound p are.1
offset_sound (x ∷ p) are = offset_sound p are.1

pub record SomeWeekdays (p : List Piece) : Type 0 where
  pub xs : List Selector
  pub are : AllWeekdays (filter names_weekdays p) xs
  pub few : length xs ≤ 5 * length p

add_weekday : (x : Piece) (p : List Piece) (b : Bool) → names_weekdays x ≡ b → IsPiece x → ArePieces p → SomeWeekdays p
    → SomeWeekdays (x ∷ p)
add_weekday x p true e is are more =
    let first = weekdays_of x e is in
    let moved = moves_all (offset_in (filter names_weekdays p)) first.xs (offset_sound p are) in
    record {
      xs = moved.xs ++ more.xs;
      are = subst (λ (l : List Piece). AllWeekdays l (moved.xs ++ more.xs))
          (ap (λ (b : Bool). cond b (x ∷ filter names_weekdays p) (filter names_weekdays p)) (sym e))
          (AllWeekdays.more x (x ∷ filter names_weekdays p) (filter names_weekdays p) first.xs moved.xs more.xs
          (moved.xs ++ more.xs) refl refl first.are moved.are more.are);
      few = (
          let a = first.few in
          let b = more.few in
          let c = moved.few in
          omega (arith, a, b, c, length-append moved.xs more.xs)
          );
    }
add_weekday x p false e is are more = record {
  xs = more.xs;
  are = subst (λ (l : List Piece). AllWeekdays l more.xs)
      (ap (λ (b : Bool). cond b (x ∷ filter names_weekdays p) (filter names_weekdays p)) (sym e)) more.are;
  few = (let b = more.few in omega (arith, b));
}

pub all_weekdays : (p : List Piece) → ArePieces p → SomeWeekdays p
all_weekdays [] are = record { xs = []; are = AllWeekdays.none [] [] refl refl; few = omega arith }
all_weekdays (x ∷ p) are = add_weekday x p (names_weekdays x) refl are.0 are.1 (all_weekdays p are.1)

-- ---- times

pub record Times (p : List Piece) : Type 0 where
  pub xs : List TimeRange
  pub are : AllTimes (filter names_times p) xs
  pub few : length xs ≤ length p

no_time : (x : Piece) (p : List Piece) → names_times x ≡ false → Times p → Times (x ∷ p)
no_time x p e more = record {
  xs = more.xs;
  are = subst (λ (l : List Piece). AllTimes l more.xs)
      (ap (λ (b : Bool). cond b (x ∷ filter names_times p) (filter names_times p)) (sym e)) more.are;
  few = (let b = more.few in omega (arith, b));
}

pub all_times : (p : List Piece) → ArePieces p → Times p
all_times [] are = record { xs = []; are = record {}; few = omega arith }
all_times (piece.Times a b ∷ p) are =
    let more = all_times p are.1 in
    record {
      xs = record { begin = minute_of a; last = minute_of b; in_range = are.0.2 } ∷ more.xs;
      are = (refl, refl, more.are);
      few = (let few = more.few in omega (arith, few));
    }
all_times (x ∷ p) are = no_time x p refl (all_times p are.1)
