-- One part more in a draft.
use Rattle.std.proofs.Common.{Vec, Global, ◌≡◌, Bool, true, false, List, [], ◌∷◌, ◌++◌, refl, sym, ap, subst, ◌∙◌}
use Rattle.std.specs.List.{filter}
use Rattle.std.proofs.Common.{ℕ, Option, Some, None, Result, Ok, Err}
use Rattle.std.specs.Prelude.{IfOk}
use Rattle.std.specs.declared.alloc.AllocError.{AllocError}
use Rattle.gtd_hours.specs.declared.hours.Link.{Link}
use Rattle.gtd_hours.specs.declared.hours.WeekdayPlace.{WeekdayPlace}
use Rattle.gtd_hours.specs.declared.hours.Selector.{Selector}
use Rattle.gtd_hours.specs.declared.hours.Selector.TheVariants as selector
use Rattle.gtd_hours_parts.specs.Values.{AreDates, IsPartOf, IsSelector}
use Rattle.gtd_hours_parts.specs.declared.digits.Digits.{Digits}
use Rattle.gtd_hours_parts.specs.declared.days.Days.{Days}
use Rattle.gtd_hours_parts.specs.declared.part.Part.{Part}
use Rattle.gtd_hours_parts.specs.declared.part.Part.TheVariants as part
use Rattle.gtd_hours_parts.specs.declared.piece.LastDate.{LastDate}
use Rattle.gtd_hours_parts.specs.declared.piece.Offset.{Offset}
use Rattle.gtd_hours_parts.specs.declared.piece.WrittenDate.{WrittenDate}
use Rattle.gtd_hours.specs.declared.hours.TimeRange.{TimeRange}
use Rattle.gtd_hours_parts.specs.declared.clock.ClockTime.{ClockTime}
use Rattle.gtd_hours_parts.specs.declared.piece.Piece.{Piece}
use Rattle.gtd_hours_parts.specs.declared.piece.Piece.TheVariants as piece
use Rattle.gtd_hours_text.specs.declared.draft.Draft.{Draft}
use Rattle.gtd_hours_text.specs.Adding.{AddsMoved, AddsPlaces, AddsSelectors, AddsTimes}
use Rattle.gtd_hours_text.specs.Drafts.{AreWeekdays, IsAdded}
use Rattle.gtd_hours_text.specs.Standing.{AllSelectors, AllTimes, ArePlaces, AreSelectors, begins_rule, is_closed, is_one_rule}
use Rattle.gtd_hours_text.specs.Standing.{AreMoved, names_month_days, names_times, names_weekdays, names_weeks}
use Rattle.gtd_hours_text.specs.Standing.{names_years, offset_in}
use Rattle.gtd_hours_text.proofs.DraftLemmas.{kept, left, selectors_more, times_more, weekdays_end, weekdays_more}

-- a list has the selectors of the piece behind it, or nothing more
abbrev pub Grown : Bool → Piece → List Selector → List Selector → Type 0
Grown true x before after = AddsSelectors before x after
Grown false x before after = after ≡ before

grow : (is : Piece → Bool) (p : List Piece) (x : Piece) (before after : List Selector) (b : Bool) → is x ≡ b
    → AllSelectors (filter is p) before → Grown b x before after → AllSelectors (filter is (p ++ x ∷ [])) after
grow is p x before after true e all more =
    subst (λ (l : List Selector). AllSelectors (filter is (p ++ x ∷ [])) l) (sym more.all)
    (subst (λ (l : List Piece). AllSelectors l (before ++ more.xs)) (sym (kept is p x e))
    (selectors_more (filter is p) x before more.xs all more.are))
grow is p x before after false e all same =
    subst (λ (l : List Selector). AllSelectors (filter is (p ++ x ∷ [])) l) (sym same)
    (subst (λ (l : List Piece). AllSelectors l before) (sym (left is p x e)) all)

abbrev pub GrownTimes : Piece → List TimeRange → List TimeRange → Type 0
GrownTimes (piece.Times begin last) before after = AddsTimes before begin last after
GrownTimes x before after = after ≡ before

same_times : (p : List Piece) (x : Piece) (before after : List TimeRange) → names_times x ≡ false
    → AllTimes (filter names_times p) before → after ≡ before → AllTimes (filter names_times (p ++ x ∷ [])) after
same_times p x before after e all same =
    subst (λ (l : List TimeRange). AllTimes (filter names_times (p ++ x ∷ [])) l) (sym same)
    (subst (λ (l : List Piece). AllTimes l before) (sym (left names_times p x e)) all)

grow_times : (p : List Piece) (x : Piece) (before after : List TimeRange) → AllTimes (filter names_times p) before
    → GrownTimes x before after → AllTimes (filter names_times (p ++ x ∷ [])) after
grow_times p (piece.Times b l) before after all more =
    subst (λ (l2 : List TimeRange). AllTimes (filter names_times (p ++ piece.Times b l ∷ [])) l2) (sym more.all)
    (subst (λ (q : List Piece). AllTimes q (before ++ more.x ∷ [])) (sym (kept names_times p (piece.Times b l) refl))
    (times_more (filter names_times p) b l before more.x all (more.begins, more.ends, record {})))
grow_times p x before after all same = same_times p x before after refl all same

abbrev pub closes : Piece → Bool
closes piece.Closed = true
closes x = false

abbrev pub closed_by : Bool → Bool → Bool
closed_by true b = true
closed_by false b = b

closed_more : (p : List Piece) (x : Piece) → is_closed (p ++ x ∷ []) ≡ closed_by (closes x) (is_closed p)
closed_more [] piece.Closed = refl
closed_more [] x = refl
closed_more (piece.Closed ∷ p) piece.Closed = refl
closed_more (piece.Closed ∷ p) x = refl
closed_more (y ∷ p) x = closed_more p x

pub one_more : (p : List Piece) (x : Piece) → is_one_rule p ≡ true → begins_rule x ≡ false → is_one_rule (p ++ x ∷ []) ≡ true
one_more [] (piece.Rule l) e f = absurd cc
one_more [] x e f = refl
one_more (piece.Rule l ∷ p) x e f = absurd cc
one_more (y ∷ p) x e f = one_more p x e f

-- the weekdays of the pieces, and of one piece more
abbrev pub GrownWeekdays : Piece → Draft → Draft → Type 0
GrownWeekdays x draft then =
    (p : List Piece) → AreWeekdays (filter names_weekdays p) draft.weekdays.items draft.unmoved.items
    → AreWeekdays (filter names_weekdays (p ++ x ∷ [])) then.weekdays.items then.unmoved.items

no_weekday : (x : Piece) (ws us : List Selector) → names_weekdays x ≡ false → (p : List Piece)
    → AreWeekdays (filter names_weekdays p) ws us → AreWeekdays (filter names_weekdays (p ++ x ∷ [])) ws us
no_weekday x ws us e p are = subst (λ (l : List Piece). AreWeekdays l ws us) (sym (left names_weekdays p x e)) are

some_weekdays : (x : Piece) (ws us after : List Selector) → names_weekdays x ≡ true
    → ((rest : List Piece) → offset_in (x ∷ rest) ≡ offset_in rest) → AddsSelectors us x after → (p : List Piece)
    → AreWeekdays (filter names_weekdays p) ws us → AreWeekdays (filter names_weekdays (p ++ x ∷ [])) ws after
some_weekdays x ws us after e through adds p are =
    subst (λ (l : List Selector). AreWeekdays (filter names_weekdays (p ++ x ∷ [])) ws l) (sym adds.all)
    (subst (λ (l : List Piece). AreWeekdays l ws (us ++ adds.xs)) (sym (kept names_weekdays p x e))
    (weekdays_more (filter names_weekdays p) x ws us adds.xs through are adds.are))

pub added : (draft : Draft) (x : Piece) (then : Draft) → begins_rule x ≡ false
    → Grown (names_years x) x draft.years.items then.years.items
    → Grown (names_month_days x) x draft.month_days.items then.month_days.items
    → Grown (names_weeks x) x draft.weeks.items then.weeks.items
    → GrownWeekdays x draft then
    → GrownTimes x draft.times.items then.times.items → then.closed ≡ closed_by (closes x) draft.closed
    → then.link ≡ draft.link → IsAdded draft x then
added draft x then inside years month_days weeks weekdays times closed same = record {
  holds = λ p is. record {
    years = grow names_years p x draft.years.items then.years.items (names_years x) refl is.years years;
    month_days =
        grow names_month_days p x draft.month_days.items then.month_days.items (names_month_days x) refl is.month_days month_days;
    weeks = grow names_weeks p x draft.weeks.items then.weeks.items (names_weeks x) refl is.weeks weeks;
    weekdays = weekdays p is.weekdays;
    times = grow_times p x draft.times.items then.times.items is.times times;
    closed = closed ∙ ap (closed_by (closes x)) is.closed ∙ sym (closed_more p x);
    one = one_more p x is.one inside;
  };
  link = same;
}

abbrev with_years : Draft → Vec Selector Global → Draft
with_years draft years = record {
  link = draft.link;
  years = years;
  month_days = draft.month_days;
  weeks = draft.weeks;
  weekdays = draft.weekdays;
  unmoved = draft.unmoved;
  times = draft.times;
  closed = draft.closed;
}

pub years_added : (draft : Draft) (x : Piece) (years : Vec Selector Global) → names_years x ≡ true
    → AddsSelectors draft.years.items x years.items → IsAdded draft x (with_years draft years)
years_added draft (piece.Years a b d) v e adds =
    added draft (piece.Years a b d) (with_years draft v) refl adds refl refl
    (no_weekday (piece.Years a b d) draft.weekdays.items draft.unmoved.items refl) refl refl refl
years_added draft x v e adds = absurd cc

abbrev with_month_days : Draft → Vec Selector Global → Draft
with_month_days draft month_days = record {
  link = draft.link;
  years = draft.years;
  month_days = month_days;
  weeks = draft.weeks;
  weekdays = draft.weekdays;
  unmoved = draft.unmoved;
  times = draft.times;
  closed = draft.closed;
}

pub month_days_added : (draft : Draft) (x : Piece) (month_days : Vec Selector Global) → names_month_days x ≡ true
    → AddsSelectors draft.month_days.items x month_days.items → IsAdded draft x (with_month_days draft month_days)
month_days_added draft (piece.Months a b) v e adds =
    added draft (piece.Months a b) (with_month_days draft v) refl refl adds refl
    (no_weekday (piece.Months a b) draft.weekdays.items draft.unmoved.items refl) refl refl refl
month_days_added draft (piece.Dates a b) v e adds =
    added draft (piece.Dates a b) (with_month_days draft v) refl refl adds refl
    (no_weekday (piece.Dates a b) draft.weekdays.items draft.unmoved.items refl) refl refl refl
month_days_added draft x v e adds = absurd cc

abbrev with_weeks : Draft → Vec Selector Global → Draft
with_weeks draft weeks = record {
  link = draft.link;
  years = draft.years;
  month_days = draft.month_days;
  weeks = weeks;
  weekdays = draft.weekdays;
  unmoved = draft.unmoved;
  times = draft.times;
  closed = draft.closed;
}

pub weeks_added : (draft : Draft) (x : Piece) (weeks : Vec Selector Global) → names_weeks x ≡ true
    → AddsSelectors draft.weeks.items x weeks.items → IsAdded draft x (with_weeks draft weeks)
weeks_added draft (piece.Weeks a b d) v e adds =
    added draft (piece.Weeks a b d) (with_weeks draft v) refl refl refl adds
    (no_weekday (piece.Weeks a b d) draft.weekdays.items draft.unmoved.items refl) refl refl refl
weeks_added draft x v e adds = absurd cc

abbrev with_unmoved : Draft → Vec Selector Global → Draft
with_unmoved draft unmoved = record {
  link = draft.link;
  years = draft.years;
  month_days = draft.month_days;
  weeks = draft.weeks;
  weekdays = draft.weekdays;
  unmoved = unmoved;
  times = draft.times;
  closed = draft.closed;
}

-- brackets end with another offset than those before them
abbrev one_day : Offset
one_day = record { is_before = false; days = record { value = 1; count = 1 } }

two_offsets : (o : Option Offset) → ((p : Option Offset) → o ≡ p) → ⊥
two_offsets o same =
    let both : None ≡ Some one_day = sym (same None) ∙ same (Some one_day) in
    cc

pub weekdays_added : (draft : Draft) (x : Piece) (unmoved : Vec Selector Global) → names_weekdays x ≡ true
    → ((rest : List Piece) → offset_in (x ∷ rest) ≡ offset_in rest) → AddsSelectors draft.unmoved.items x unmoved.items
    → IsAdded draft x (with_unmoved draft unmoved)
weekdays_added draft (piece.Weekdays a b) v e through adds =
    added draft (piece.Weekdays a b) (with_unmoved draft v) refl refl refl refl
    (some_weekdays (piece.Weekdays a b) draft.weekdays.items draft.unmoved.items v.items refl through adds) refl refl refl
weekdays_added draft (piece.Places k a b) v e through adds =
    added draft (piece.Places k a b) (with_unmoved draft v) refl refl refl refl
    (some_weekdays (piece.Places k a b) draft.weekdays.items draft.unmoved.items v.items refl through adds) refl refl refl
weekdays_added draft (piece.PlaceBack k a) v e through adds =
    added draft (piece.PlaceBack k a) (with_unmoved draft v) refl refl refl refl
    (some_weekdays (piece.PlaceBack k a) draft.weekdays.items draft.unmoved.items v.items refl through adds) refl refl refl
weekdays_added draft (piece.PlacesEnd o) v e through adds = absurd (two_offsets o (λ other. through (piece.PlacesEnd other ∷ [])))
weekdays_added draft x v e through adds = absurd cc

-- the draft behind brackets
abbrev with_ended : Draft → Vec Selector Global → Vec Selector Global → Draft
with_ended draft weekdays unmoved = record {
  link = draft.link;
  years = draft.years;
  month_days = draft.month_days;
  weeks = draft.weeks;
  weekdays = weekdays;
  unmoved = unmoved;
  times = draft.times;
  closed = draft.closed;
}

end_weekdays : (o : Option Offset) (ws us after vs xs : List Selector) → after ≡ ws ++ xs → AreMoved o us xs → vs ≡ []
    → (p : List Piece) → AreWeekdays (filter names_weekdays p) ws us
    → AreWeekdays (filter names_weekdays (p ++ piece.PlacesEnd o ∷ [])) after vs
end_weekdays o ws us after vs xs all moved none p are =
    subst (λ (l : List Selector). AreWeekdays (filter names_weekdays (p ++ piece.PlacesEnd o ∷ [])) l vs) (sym all)
    (subst (λ (l : List Piece). AreWeekdays l (ws ++ xs) vs) (sym (kept names_weekdays p (piece.PlacesEnd o) refl))
    (weekdays_end (filter names_weekdays p) o ws us xs vs are moved none))

pub end_added : (draft : Draft) (days : Option Days) (weekdays unmoved : Vec Selector Global)
    → AddsMoved days draft.weekdays.items draft.unmoved.items weekdays.items → unmoved.items ≡ [] → (y : Piece)
    → IsPartOf (part.PlacesEnd days) y → IsAdded draft y (with_ended draft weekdays unmoved)
end_added draft days weekdays unmoved adds none (piece.PlacesEnd o) is =
    added draft (piece.PlacesEnd o) (with_ended draft weekdays unmoved) refl refl refl refl
    (end_weekdays o draft.weekdays.items draft.unmoved.items weekdays.items unmoved.items adds.xs adds.all (adds.are o is) none)
    refl refl refl
end_added draft days weekdays unmoved adds none y is = absurd is

abbrev with_times : Draft → Vec TimeRange Global → Draft
with_times draft times = record {
  link = draft.link;
  years = draft.years;
  month_days = draft.month_days;
  weeks = draft.weeks;
  weekdays = draft.weekdays;
  unmoved = draft.unmoved;
  times = times;
  closed = draft.closed;
}

pub times_added : (draft : Draft) (b l : ClockTime) (times : Vec TimeRange Global) → AddsTimes draft.times.items b l times.items
    → IsAdded draft (piece.Times b l) (with_times draft times)
times_added draft b l times adds =
    added draft (piece.Times b l) (with_times draft times) refl refl refl refl
    (no_weekday (piece.Times b l) draft.weekdays.items draft.unmoved.items refl) adds refl refl

abbrev now_closed : Draft → Draft
now_closed draft = record {
  link = draft.link;
  years = draft.years;
  month_days = draft.month_days;
  weeks = draft.weeks;
  weekdays = draft.weekdays;
  unmoved = draft.unmoved;
  times = draft.times;
  closed = true;
}

closed_added : (draft : Draft) → IsAdded draft piece.Closed (now_closed draft)
closed_added draft =
    added draft piece.Closed (now_closed draft) refl refl refl refl
    (no_weekday piece.Closed draft.weekdays.items draft.unmoved.items refl) refl refl refl

kind_added : (draft : Draft) → IsAdded draft piece.Kind draft
kind_added draft =
    added draft piece.Kind draft refl refl refl refl
    (no_weekday piece.Kind draft.weekdays.items draft.unmoved.items refl) refl refl refl

-- ---- what a part stands for

-- a piece that is one selector is no more than that
alone : (y : Piece) (x : Selector) → IsSelector y x → AreSelectors y (x ∷ [])
alone (piece.Places k a b) x is = absurd is
alone (piece.PlacesEnd o) x is = absurd is
alone y x is = is

pub one_selector : (before after : List Selector) (y : Piece) (x : Selector) → after ≡ before ++ x ∷ [] → IsSelector y x
    → AddsSelectors before y after
one_selector before after y x all is = record { xs = x ∷ []; all = all; are = alone y x is }

-- it ends no brackets
pub no_end : (y : Piece) (x : Selector) → IsSelector y x → (rest : List Piece) → offset_in (y ∷ rest) ≡ offset_in rest
no_end (piece.PlacesEnd o) x is rest = absurd is
no_end y x is rest = refl

-- which list a selector is put into
abbrev names_of : Selector → Piece → Bool
names_of (selector.Years x) y = names_years y
names_of (selector.Months x) y = names_month_days y
names_of (selector.Dates x) y = names_month_days y
names_of (selector.Dated x) y = names_month_days y
names_of (selector.Moving x) y = names_month_days y
names_of (selector.Yearly x) y = names_month_days y
names_of (selector.Weeks x) y = names_weeks y
names_of x y = names_weekdays y

dates_named : (a : WrittenDate) (b : Option LastDate) (year : Option Digits) (x : Selector) → AreDates year a b x
    → names_of x (piece.Dates a b) ≡ true
dates_named a b None (selector.Dates x) is = refl
dates_named a b (Some year) (selector.Dated x) is = refl
dates_named a b None x is = absurd is
dates_named a b (Some year) x is = absurd is

named : (y : Piece) (x : Selector) → IsSelector y x → names_of x y ≡ true
named (piece.Years a b d) (selector.Years x) is = refl
named (piece.Months a b) (selector.Months x) is = refl
named (piece.Dates a b) x is = dates_named a b a.year x is
named (piece.Weeks a b d) (selector.Weeks x) is = refl
named (piece.Weekdays a b) (selector.Weekdays x) is = refl
named (piece.PlaceBack k a) (selector.NthBack x) is = refl
named y x is = absurd is

abbrev pub IfNamed : (Piece → Bool) → Draft → Selector → Result Draft AllocError → Type 0
IfNamed names draft x result = IfOk result (λ then. (y : Piece) → names y ≡ true → IsSelector y x → IsAdded draft y then)

abbrev pub IfSelector : Draft → Selector → Result Draft AllocError → Type 0
IfSelector draft x result = IfOk result (λ then. (y : Piece) → IsSelector y x → IsAdded draft y then)

pub of_kind : (names : Piece → Bool) (draft : Draft) (x : Selector) (result : Result Draft AllocError)
    → ((y : Piece) → names_of x y ≡ names y) → IfNamed names draft x result → IfSelector draft x result
of_kind names draft x (Ok then) same h = λ y is. h y (sym (same y) ∙ named y x is) is
of_kind names draft x (Err e) same h = record {}

pub places_added : (draft : Draft) (x z : WeekdayPlace) (v : Vec Selector Global)
    → AddsPlaces draft.unmoved.items x.weekday x.number z.number v.items → (y : Piece) → IsPartOf (part.Places x z) y
    → IsAdded draft y (with_unmoved draft v)
places_added draft x z v adds (piece.Places k a b) is =
    let one = subst (λ (n : ℕ). ArePlaces n x.number z.number adds.xs) is.0.0 adds.are in
    let two = subst (λ (n : ℕ). ArePlaces k n z.number adds.xs) is.0.1 one in
    weekdays_added draft (piece.Places k a b) v refl (λ rest. refl) (record {
      xs = adds.xs;
      all = adds.all;
      are = subst (λ (n : ℕ). ArePlaces k a.value n adds.xs) is.1.1 two;
    })
places_added draft x z v adds y is = absurd is

pub range_added : (draft : Draft) (x : TimeRange) (v : Vec TimeRange Global) → v.items ≡ draft.times.items ++ x ∷ []
    → (y : Piece) → IsPartOf (part.Times x) y → IsAdded draft y (with_times draft v)
range_added draft x v all (piece.Times b l) is =
    times_added draft b l v (record { x = x; all = all; begins = is.0; ends = is.1 })
range_added draft x v all y is = absurd is

pub never_rule : (l : Link) (y : Piece) → IsPartOf (part.Rule l) y → begins_rule y ≡ false → ⊥
never_rule l (piece.Rule k) is e = cc
never_rule l y is e = is

pub kind_part : (draft : Draft) (y : Piece) → IsPartOf part.Kind y → IsAdded draft y draft
kind_part draft piece.Kind is = kind_added draft
kind_part draft y is = absurd is

pub closed_part : (draft : Draft) (y : Piece) → IsPartOf part.Closed y → IsAdded draft y (now_closed draft)
closed_part draft piece.Closed is = closed_added draft
closed_part draft y is = absurd is

-- a part that is no rule is no piece that begins one
pub no_rule : (x : Part) (y : Piece) → ((l : Link) → x ≡ part.Rule l → ⊥) → IsPartOf x y → begins_rule y ≡ false
no_rule (part.Rule l) y none is = absurd (none l refl)
no_rule part.Kind piece.Kind none is = refl
no_rule (part.Selector x) (piece.Rule l) none is = absurd is
no_rule (part.Selector x) y none is = refl
no_rule (part.Places x z) (piece.Places k a b) none is = refl
no_rule (part.PlacesEnd x) (piece.PlacesEnd o) none is = refl
no_rule (part.Times x) (piece.Times b l) none is = refl
no_rule part.Closed piece.Closed none is = refl
no_rule x y none is = absurd is
