-- The pieces of a basic domain stand in an order of the grammar.
use Rattle.std.proofs.Common.{◌≡◌, ◌≢◌, ℕ, zero, suc, ◌+◌, ◌/◌, ◌%◌, ◌^◌, ◌<◌, ◌≤◌, Bool, true, false, cond, List, [], ◌∷◌}
use Rattle.std.proofs.Common.{◌++◌}
use Rattle.std.proofs.Common.{Option, Some, None, refl, sym, ap, subst, ◌∙◌, arith, append_assoc, ◌⊎◌, inl, inr}
use Rattle.std.specs.Prelude.{◌==◌, ◌&&◌, ◌||◌, not, IfSome}
use Rattle.std.proofs.lemmas.Bool.{false≢true, cases_order, eqb-false}
use Rattle.std.proofs.lemmas.List.{append-nil}
use Rattle.gtd_core.specs.Ranges.{HasSixDigits, IsDuration, IsPlace, IsStart, IsWithin}
use Rattle.gtd_core.specs.declared.duration.DurationParts.{DurationParts}
use Rattle.gtd_core.specs.declared.start.StartParts.{StartParts}
use Rattle.gtd_ends.specs.Anchors.{anchor_from, anchor_of, has_clock, is_given}
use Rattle.gtd_ends.specs.Endings.{ending, is_all_day, is_written, usual}
use Rattle.gtd_ends.specs.Ends.{IsEnd}
use Rattle.gtd_ends.specs.declared.anchor.Anchor.{Anchor}
use Rattle.gtd_ends.specs.declared.anchor.Anchor.TheVariants.{Beginning, Day, EveryDay, Place, PlaceBack, TheMonday, Weekdays}
use Rattle.gtd_ends.specs.declared.end.End.{End}
use Rattle.gtd_ends.specs.declared.end.End.TheVariants.{Clock, Date, Weekday, WithDate, WithFebruary, WithWeekday}
use Rattle.gtd_phrases.specs.Grammar.{Group, First, Later, NoMonth, AfterHour, AfterMinute, AfterMinuteAnd, AfterSecondOf}
use Rattle.gtd_phrases.specs.Grammar.{AfterEndHour, AfterEnd, AfterEndDay, IsEndLine, IsIn, IsLine, condition_phrases}
use Rattle.gtd_phrases.specs.Grammar.{days_alone}
use Rattle.gtd_phrases.specs.Grammar.{each, end_phrases, ends_alone, first_phrases, later_alone, members, next}
use Rattle.gtd_phrases.specs.Grammar.{no_month_phrases}
use Rattle.gtd_phrases.specs.Grammar.{of_flags, of_places, of_units}
use Rattle.gtd_phrases.specs.Pieces.{figures_of}
use Rattle.gtd_phrases.specs.Ranges.{AreWritten, IsWritten}
use Rattle.gtd_languages.specs.declared.word.Counted.TheVariants.{AtMinute, AtSecond, DaysLater, EndHour, EndMinute}
use Rattle.gtd_languages.specs.declared.word.Counted.TheVariants.{EndSecond, FromHour, FromMinute, FromMinuteAnd}
use Rattle.gtd_languages.specs.declared.word.Counted.TheVariants.{FromSecond, FromSecondOf, InWeek, OfHour, OfYear}
use Rattle.gtd_languages.specs.declared.word.Counted.TheVariants.{SecondOfEveryHour, YearAlone}
use Rattle.gtd_languages.specs.declared.word.Fixed.TheVariants.{AllDay, EachDay, EveryYear, FromBeginning, Included}
use Rattle.gtd_languages.specs.declared.word.Fixed.TheVariants.{NextDay, OfEachMonth, Sharp, WholeMinute}
use Rattle.gtd_phrases.specs.declared.phrase.Phrase.{Phrase}
use Rattle.gtd_phrases.specs.declared.phrase.Phrase.TheVariants.{Also, BackOf, BeginningOf, DateOf, DateOfEach, DaysOf, Lasting}
use Rattle.gtd_phrases.specs.declared.phrase.Phrase.TheVariants.{MondayOf, Numbered, OfMonth, PlaceOf, Said, UntilDate}
use Rattle.gtd_phrases.specs.declared.phrase.Phrase.TheVariants.{UntilFebruary, UntilHour, UntilWeekday}
use Rattle.gtd_phrases.specs.declared.phrase.Piece.{Piece}
use Rattle.gtd_languages.specs.declared.word.Role.{Role}
use Rattle.gtd_languages.specs.declared.word.Role.TheVariants.{From, If, On}
use Rattle.gtd_languages.specs.declared.word.Unit.{Unit as TimeUnit}
use Rattle.gtd_languages.specs.declared.word.Unit.TheVariants.{Days, Hours, Minutes, Months, Seconds, Weeks, Years}
use Rattle.gtd_words.specs.Durations.{clock_sum, date_pieces, date_sum, duration_pieces, number_pieces, time_pieces}
use Rattle.gtd_words.specs.Starts.{also_back, also_place, also_weekdays, anchor_pieces, back_condition, clock_pieces}
use Rattle.gtd_words.specs.Starts.{condition_pieces, count, month_pieces, period_pieces, place_condition, place_month, role_of}
use Rattle.gtd_words.specs.Starts.{say, start_pieces, week_pieces, weekdays_condition, year_pieces}
use Rattle.gtd_words.specs.Untils.{day_after, minute_of_end, rest_pieces, tail_pieces, until_pieces}
use Rattle.gtd_words.specs.Words.{basic_pieces}

-- ---- phrases that may stand in a place

pub in_left : (p : Phrase) (xs ys : List Phrase) → IsIn p xs → IsIn p (xs ++ ys)
in_left p [] ys i = absurd i
in_left p (x ∷ xs) ys (inl same) = inl same
in_left p (x ∷ xs) ys (inr i) = inr (in_left p xs ys i)

pub in_right : (p : Phrase) (xs ys : List Phrase) → IsIn p ys → IsIn p (xs ++ ys)
in_right p [] ys i = i
in_right p (x ∷ xs) ys i = inr (in_right p xs ys i)

later_number : (n k : ℕ) → n ≤ k → (k ≡ n → ⊥) → suc n ≤ k
later_number n k low other = by_order (cases_order k n)
  where
    by_order : (k ≡ n) ⊎ ((k < n) ⊎ (n < k)) → suc n ≤ k
    by_order (inl e) = absurd (other e)
    by_order (inr (inl less)) = absurd (omega (arith, low, less))
    by_order (inr (inr more)) = omega (arith, more)

pub in_each : (f : ℕ → Phrase) (n count k : ℕ) → n ≤ k → k < n + count → IsIn (f k) (each f n count)
in_each f n zero k low high = absurd (omega (arith, low, high))
in_each f n (suc count) k low high =
    by_order (cases_order k n) (λ more. in_each f (suc n) count k more (omega (arith, high)))
  where
    by_order : (k ≡ n) ⊎ ((k < n) ⊎ (n < k)) → (suc n ≤ k → IsIn (f k) (each f (suc n) count))
        → IsIn (f k) (f n ∷ each f (suc n) count)
    by_order (inl e) more = inl (ap (λ (x : ℕ). f x) e)
    by_order (inr (inl less)) more = absurd (omega (arith, low, less))
    by_order (inr (inr after)) more = inr (more (omega (arith, after)))

pub in_places : (f : ℕ → ℕ → Phrase) (n count k w : ℕ) → n ≤ k → k < n + count → 1 ≤ w → w ≤ 7 → IsIn (f k w)
    (of_places f n count)
in_places f n zero k w low high lw hw = absurd (omega (arith, low, high))
in_places f n (suc count) k w low high lw hw =
    by_order (cases_order k n) (λ more. in_places f (suc n) count k w more (omega (arith, high)) lw hw)
  where
    by_order : (k ≡ n) ⊎ ((k < n) ⊎ (n < k)) → (suc n ≤ k → IsIn (f k w) (of_places f (suc n) count))
        → IsIn (f k w) (each (f n) 1 7 ++ of_places f (suc n) count)
    by_order (inl e) more =
        in_left (f k w) (each (f n) 1 7) (of_places f (suc n) count)
        (subst (λ (x : ℕ). IsIn (f x w) (each (f n) 1 7)) (sym e) (in_each (f n) 1 7 w lw (omega (arith, hw))))
    by_order (inr (inl less)) more = absurd (omega (arith, low, less))
    by_order (inr (inr after)) more = in_right (f k w) (each (f n) 1 7) (of_places f (suc n) count)
        (more (omega (arith, after)))

-- ---- the first phrase of a line

abbrev IsMonth : ℕ → Type 0
IsMonth m = (1 ≤ m) × (m ≤ 12)

abbrev pub IsAt : ℕ × ℕ → Type 0
IsAt place = (1 ≤ place.0) × (place.0 ≤ 5) × (1 ≤ place.1) × (place.1 ≤ 7)

flag_in : (f : Bool → Phrase) (b : Bool) → IsIn (f b) (of_flags f)
flag_in f true = inl refl
flag_in f false = inr (inl refl)

abbrev first_days : List Phrase
first_days = each (DaysOf On) 1 127 ++ each (DaysOf From) 1 127

abbrev first_backs : List Phrase
first_backs = of_places (BackOf On) 1 5 ++ (of_places (BackOf From) 1 5 ++ first_days)

abbrev first_places : List Phrase
first_places = of_places (PlaceOf On) 1 5 ++ (of_places (PlaceOf From) 1 5 ++ first_backs)

abbrev first_dates : List Phrase
first_dates = each (DateOf true) 1 12 ++ (each (DateOf false) 1 12 ++ first_places)

abbrev first_months : List Phrase
first_months = each BeginningOf 1 12 ++ first_dates

abbrev first_alone : List Phrase
first_alone = days_alone ++ first_months

abbrev first_mondays : List Phrase
first_mondays = of_flags MondayOf ++ first_alone

-- from the dates on
from_dates : (p : Phrase) → IsIn p first_dates → IsIn p first_phrases
from_dates p i = inr (inr (inr (inr (inr (inr (in_right p (each BeginningOf 1 12) first_dates i))))))

from_places : (p : Phrase) → IsIn p first_places → IsIn p first_phrases
from_places p i =
    from_dates p (in_right p (each (DateOf true) 1 12) (each (DateOf false) 1 12 ++ first_places)
    (in_right p (each (DateOf false) 1 12) first_places i))

from_backs : (p : Phrase) → IsIn p first_backs → IsIn p first_phrases
from_backs p i =
    from_places p (in_right p (of_places (PlaceOf On) 1 5) (of_places (PlaceOf From) 1 5 ++ first_backs)
    (in_right p (of_places (PlaceOf From) 1 5) first_backs i))

from_days : (p : Phrase) → IsIn p first_days → IsIn p first_phrases
from_days p i =
    from_backs p (in_right p (of_places (BackOf On) 1 5) (of_places (BackOf From) 1 5 ++ first_days)
    (in_right p (of_places (BackOf From) 1 5) first_days i))

date_in : (named : Bool) (m : ℕ) → IsMonth m → IsIn (DateOf named m) first_phrases
date_in true m h =
    from_dates (DateOf true m) (in_left (DateOf true m) (each (DateOf true) 1 12) (each (DateOf false) 1 12 ++ first_places)
    (in_each (DateOf true) 1 12 m h.0 (omega (arith, h.1))))
date_in false m h =
    from_dates (DateOf false m) (in_right (DateOf false m) (each (DateOf true) 1 12) (each (DateOf false) 1 12 ++ first_places)
    (in_left (DateOf false m) (each (DateOf false) 1 12) first_places
    (in_each (DateOf false) 1 12 m h.0 (omega (arith, h.1)))))

each_in : (named : Bool) → IsIn (DateOfEach named) first_phrases
each_in named = in_left (DateOfEach named) (of_flags DateOfEach) first_mondays (flag_in DateOfEach named)

monday_in : (named : Bool) → IsIn (MondayOf named) first_phrases
monday_in named =
    in_right (MondayOf named) (of_flags DateOfEach) first_mondays
    (in_left (MondayOf named) (of_flags MondayOf) first_alone (flag_in MondayOf named))

beginning_in : (m : ℕ) → IsMonth m → IsIn (BeginningOf m) first_phrases
beginning_in m h =
    inr (inr (inr (inr (inr (inr (in_left (BeginningOf m) (each BeginningOf 1 12) first_dates
    (in_each BeginningOf 1 12 m h.0 (omega (arith, h.1)))))))))

place_in : (named : Bool) (p : ℕ × ℕ) → IsAt p → IsIn (PlaceOf (role_of named) p.0 p.1) first_phrases
place_in true p h =
    from_places (PlaceOf On p.0 p.1) (in_left (PlaceOf On p.0 p.1) (of_places (PlaceOf On) 1 5)
    (of_places (PlaceOf From) 1 5 ++ first_backs)
    (in_places (PlaceOf On) 1 5 p.0 p.1 h.0 (omega (arith, h.1)) h.2 h.3))
place_in false p h =
    from_places (PlaceOf From p.0 p.1) (in_right (PlaceOf From p.0 p.1) (of_places (PlaceOf On) 1 5)
    (of_places (PlaceOf From) 1 5 ++ first_backs)
    (in_left (PlaceOf From p.0 p.1) (of_places (PlaceOf From) 1 5) first_backs
    (in_places (PlaceOf From) 1 5 p.0 p.1 h.0 (omega (arith, h.1)) h.2 h.3)))

back_in : (named : Bool) (p : ℕ × ℕ) → IsAt p → IsIn (BackOf (role_of named) p.0 p.1) first_phrases
back_in true p h =
    from_backs (BackOf On p.0 p.1) (in_left (BackOf On p.0 p.1) (of_places (BackOf On) 1 5)
    (of_places (BackOf From) 1 5 ++ first_days)
    (in_places (BackOf On) 1 5 p.0 p.1 h.0 (omega (arith, h.1)) h.2 h.3))
back_in false p h =
    from_backs (BackOf From p.0 p.1) (in_right (BackOf From p.0 p.1) (of_places (BackOf On) 1 5)
    (of_places (BackOf From) 1 5 ++ first_days)
    (in_left (BackOf From p.0 p.1) (of_places (BackOf From) 1 5) first_days
    (in_places (BackOf From) 1 5 p.0 p.1 h.0 (omega (arith, h.1)) h.2 h.3)))

days_in : (named : Bool) (w : ℕ) → w ≢ 0 → w < 128 → IsIn (DaysOf (role_of named) w) first_phrases
days_in true w some small =
    from_days (DaysOf On w) (in_left (DaysOf On w) (each (DaysOf On) 1 127) (each (DaysOf From) 1 127)
    (in_each (DaysOf On) 1 127 w (omega (arith, some)) (omega (arith, small))))
days_in false w some small =
    from_days (DaysOf From w) (in_right (DaysOf From w) (each (DaysOf On) 1 127) (each (DaysOf From) 1 127)
    (in_each (DaysOf From) 1 127 w (omega (arith, some)) (omega (arith, small))))

-- ---- later phrases

abbrev from_units : List Phrase
from_units = of_units Lasting ++ (of_units Also ++ (end_phrases ++ condition_phrases))

abbrev from_also : List Phrase
from_also = of_units Also ++ (end_phrases ++ condition_phrases)

pub alone_in : (p : Phrase) → IsIn p later_alone → IsIn p no_month_phrases
alone_in p i = in_left p later_alone from_units i

in_ends : (p : Phrase) → IsIn p (end_phrases ++ condition_phrases) → IsIn p no_month_phrases
in_ends p i =
    in_right p later_alone from_units (in_right p (of_units Lasting) from_also
    (in_right p (of_units Also) (end_phrases ++ condition_phrases) i))

unit_in : (f : TimeUnit → Phrase) (u : TimeUnit) → IsIn (f u) (of_units f)
unit_in f Years = inl refl
unit_in f Months = inr (inl refl)
unit_in f Weeks = inr (inr (inl refl))
unit_in f Days = inr (inr (inr (inl refl)))
unit_in f Hours = inr (inr (inr (inr (inl refl))))
unit_in f Minutes = inr (inr (inr (inr (inr (inl refl)))))
unit_in f Seconds = inr (inr (inr (inr (inr (inr (inl refl))))))

lasting_in : (u : TimeUnit) → IsIn (Lasting u) no_month_phrases
lasting_in u =
    in_right (Lasting u) later_alone from_units (in_left (Lasting u) (of_units Lasting) from_also (unit_in Lasting u))

also_in : (u : TimeUnit) → IsIn (Also u) no_month_phrases
also_in u =
    in_right (Also u) later_alone from_units (in_right (Also u) (of_units Lasting) from_also
    (in_left (Also u) (of_units Also) (end_phrases ++ condition_phrases) (unit_in Also u)))

end_in : (p : Phrase) → IsIn p end_phrases → IsIn p no_month_phrases
end_in p i = in_ends p (in_left p end_phrases condition_phrases i)

condition_in : (p : Phrase) → IsIn p condition_phrases → IsIn p no_month_phrases
condition_in p i = in_ends p (in_right p end_phrases condition_phrases i)

-- ---- lines

pub lifted : (P : List Piece) → IsLine NoMonth P → IsLine Later P
lifted [] h = tt
lifted (p ∷ P) h = (in_right p.phrase (each OfMonth 1 12) no_month_phrases h.0, h.1, h.2)

-- a phrase after which all later ones may come
one_more : (p : Phrase) (n : ℕ) (R : List Piece) → IsIn p no_month_phrases → IsWritten (figures_of p) n → IsLine (next p) R
    → IsLine NoMonth (count p n ∷ R)
one_more p n R i h k = (i, h, k)

month_line : (m : Option ℕ) (R : List Piece) → IfSome m IsMonth → IsLine NoMonth R → IsLine Later (month_pieces m ++ R)
unfolding figures_of
month_line None R h k = lifted R k
month_line (Some m) R h k = (
  in_left (OfMonth m) (each OfMonth 1 12) no_month_phrases
      (in_each OfMonth 1 12 m h.0 (omega (arith, h.1))),
  refl,
  lifted R k,
)

place_month_line : (m : Option ℕ) (R : List Piece) → IfSome m IsMonth → IsLine NoMonth R → IsLine Later (place_month m ++ R)
unfolding figures_of
place_month_line None R h k = lifted (say (Said OfEachMonth) ∷ R) (alone_in (Said OfEachMonth) (inl refl), refl, lifted R k)
place_month_line (Some m) R h k = (
  in_left (OfMonth m) (each OfMonth 1 12) no_month_phrases
      (in_each OfMonth 1 12 m h.0 (omega (arith, h.1))),
  refl,
  lifted R k,
)

abbrev pub IsAnchor : Anchor → Type 0
IsAnchor (Day d) = d < 100
IsAnchor (Place p) = IsAt p
IsAnchor (PlaceBack p) = IsAt p
IsAnchor (Weekdays w) = (w ≢ 0) × (w < 128)
IsAnchor other = Unit {0}

anchor_line : (named : Bool) (m : Option ℕ) (a : Anchor) (R : List Piece) → IfSome m IsMonth → IsAnchor a → IsLine NoMonth R
    → IsLine First (anchor_pieces named m a ++ R)
unfolding figures_of
anchor_line named (Some m) (Day d) R h k r = (date_in named m h, omega (arith, k), lifted R r)
anchor_line named None (Day d) R h k r = (each_in named, omega (arith, k), lifted R r)
anchor_line named m (Place p) R h k r = (place_in named p k, refl, place_month_line m R h r)
anchor_line named m (PlaceBack p) R h k r = (back_in named p k, refl, place_month_line m R h r)
anchor_line named m (Weekdays w) R h k r = (days_in named w k.0 k.1, refl, month_line m R h r)
anchor_line named m EveryDay R h k r = (inr (inr (inr (inr (inl refl)))), refl, month_line m R h r)
anchor_line named m TheMonday R h k r = (monday_in named, refl, month_line m R h r)
anchor_line named (Some m) Beginning R h k r = (beginning_in m h, refl, r)
anchor_line named None Beginning R h k r = (inr (inr (inr (inr (inr (inl refl))))), refl, r)

week_line : (w : Option ℕ) (R : List Piece) → IfSome w (λ n. n < 100) → IsLine NoMonth R → IsLine NoMonth (week_pieces w ++ R)
unfolding figures_of
week_line None R h r = r
week_line (Some w) R h r = (alone_in (Numbered InWeek) (inr (inr (inl refl))), omega (arith, h), lifted R r)

year_line : (m w : Bool) (y : Option ℕ) (R : List Piece) → IfSome y (λ n. n ≤ 9999) → IsLine NoMonth R
    → IsLine NoMonth (year_pieces m w y ++ R)
unfolding figures_of
year_line true true (Some y) R h r = (alone_in (Numbered OfYear) (inr (inr (inr (inr (inl refl))))), h, lifted R r)
year_line true false (Some y) R h r = (alone_in (Numbered YearAlone) (inr (inr (inr (inl refl)))), h, lifted R r)
year_line false w (Some y) R h r = (alone_in (Numbered OfYear) (inr (inr (inr (inr (inl refl))))), h, lifted R r)
year_line true w None R h r = (alone_in (Said EveryYear) (inr (inl refl)), refl, lifted R r)
year_line false true None R h r = (alone_in (Said EveryYear) (inr (inl refl)), refl, lifted R r)
year_line false false None R h r = r

abbrev back_conditions : List Phrase
back_conditions = of_places (BackOf If) 1 5 ++ each (DaysOf If) 1 127

also_place_line : (x : Option (ℕ × ℕ)) (R : List Piece) → IfSome x IsAt → IsLine NoMonth R → IsLine NoMonth (also_place x ++ R)
unfolding figures_of
also_place_line None R h r = r
also_place_line (Some p) R h r = (
  condition_in (PlaceOf If p.0 p.1) (in_left (PlaceOf If p.0 p.1) (of_places (PlaceOf If) 1 5) back_conditions
      (in_places (PlaceOf If) 1 5 p.0 p.1 h.0 (omega (arith, h.1)) h.2 h.3)),
  refl,
  lifted R r,
)

also_back_line : (x : Option (ℕ × ℕ)) (R : List Piece) → IfSome x IsAt → IsLine NoMonth R → IsLine NoMonth (also_back x ++ R)
unfolding figures_of
also_back_line None R h r = r
also_back_line (Some p) R h r = (
  condition_in (BackOf If p.0 p.1) (in_right (BackOf If p.0 p.1) (of_places (PlaceOf If) 1 5) back_conditions
      (in_left (BackOf If p.0 p.1) (of_places (BackOf If) 1 5) (each (DaysOf If) 1 127)
      (in_places (BackOf If) 1 5 p.0 p.1 h.0 (omega (arith, h.1)) h.2 h.3))),
  refl,
  lifted R r,
)

also_days_by : (b : Bool) (w : ℕ) (R : List Piece) → (w == 0) ≡ b → w < 128 → IsLine NoMonth R
    → IsLine NoMonth (cond b [] (say (DaysOf If w) ∷ []) ++ R)
unfolding figures_of
also_days_by true w R e h r = r
also_days_by false w R e h r =
    let some = eqb-false w 0 e in (
      condition_in (DaysOf If w) (in_right (DaysOf If w) (of_places (PlaceOf If) 1 5) back_conditions
          (in_right (DaysOf If w) (of_places (BackOf If) 1 5) (each (DaysOf If) 1 127)
          (in_each (DaysOf If) 1 127 w (omega (arith, some)) (omega (arith, h))))),
      refl,
      lifted R r,
    )

place_line : (a : Anchor) (x : Option (ℕ × ℕ)) (R : List Piece) → IfSome x IsAt → IsLine NoMonth R
    → IsLine NoMonth (place_condition a x ++ R)
place_line (Day d) x R h r = also_place_line x R h r
place_line a x R h r = r

back_line : (a : Anchor) (x : Option (ℕ × ℕ)) (R : List Piece) → IfSome x IsAt → IsLine NoMonth R
    → IsLine NoMonth (back_condition a x ++ R)
back_line (Day d) x R h r = also_back_line x R h r
back_line (Place p) x R h r = also_back_line x R h r
back_line a x R h r = r

days_line : (a : Anchor) (w : ℕ) (R : List Piece) → w < 128 → IsLine NoMonth R → IsLine NoMonth (weekdays_condition a w ++ R)
days_line (Day d) w R h r = also_days_by (w == 0) w R refl h r
days_line (Place p) w R h r = also_days_by (w == 0) w R refl h r
days_line (PlaceBack p) w R h r = also_days_by (w == 0) w R refl h r
days_line a w R h r = r

abbrev IsClock : ℕ → Type 0
IsClock n = n < 100

from_hour : IsIn (Numbered FromHour) no_month_phrases
from_hour = alone_in (Numbered FromHour) (inr (inr (inr (inr (inr (inl refl))))))

time_line : (h m : ℕ) (b : Bool) (R : List Piece) → IsClock h → IsClock m → IsLine NoMonth R
    → IsLine NoMonth (count (Numbered FromHour) h ∷ count (Numbered AtMinute) m
    ∷ (cond b (say (Said Sharp)) (say (Said WholeMinute)) ∷ R))
unfolding figures_of
time_line h m true R p q r = (from_hour, p, (inl refl, q, (inr (inl refl), refl, lifted R r)))
time_line h m false R p q r = (from_hour, p, (inl refl, q, (inl refl, refl, lifted R r)))

clock_line : (h m s : Option ℕ) (R : List Piece) → IfSome h IsClock → IfSome m IsClock → IfSome s IsClock → IsLine NoMonth R
    → IsLine NoMonth (clock_pieces h m s ++ R)
unfolding figures_of
clock_line None None None R p q t r = r
clock_line (Some h) None None R p q t r = time_line h 0 false R p (omega arith) r
clock_line (Some h) (Some m) None R p q t r = time_line h m (m == 0) R p q r
clock_line (Some h) (Some m) (Some s) R p q t r = (from_hour, p, (inl refl, q, (inr (inr (inl refl)), t, lifted R r)))
clock_line (Some h) None (Some s) R p q t r = (
  alone_in (Numbered FromSecondOf) (inr (inr (inr (inr (inr (inr (inr (inr (inr (inl refl)))))))))),
  omega (arith, t),
  (inl refl, omega (arith, p), lifted R r),
)
clock_line None (Some m) None R p q t r =
    (alone_in (Numbered FromMinute) (inr (inr (inr (inr (inr (inr (inl refl))))))), omega (arith, q), lifted R r)
clock_line None (Some m) (Some s) R p q t r = (
  alone_in (Numbered FromMinuteAnd) (inr (inr (inr (inr (inr (inr (inr (inl refl)))))))),
  omega (arith, q),
  (inl refl, omega (arith, t), lifted R r),
)
clock_line None None (Some s) R p q t r =
    (alone_in (Numbered FromSecond) (inr (inr (inr (inr (inr (inr (inr (inr (inl refl))))))))), omega (arith, t), lifted R r)

-- ---- ends

abbrev ends_after_hours : List Phrase
ends_after_hours =
    of_flags UntilFebruary ++ (each (UntilWeekday true) 1 7 ++ (each (UntilWeekday false) 1 7 ++ (each (UntilDate true) 1 12
    ++ each (UntilDate false) 1 12)))

hour_end_in : (after : Bool) → IsIn (UntilHour after) end_phrases
hour_end_in after = in_left (UntilHour after) (of_flags UntilHour) ends_after_hours (flag_in UntilHour after)

february_in : (after : Bool) → IsIn (UntilFebruary after) end_phrases
february_in true = inr (inr (inl refl))
february_in false = inr (inr (inr (inl refl)))

weekday_end_in : (after : Bool) (w : ℕ) → 1 ≤ w → w ≤ 7 → IsIn (UntilWeekday after w) end_phrases
weekday_end_in true w low high =
    inr (inr (inr (inr (in_left (UntilWeekday true w) (each (UntilWeekday true) 1 7)
    (each (UntilWeekday false) 1 7 ++ (each (UntilDate true) 1 12 ++ each (UntilDate false) 1 12))
    (in_each (UntilWeekday true) 1 7 w low (omega (arith, high)))))))
weekday_end_in false w low high =
    inr (inr (inr (inr (in_right (UntilWeekday false w) (each (UntilWeekday true) 1 7)
    (each (UntilWeekday false) 1 7 ++ (each (UntilDate true) 1 12 ++ each (UntilDate false) 1 12))
    (in_left (UntilWeekday false w) (each (UntilWeekday false) 1 7) (each (UntilDate true) 1 12 ++ each (UntilDate false) 1 12)
    (in_each (UntilWeekday false) 1 7 w low (omega (arith, high))))))))

date_end_in : (after : Bool) (m : ℕ) → 1 ≤ m → m ≤ 12 → IsIn (UntilDate after m) end_phrases
date_end_in true m low high =
    inr (inr (inr (inr (in_right (UntilDate true m) (each (UntilWeekday true) 1 7)
    (each (UntilWeekday false) 1 7 ++ (each (UntilDate true) 1 12 ++ each (UntilDate false) 1 12))
    (in_right (UntilDate true m) (each (UntilWeekday false) 1 7) (each (UntilDate true) 1 12 ++ each (UntilDate false) 1 12)
    (in_left (UntilDate true m) (each (UntilDate true) 1 12) (each (UntilDate false) 1 12)
    (in_each (UntilDate true) 1 12 m low (omega (arith, high)))))))))
date_end_in false m low high =
    inr (inr (inr (inr (in_right (UntilDate false m) (each (UntilWeekday true) 1 7)
    (each (UntilWeekday false) 1 7 ++ (each (UntilDate true) 1 12 ++ each (UntilDate false) 1 12))
    (in_right (UntilDate false m) (each (UntilWeekday false) 1 7) (each (UntilDate true) 1 12 ++ each (UntilDate false) 1 12)
    (in_right (UntilDate false m) (each (UntilDate true) 1 12) (each (UntilDate false) 1 12)
    (in_each (UntilDate false) 1 12 m low (omega (arith, high)))))))))

days_after_by : (b c : Bool) (d : ℕ) → d < 2 ^ 64
    → IsLine AfterEnd (cond b [] (cond c (say (Said NextDay)) (count (Numbered DaysLater) d) ∷ []))
unfolding figures_of
days_after_by true c d h = tt
days_after_by false true d h = (inr (inl refl), refl, tt)
days_after_by false false d h = (inr (inr (inl refl)), h, tt)

minute_line : (b : Bool) (m s : ℕ) (R : List Piece) → m < 100 → s < 100 → IsLine AfterEnd R
    → IsLine AfterEndHour (count (Numbered EndMinute) m ∷ cond b [] (count (Numbered EndSecond) s ∷ []) ++ R)
unfolding figures_of
minute_line true m s R p q r = (inl refl, p, r)
minute_line false m s R p q r = (inl refl, p, (inl refl, q, r))

end_minute_line : (t : ℕ) (R : List Piece) → IsLine AfterEnd R → IsLine AfterEndHour (minute_of_end t ++ R)
end_minute_line t R r = minute_line (t % 60 == 0) (t / 60 % 60) (t % 60) R (omega arith) (omega arith) r

end_minute_alone : (t : ℕ) → IsLine AfterEndHour (minute_of_end t)
end_minute_alone t =
    subst (λ (P : List Piece). IsLine AfterEndHour P) (append-nil (minute_of_end t)) (end_minute_line t [] tt)

-- what follows the first phrase of an end
abbrev pub RestLine : List Piece → Type 0
RestLine [] = ⊥
RestLine (p ∷ P) = IsIn p.phrase end_phrases × IsWritten (figures_of p.phrase) p.number × IsLine (next p.phrase) P

pub until_line : (after : Bool) (end : End) → IsEnd end → RestLine (until_pieces after end)
unfolding until_pieces figures_of
until_line after (Clock end) h = (
  hour_end_in after,
  omega (arith, h.1),
  end_minute_line end.1 (day_after end.0)
      (days_after_by (end.0 == 0) (end.0 == 1) end.0 h.0),
)
until_line after (Weekday end) h =
    (weekday_end_in after end.0 h.0 h.1, refl, (inr (inl refl), omega (arith, h.2), end_minute_alone end.1))
until_line after (WithWeekday end) h = (weekday_end_in after end h.0 h.1, refl, (inl refl, refl, tt))
until_line after (Date end) h =
    (date_end_in after end.0 h.0 h.1, omega (arith, h.2), (inr (inl refl), omega (arith, h.3), end_minute_alone end.2))
until_line after (WithDate end) h = (date_end_in after end.0 h.0 h.1, omega (arith, h.2), (inl refl, refl, tt))
until_line after WithFebruary h = (february_in after, refl, tt)

pub line_of_rest : (P : List Piece) → RestLine P → IsLine NoMonth P
line_of_rest [] h = absurd h
line_of_rest (p ∷ P) h = (end_in p.phrase h.0, h.1, h.2)

pub alone_ends : (end : End) → IsEnd end → IsEndLine (until_pieces false end)
unfolding until_pieces figures_of
alone_ends (Clock end) h = (
  inl refl,
  omega (arith, h.1),
  end_minute_line end.1 (day_after end.0)
      (days_after_by (end.0 == 0) (end.0 == 1) end.0 h.0),
)
alone_ends (Weekday end) h = (
  inr (inr (in_left (UntilWeekday false end.0) (each (UntilWeekday false) 1 7) (each (UntilDate false) 1 12)
      (in_each (UntilWeekday false) 1 7 end.0 h.0 (omega (arith, h.1))))),
  refl,
  (inr (inl refl), omega (arith, h.2), end_minute_alone end.1),
)
alone_ends (WithWeekday end) h = (
  inr (inr (in_left (UntilWeekday false end) (each (UntilWeekday false) 1 7) (each (UntilDate false) 1 12)
      (in_each (UntilWeekday false) 1 7 end h.0 (omega (arith, h.1))))),
  refl,
  (inl refl, refl, tt),
)
alone_ends (Date end) h = (
  inr (inr (in_right (UntilDate false end.0) (each (UntilWeekday false) 1 7) (each (UntilDate false) 1 12)
      (in_each (UntilDate false) 1 12 end.0 h.0 (omega (arith, h.1))))),
  omega (arith, h.2),
  (inr (inl refl), omega (arith, h.3), end_minute_alone end.2),
)
alone_ends (WithDate end) h = (
  inr (inr (in_right (UntilDate false end.0) (each (UntilWeekday false) 1 7) (each (UntilDate false) 1 12)
      (in_each (UntilDate false) 1 12 end.0 h.0 (omega (arith, h.1))))),
  omega (arith, h.2),
  (inl refl, refl, tt),
)
alone_ends WithFebruary h = (inr (inl refl), refl, tt)

-- ---- durations

number_by : (b c : Bool) (n : ℕ) (u : TimeUnit) (R : List Piece) → n < 2 ^ 64 → IsLine NoMonth R
    → IsLine NoMonth (cond b [] (cond c (count (Lasting u) n) (count (Also u) n) ∷ []) ++ R)
unfolding figures_of
number_by true c n u R h r = r
number_by false true n u R h r = (lasting_in u, h, lifted R r)
number_by false false n u R h r = (also_in u, h, lifted R r)

number_line : (b n : ℕ) (u : TimeUnit) (R : List Piece) → n < 2 ^ 64 → IsLine NoMonth R → IsLine NoMonth
    (number_pieces b n u ++ R)
number_line b n u R h r = number_by (n == 0) (b == 0) n u R h r

six : (n : ℕ) → n ≤ 999999 → n < 2 ^ 64
six n h = omega (arith, h)

flat : (a b c d e f g r : List Piece) → a ++ b ++ c ++ d ++ (e ++ f ++ g) ++ r
    ≡ a ++ (b ++ (c ++ (d ++ (e ++ (f ++ (g ++ r))))))
flat a b c d e f g r = simp append_assoc

numbers_line : (d : DurationParts) (R : List Piece) → HasSixDigits d → IsLine NoMonth R
    → IsLine NoMonth (date_pieces d ++ time_pieces d ++ R)
unfolding date_pieces time_pieces
numbers_line d R h r =
    subst (λ (P : List Piece). IsLine NoMonth P)
    (sym (flat (number_pieces 0 d.years Years) (number_pieces d.years d.months Months)
    (number_pieces (d.years + d.months) d.weeks Weeks) (number_pieces (d.years + d.months + d.weeks) d.days Days)
    (number_pieces (date_sum d) d.hours Hours) (number_pieces (date_sum d + d.hours) d.minutes Minutes)
    (number_pieces (date_sum d + d.hours + d.minutes) d.seconds Seconds) R))
    (number_line 0 d.years Years _ (six d.years h.years)
    (number_line d.years d.months Months _ (six d.months h.months)
    (number_line (d.years + d.months) d.weeks Weeks _ (six d.weeks h.weeks)
    (number_line (d.years + d.months + d.weeks) d.days Days _ (six d.days h.days)
    (number_line (date_sum d) d.hours Hours _ (six d.hours h.hours)
    (number_line (date_sum d + d.hours) d.minutes Minutes _ (six d.minutes h.minutes)
    (number_line (date_sum d + d.hours + d.minutes) d.seconds Seconds R (six d.seconds h.seconds) r)))))))

duration_by : (b : Bool) (d : DurationParts) (R : List Piece) → HasSixDigits d → IsLine NoMonth R
    → IsLine NoMonth (cond b (count (Lasting Seconds) 0 ∷ []) (date_pieces d ++ time_pieces d) ++ R)
unfolding figures_of
duration_by true d R h r = (lasting_in Seconds, omega arith, lifted R r)
duration_by false d R h r = numbers_line d R h r

pub duration_line : (d : DurationParts) (R : List Piece) → HasSixDigits d → IsLine NoMonth R
    → IsLine NoMonth (duration_pieces d ++ R)
unfolding duration_pieces
duration_line d R h r = duration_by (date_sum d + clock_sum d == 0) d R h r

-- ---- what follows a start

end_by : (b : Bool) (d : DurationParts) (end : End) → HasSixDigits d → IsEnd end
    → IsLine NoMonth (cond b (until_pieces false end) (duration_pieces d ++ until_pieces true end))
end_by true d end h k = line_of_rest (until_pieces false end) (until_line false end k)
end_by false d end h k =
    duration_line d (until_pieces true end) h (line_of_rest (until_pieces true end) (until_line true end k))

tail_line : (x : StartParts) (d : DurationParts) (o : Option End) → HasSixDigits d → IfSome o IsEnd
    → IsLine NoMonth (tail_pieces x d o)
tail_line x d None h k =
    subst (λ (P : List Piece). IsLine NoMonth P) (append-nil (duration_pieces d)) (duration_line d [] h tt)
tail_line x d (Some end) h k = end_by (is_written d (usual x end)) d end h k

rest_by : (b : Bool) (x : StartParts) (d : DurationParts) → HasSixDigits d → IfSome (ending x d) IsEnd
    → IsLine NoMonth (cond b (say (Said AllDay) ∷ []) (tail_pieces x d (ending x d)))
unfolding figures_of
rest_by true x d h k =
    (alone_in (Said AllDay) (inr (inr (inr (inr (inr (inr (inr (inr (inr (inr (inl refl))))))))))), refl, tt)
rest_by false x d h k = tail_line x d (ending x d) h k

rest_line : (x : StartParts) (d : DurationParts) → HasSixDigits d → IfSome (ending x d) IsEnd → IsLine NoMonth (rest_pieces x d)
unfolding rest_pieces
rest_line x d h k = rest_by (is_all_day x d) x d h k

-- ---- starts

below : (low high most : ℕ) (x : Option ℕ) → high < most → IsWithin low high x → IfSome x (λ n. n < most)
below low high most None h p = tt
below low high most (Some n) h p = let k = p.1 in omega (arith, h, k)

month_within : (x : Option ℕ) → IsWithin 1 12 x → IfSome x IsMonth
month_within None h = tt
month_within (Some m) h = (h.0, h.1)

year_within : (x : Option ℕ) → IsWithin 0 9999 x → IfSome x (λ n. n ≤ 9999)
year_within None h = tt
year_within (Some y) h = h.1

at_within : (x : Option (ℕ × ℕ)) → IsPlace x → IfSome x IsAt
at_within None h = tt
at_within (Some p) h = h

pub anchor_ranges : (d : Option ℕ) (f l : Option (ℕ × ℕ)) (w : ℕ) (c k : Bool) → IfSome d (λ n. n < 100) → IfSome f IsAt
    → IfSome l IsAt → w < 128 → IsAnchor (anchor_from d f l w c k)
anchor_ranges (Some d) f l w c k pd pf pl small = pd
anchor_ranges None (Some f) l w c k pd pf pl small = pf
anchor_ranges None None (Some l) w c k pd pf pl small = pl
anchor_ranges None None None w c k pd pf pl small = by_days (w == 0) refl c k
  where
    by_days : (b : Bool) → (w == 0) ≡ b → (c k : Bool)
        → IsAnchor (cond b (cond c EveryDay (cond k TheMonday Beginning)) (Weekdays w))
    by_days false e c k = (eqb-false w 0 e, small)
    by_days true e true k = tt
    by_days true e false true = tt
    by_days true e false false = tt

four : (a b c d r : List Piece) → a ++ b ++ c ++ d ++ r ≡ a ++ (b ++ (c ++ (d ++ r)))
four a b c d r = simp append_assoc

three : (a b c r : List Piece) → a ++ b ++ c ++ r ≡ a ++ (b ++ (c ++ r))
three a b c r = simp append_assoc

period_line : (x : StartParts) (R : List Piece) → IsStart x → IsLine NoMonth R → IsLine NoMonth (period_pieces x ++ R)
unfolding period_pieces
period_line x R h r =
    subst (λ (P : List Piece). IsLine NoMonth P)
    (sym (append_assoc (week_pieces x.week) (year_pieces (is_given x.month) (is_given x.week) x.year) R))
    (week_line x.week _ (below 1 53 100 x.week (omega arith) h.week)
    (year_line (is_given x.month) (is_given x.week) x.year R (year_within x.year h.year) r))

conditions_line : (a : Anchor) (x : StartParts) (R : List Piece) → IsStart x → IsLine NoMonth R
    → IsLine NoMonth (condition_pieces a x ++ R)
unfolding condition_pieces
conditions_line a x R h r =
    subst (λ (P : List Piece). IsLine NoMonth P)
    (sym (three (place_condition a x.nth) (back_condition a x.nth_back) (weekdays_condition a x.weekdays) R))
    (place_line a x.nth _ (at_within x.nth h.nth)
    (back_line a x.nth_back _ (at_within x.nth_back h.nth_back)
    (days_line a x.weekdays R h.weekdays r)))

start_line : (named : Bool) (x : StartParts) (R : List Piece) → IsStart x → IsLine NoMonth R
    → IsLine First (start_pieces named x ++ R)
unfolding start_pieces anchor_of
start_line named x R h r =
    let a = anchor_of x in
    subst (λ (P : List Piece). IsLine First P)
    (sym (four (anchor_pieces named x.month a) (period_pieces x) (condition_pieces a x)
    (clock_pieces x.hour x.minute x.second) R))
    (anchor_line named x.month a _ (month_within x.month h.month)
    (anchor_ranges x.day x.nth x.nth_back x.weekdays (has_clock x) (is_given x.week) (below 1 31 100 x.day (omega arith) h.day)
    (at_within x.nth h.nth) (at_within x.nth_back h.nth_back) h.weekdays)
    (period_line x _ h (conditions_line a x _ h
    (clock_line x.hour x.minute x.second R (below 0 23 100 x.hour (omega arith) h.hour)
    (below 0 59 100 x.minute (omega arith) h.minute) (below 0 59 100 x.second (omega arith) h.second) r))))

-- The numbers of each end are in their ranges.
abbrev pub InRange : Type 0
InRange = (start : StartParts) (duration : DurationParts) → IsStart start → IsDuration duration
    → IfSome (ending start duration) IsEnd

pub basic_line : InRange → (x : StartParts) (d : DurationParts) → IsStart x → IsDuration d → IsLine First (basic_pieces x d)
unfolding basic_pieces
basic_line ends x d h k =
    start_line (has_clock x || is_all_day x d) x (rest_pieces x d) h (rest_line x d k.0 (ends x d h k))

written : (g : Group) (P : List Piece) → IsLine g P → AreWritten P
written g [] h = tt
written g (p ∷ P) h = (h.1, written (next p.phrase) P h.2)

pub basic_written : InRange → (x : StartParts) (d : DurationParts) → IsStart x → IsDuration d → AreWritten (basic_pieces x d)
basic_written ends x d h k = written First (basic_pieces x d) (basic_line ends x d h k)
