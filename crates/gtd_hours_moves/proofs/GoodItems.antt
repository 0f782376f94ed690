-- Which moves are right that complete a part of a list.
use Rattle.std.proofs.Common.{◌≡◌, ◌≤◌, ℕ, Bool, true, false, Option, Some, None, List, ◌∷◌, IfSome, if◌then◌else◌}
use Rattle.std.proofs.Common.{refl, ap, subst, sym, arith, rules}
use Rattle.std.specs.Prelude.{nat_le, ◌==◌}
use Rattle.std.proofs.lemmas.Bool.{leb-false, leb-true}
use Rattle.gtd_hours.specs.Ranges.{IsMonth, IsWeekday}
use Rattle.gtd_hours_tokens.specs.declared.token.TokenKind.{TokenKind}
use Rattle.gtd_hours_tokens.specs.declared.token.TokenKind.TheVariants as token
use Rattle.gtd_hours_parts.specs.declared.clock.ClockTime.{ClockTime}
use Rattle.gtd_hours_parts.specs.declared.digits.Digits.{Digits}
use Rattle.gtd_hours_parts.specs.Numbers.{IsPlaceNumber, IsWeekNumber, IsYearNumber}
use Rattle.gtd_hours_parts.specs.declared.piece.LastDate.TheVariants as last_date
use Rattle.gtd_hours_parts.specs.declared.piece.Offset.{Offset}
use Rattle.gtd_hours_parts.specs.declared.piece.Piece.TheVariants as piece
use Rattle.gtd_hours_parts.specs.declared.piece.WrittenDate.{WrittenDate}
use Rattle.gtd_hours_moves.specs.declared.stage.Stage.TheVariants as stage
use Rattle.gtd_hours_moves.specs.declared.place.Place.TheVariants as places
use Rattle.gtd_hours_moves.specs.Grammar.{Demand, Follow, IsDates, IsMonthDays, IsPlaces, IsWeekdays, IsWeeks, IsYears, More}
use Rattle.gtd_hours_moves.specs.Places.{Behind, BehindDate, From, FromDate, Rest}
use Rattle.gtd_hours_parts.specs.declared.piece.LastDate.{LastDate}
use Rattle.gtd_hours.specs.declared.hours.Link.TheVariants as link
use Rattle.gtd_hours_moves.specs.facts.FollowDates.{end_month_is, end_year_is}
use Rattle.gtd_hours_moves.specs.Grammar.{begins_with_date, date_before, days_of_months, months_to, number, range_to, sign}
use Rattle.gtd_hours_parts.specs.Pieces.{AreBackWeeks, AreWrittenDates, EndsRange, IsDay, IsRange, IsWrittenDate}
use Rattle.gtd_hours_parts.specs.Pieces.{end_month, end_year}
use Rattle.gtd_hours_parts.specs.Pieces.{final_week, final_year, week_one}
use Rattle.gtd_hours_moves.specs.Sound.{Both, Fits, IsPlace, YearOrDay, YearOrListed, is_last_year}
use Rattle.gtd_hours_moves.specs.Moves.{back_reach, clock, dates_end, front_reach, offset_of, take, week_pair, written}
use Rattle.gtd_hours_moves.specs.Moves.{year_or_day, year_or_listed}
use Rattle.gtd_hours_moves.specs.facts.Reaching.{back_narrow, back_suits, front_narrow, front_suits}
use Rattle.gtd_hours_moves.specs.Terms.{Move, Piece, Place}
use Rattle.gtd_hours_moves.specs.Runs.{IsGood, from}
use Rattle.gtd_hours_moves.proofs.GoodLemmas.{behind, completes, gives, month_days_follow, sign_good, takes_to, token_good}
use Rattle.gtd_hours_moves.proofs.GoodLemmas.{years_follow}

-- ---- weeks

pub week_good : (n : Digits) (next : Option TokenKind) → IsWeekNumber n
    → IsGood (places.Week n) next (gives (piece.Weeks n None None) (places.After stage.Weeks))
week_good n next sound = record {
  leads = λ d p ts rest. record {
    later = p;
    rest = from next ts;
    one = IsWeeks.one n refl refl sound;
    behind = rest;
  };
  stands = refl;
  nearer = λ h. omega arith;
}

pub week_range_good : (a b : Digits) (next : Option TokenKind) → IsRange IsWeekNumber a b
    → IsGood (places.WeekRange a b) next (gives (piece.Weeks a (Some b) None) (places.After stage.Weeks))
week_range_good a b next sound = record {
  leads = λ d p ts rest. record {
    later = p;
    rest = from next ts;
    one = IsWeeks.range a b refl refl sound;
    behind = rest;
  };
  stands = refl;
  nearer = λ h. omega arith;
}

pub week_back_good : (a b : Digits) (next : Option TokenKind) → AreBackWeeks a b
    → IsGood (places.WeekBack a b) next (gives (piece.Weeks a (Some final_week) None) (places.WeekAgain a b))
week_back_good a b next sound = record { leads = λ d p ts rest. rest; stands = sound; nearer = λ h. omega arith }

pub week_again_good : (a b : Digits) (next : Option TokenKind) → AreBackWeeks a b
    → IsGood (places.WeekAgain a b) next (gives (piece.Weeks week_one (Some b) None) (places.After stage.Weeks))
week_again_good a b next sound = record {
  leads = λ d p ts rest. record {
    later = p;
    rest = from next ts;
    one = IsWeeks.back a b refl refl sound;
    behind = rest;
  };
  stands = refl;
  nearer = λ h. omega arith;
}

week_pair_by : (a : Digits) (v c : ℕ) (b : Bool) → nat_le a.value v ≡ b → IsWeekNumber (written v c) → IsWeekNumber a
    → IfSome (if b then take (places.WeekRange a (written v c)) else take (places.WeekBack a (written v c)))
    (λ move. IsGood (places.WeekDash a) (Some (token.Number v c)) move)
week_pair_by a v c true e last sound =
    record { leads = λ d p ts rest. rest; stands = (sound, last, leb-true a.value v e); nearer = λ h. absurd cc }
week_pair_by a v c false e last sound =
    record { leads = λ d p ts rest. rest; stands = (sound, last, leb-false a.value v e); nearer = λ h. absurd cc }

pub week_pair_good : (a : Digits) (v c : ℕ) (next : Option TokenKind) (fits : Bool) → next ≡ Some (token.Number v c)
    → fits ≡ true → (fits ≡ true → Fits (places.WeekDash a) next) → IsWeekNumber a
    → IfSome (week_pair a (written v c)) (λ move. IsGood (places.WeekDash a) next move)
week_pair_good a v c next fits same holds fit sound =
    subst (λ n. IfSome (week_pair a (written v c)) (λ move. IsGood (places.WeekDash a) n move)) (sym same)
    (week_pair_by a v c (nat_le a.value v) refl (subst (Fits (places.WeekDash a)) same (fit holds)) sound)

pub week_step_good : (a b : Digits) (v c : ℕ) (next : Option TokenKind) (fits : Bool) → next ≡ Some (token.Number v c)
    → fits ≡ true → (fits ≡ true → Fits (places.WeekStep a b) next) → IsRange IsWeekNumber a b
    → IsGood (places.WeekStep a b) next (completes (piece.Weeks a (Some b) (Some (written v c))) (places.After stage.Weeks))
week_step_good a b v c next fits same holds fit sound =
    token_good (places.WeekStep a b) next (token.Number v c) fits
    (completes (piece.Weeks a (Some b) (Some (written v c))) (places.After stage.Weeks)) same holds fit λ step. record {
      leads = λ d p ts rest. record {
        later = p;
        rest = ts;
        one = IsWeeks.every a b (written v c) refl refl sound step;
        behind = rest;
      };
      stands = refl;
      nearer = λ h. absurd cc;
    }

-- ---- times

pub time_dash_good : (t : ClockTime) (h m : ℕ) (next : Option TokenKind) (fits : Bool) → next ≡ Some (token.Time h m)
    → fits ≡ true → (fits ≡ true → Fits (places.TimeDash t) next)
    → IsGood (places.TimeDash t) next (completes (piece.Times t (clock h m)) (places.After stage.Times))
time_dash_good t h m next fits same holds fit =
    token_good (places.TimeDash t) next (token.Time h m) fits
    (completes (piece.Times t (clock h m)) (places.After stage.Times)) same holds fit λ range. record {
      leads = λ d p ts rest. record {
        later = p;
        rest = ts;
        behind = rest;
        one = record { begin = t; last = clock h m; tokens = refl; pieces = refl; range = range };
      };
      stands = refl;
      nearer = λ x. absurd cc;
    }

-- ---- weekdays

pub weekday_good : (k : ℕ) (next : Option TokenKind) → IsWeekday k
    → IsGood (places.Weekday k) next (gives (piece.Weekdays k None) (places.After stage.Weekdays))
weekday_good k next sound = record {
  leads = λ d p ts rest. record {
    later = p;
    rest = from next ts;
    one = IsWeekdays.one k refl refl sound;
    behind = rest;
  };
  stands = refl;
  nearer = λ h. omega arith;
}

pub weekday_bracket_good : (k : ℕ) (next : Option TokenKind) → next ≡ Some token.OpenBracket → IsWeekday k
    → IsGood (places.Weekday k) next (takes_to (places.Bracket k 28))
weekday_bracket_good k next same sound =
    sign_good (places.Weekday k) next token.OpenBracket (takes_to (places.Bracket k 28)) same (record {
      leads = λ d p ts rest. record {
        later = rest.later;
        rest = rest.rest;
        one = IsWeekdays.places k rest.offset ts refl sound rest.is rest.listed;
        behind = rest.behind;
      };
      stands = sound;
      nearer = λ h. absurd cc;
    })

pub weekday_dash_good : (a b : ℕ) (next : Option TokenKind) (fits : Bool) → next ≡ Some (token.Weekday b) → fits ≡ true
    → (fits ≡ true → Fits (places.WeekdayDash a) next) → IsWeekday a
    → IsGood (places.WeekdayDash a) next (completes (piece.Weekdays a (Some b)) (places.After stage.Weekdays))
weekday_dash_good a b next fits same holds fit sound =
    token_good (places.WeekdayDash a) next (token.Weekday b) fits
    (completes (piece.Weekdays a (Some b)) (places.After stage.Weekdays)) same holds fit λ last. record {
      leads = λ d p ts rest. record {
        later = p;
        rest = ts;
        one = IsWeekdays.range a b refl refl sound last;
        behind = rest;
      };
      stands = refl;
      nearer = λ h. absurd cc;
    }

pub bracket_dash_good : (k r v c : ℕ) (next : Option TokenKind) (fits : Bool) → next ≡ Some (token.Number v c) → fits ≡ true
    → (fits ≡ true → Fits (places.BracketDash k r) next) → IsWeekday k
    → IsGood (places.BracketDash k r) next (completes (piece.PlaceBack k (written v c)) (places.BracketEnd k (back_reach r v)))
bracket_dash_good k r v c next fits same holds fit sound =
    token_good (places.BracketDash k r) next (token.Number v c) fits
    (completes (piece.PlaceBack k (written v c)) (places.BracketEnd k (back_reach r v))) same holds fit λ place. record {
      leads = λ d p ts rest. record {
        later = rest.later;
        rest = rest.rest;
        offset = rest.offset;
        is = rest.is;
        reaches = back_narrow r v rest.offset rest.reaches;
        behind = rest.behind;
        listed = record {
          q = p;
          us = ts;
          one = IsPlaces.back (written v c) refl refl place (back_suits r v rest.offset rest.is rest.reaches);
          more = rest.more;
        };
      };
      stands = sound;
      nearer = λ h. absurd cc;
    }

pub nth_good : (k : ℕ) (n : Digits) (r : ℕ) (next : Option TokenKind) → Both (IsWeekday k) (IsPlaceNumber n)
    → IsGood (places.Nth k n r) next (gives (piece.Places k n None) (places.BracketEnd k (front_reach r n.value)))
nth_good k n r next sound = record {
  leads = λ d p ts rest. record {
    later = rest.later;
    rest = rest.rest;
    offset = rest.offset;
    is = rest.is;
    reaches = front_narrow r n.value rest.offset rest.reaches;
    behind = rest.behind;
    listed = record {
      q = p;
      us = from next ts;
      one = IsPlaces.one n refl refl sound.other (front_suits r n.value rest.offset rest.is rest.reaches);
      more = rest.more;
    };
  };
  stands = sound.one;
  nearer = λ h. omega arith;
}

pub nth_dash_good : (k : ℕ) (a : Digits) (r v c : ℕ) (next : Option TokenKind) (fits : Bool) → next ≡ Some (token.Number v c)
    → fits ≡ true → (fits ≡ true → Fits (places.NthDash k a r) next) → Both (IsWeekday k) (IsPlaceNumber a)
    → IsGood (places.NthDash k a r) next
    (completes (piece.Places k a (Some (written v c))) (places.BracketEnd k (front_reach r v)))
nth_dash_good k a r v c next fits same holds fit sound =
    token_good (places.NthDash k a r) next (token.Number v c) fits
    (completes (piece.Places k a (Some (written v c))) (places.BracketEnd k (front_reach r v))) same holds fit λ range. record {
      leads = λ d p ts rest. record {
        later = rest.later;
        rest = rest.rest;
        offset = rest.offset;
        is = rest.is;
        reaches = front_narrow r v rest.offset rest.reaches;
        behind = rest.behind;
        listed = record {
          q = p;
          us = ts;
          one = IsPlaces.range a (written v c) refl refl range (front_suits r v rest.offset rest.is rest.reaches);
          more = rest.more;
        };
      };
      stands = sound.one;
      nearer = λ h. absurd cc;
    }

pub bracket_comma_good : (k r : ℕ) (next : Option TokenKind) → next ≡ Some token.Comma → IsWeekday k
    → IsGood (places.BracketEnd k r) next (takes_to (places.Bracket k r))
bracket_comma_good k r next same sound =
    sign_good (places.BracketEnd k r) next token.Comma (takes_to (places.Bracket k r)) same (record {
      leads = λ d p ts rest. record {
        later = rest.later;
        rest = rest.rest;
        offset = rest.offset;
        is = rest.is;
        reaches = rest.reaches;
        behind = rest.behind;
        more = More.comma p rest.listed.q (token.Comma ∷ ts) ts rest.listed.us refl rest.listed.one rest.listed.more;
      };
      stands = sound;
      nearer = λ h. absurd cc;
    })

pub bracket_close_good : (k r : ℕ) (next : Option TokenKind) → next ≡ Some token.CloseBracket
    → IsGood (places.BracketEnd k r) next (takes_to (places.PlacesEnd r))
bracket_close_good k r next same =
    sign_good (places.BracketEnd k r) next token.CloseBracket (takes_to (places.PlacesEnd r)) same (record {
      leads = λ d p ts rest. record {
        later = rest.later;
        rest = rest.rest;
        offset = rest.offset;
        is = rest.is;
        reaches = rest.reaches;
        behind = rest.behind;
        more = More.none p (token.CloseBracket ∷ ts) rest.pieces
            (ap (λ (l : List TokenKind). token.CloseBracket ∷ l) rest.tokens);
      };
      stands = record {};
      nearer = λ h. absurd cc;
    })

-- ---- offsets behind brackets

pub places_end_good : (r : ℕ) (next : Option TokenKind)
    → IsGood (places.PlacesEnd r) next (gives (piece.PlacesEnd None) (places.After stage.Weekdays))
places_end_good r next = record {
  leads = λ d p ts rest. record {
    later = p;
    rest = from next ts;
    offset = None;
    is = record {};
    reaches = record {};
    pieces = refl;
    tokens = refl;
    behind = rest;
  };
  stands = refl;
  nearer = λ h. omega arith;
}

pub plus_good : (r : ℕ) (next : Option TokenKind) → next ≡ Some token.Plus → 1 ≤ r
    → IsGood (places.PlacesEnd r) next (takes_to (places.OffsetSign false r))
plus_good r next same le =
    sign_good (places.PlacesEnd r) next token.Plus (takes_to (places.OffsetSign false r)) same
    (record { leads = λ d p ts rest. rest; stands = le; nearer = λ h. absurd cc })

pub dash_good : (r : ℕ) (next : Option TokenKind) → next ≡ Some token.Dash → 2 ≤ r
    → IsGood (places.PlacesEnd r) next (takes_to (places.OffsetSign true r))
dash_good r next same le =
    sign_good (places.PlacesEnd r) next token.Dash (takes_to (places.OffsetSign true r)) same
    (record { leads = λ d p ts rest. rest; stands = le; nearer = λ h. absurd cc })

pub offset_sign_good : (before : Bool) (r v c : ℕ) (next : Option TokenKind) (fits : Bool) → next ≡ Some (token.Number v c)
    → fits ≡ true → (fits ≡ true → Fits (places.OffsetSign before r) next)
    → IsGood (places.OffsetSign before r) next (takes_to (places.OffsetNumber (offset_of before v c)))
offset_sign_good before r v c next fits same holds fit =
    token_good (places.OffsetSign before r) next (token.Number v c) fits
    (takes_to (places.OffsetNumber (offset_of before v c))) same holds fit λ days. record {
      leads = λ d p ts rest. record {
        later = rest.later;
        rest = rest.rest;
        offset = Some (offset_of before v c);
        is = days.0;
        reaches = days.1;
        pieces = rest.pieces;
        tokens = ap (λ (l : List TokenKind). sign before ∷ token.Number v c ∷ l) rest.tokens;
        behind = rest.behind;
      };
      stands = days.0;
      nearer = λ h. absurd cc;
    }

pub offset_number_good : (o : Offset) (next : Option TokenKind) → next ≡ Some token.Day
    → IsGood (places.OffsetNumber o) next (completes (piece.PlacesEnd (Some o)) (places.After stage.Weekdays))
offset_number_good o next same =
    sign_good (places.OffsetNumber o) next token.Day (completes (piece.PlacesEnd (Some o)) (places.After stage.Weekdays)) same
    (record {
      leads = λ d p ts rest. record { later = p; rest = ts; pieces = refl; tokens = refl; behind = rest };
      stands = refl;
      nearer = λ h. absurd cc;
    })

-- ---- years

-- a year that begins a rule, where no month comes next
pub year_good : (n : Digits) (next : Option TokenKind)
    → ((ts : List TokenKind) → begins_with_date (number n ∷ from next ts) ≡ false) → IsYearNumber n
    → IsGood (places.Year n) next (gives (piece.Years n None None) (places.After stage.Years))
year_good n next dateless sound = record {
  leads = λ d p ts rest. years_follow d stage.Front (piece.Years n None None ∷ p) (number n ∷ from next ts) refl (dateless ts)
      (record { later = p; rest = from next ts; one = IsYears.one n refl refl sound; behind = rest });
  stands = refl;
  nearer = λ h. omega arith;
}

pub year_dash_good : (n : Digits) (next : Option TokenKind) → next ≡ Some token.Dash → IsYearNumber n
    → IsGood (places.Year n) next (takes_to (places.YearDash n))
year_dash_good n next same sound = sign_good (places.Year n) next token.Dash (takes_to (places.YearDash n)) same (record {
  leads = λ d p ts rest. years_follow d stage.Front p (number n ∷ token.Dash ∷ ts) refl refl rest;
  stands = sound;
  nearer = λ h. absurd cc;
})

pub year_slash_good : (n : Digits) (next : Option TokenKind) → next ≡ Some token.Slash → IsYearNumber n
    → IsGood (places.Year n) next (takes_to (places.YearSlash n))
year_slash_good n next same sound = sign_good (places.Year n) next token.Slash (takes_to (places.YearSlash n)) same (record {
  leads = λ d p ts rest. years_follow d stage.Front p (number n ∷ token.Slash ∷ ts) refl refl rest;
  stands = sound;
  nearer = λ h. absurd cc;
})

-- years from one on
abbrev pub all_years : Digits → Option Digits → Move
all_years n step = completes (piece.Years n (Some final_year) step) (places.After stage.Years)

pub year_plus_good : (n : Digits) (next : Option TokenKind) → next ≡ Some token.Plus → IsYearNumber n
    → IsGood (places.Year n) next (all_years n None)
year_plus_good n next same sound = sign_good (places.Year n) next token.Plus (all_years n None) same (record {
  leads = λ d p ts rest. years_follow d stage.Front (piece.Years n (Some final_year) None ∷ p) (number n ∷ token.Plus ∷ ts) refl
      refl (record { later = p; rest = ts; one = IsYears.on n refl refl sound; behind = rest });
  stands = refl;
  nearer = λ h. absurd cc;
})

pub listed_plus_good : (n : Digits) (next : Option TokenKind) → next ≡ Some token.Plus → IsYearNumber n
    → IsGood (places.ListedYear n) next (all_years n None)
listed_plus_good n next same sound = sign_good (places.ListedYear n) next token.Plus (all_years n None) same (record {
  leads = λ d p ts rest. record { later = p; rest = ts; one = IsYears.on n refl refl sound; behind = rest };
  stands = refl;
  nearer = λ h. absurd cc;
})

pub slash_step_good : (n : Digits) (v c : ℕ) (next : Option TokenKind) (fits : Bool) → next ≡ Some (token.Number v c)
    → fits ≡ true → (fits ≡ true → Fits (places.YearSlash n) next) → IsYearNumber n
    → IsGood (places.YearSlash n) next (all_years n (Some (written v c)))
slash_step_good n v c next fits same holds fit sound =
    token_good (places.YearSlash n) next (token.Number v c) fits (all_years n (Some (written v c))) same holds fit λ few. record {
      leads = λ d p ts rest. record {
        later = p;
        rest = ts;
        one = IsYears.every_on n (written v c) refl refl sound few;
        behind = rest;
      };
      stands = refl;
      nearer = λ h. absurd cc;
    }

-- a year and a month that begin a rule, where no number comes next
pub year_month_good : (n : Digits) (m : ℕ) (next : Option TokenKind)
    → ((ts : List TokenKind) → begins_with_date (number n ∷ token.Month m ∷ from next ts) ≡ false)
    → Both (IsYearNumber n) (IsMonth m)
    → IsGood (places.YearMonth n m) next (gives (piece.Years n None None) (places.MonthAfterYear m))
year_month_good n m next dateless sound = record {
  leads = λ d p ts rest. Follow.years stage.Front (piece.Kind ∷ piece.Years n None None ∷ p) (piece.Years n None None ∷ p) p
      (number n ∷ token.Month m ∷ from next ts) (token.Month m ∷ from next ts) refl (dateless ts) refl
      (record {
        q = p;
        us = token.Month m ∷ from next ts;
        one = IsYears.one n refl refl sound.one;
        more = More.none p (token.Month m ∷ from next ts) refl refl;
      }) rest;
  stands = sound.other;
  nearer = λ h. omega arith;
}

-- a date and the rest behind it, in a list
pub dates_from : (d : Demand) (x : WrittenDate) (p : List Piece) (ts : List TokenKind) → IsWrittenDate x → FromDate d x p ts
    → From d stage.MonthDays p (date_before x ts)
dates_from d x p ts sound f = record {
  later = f.later;
  rest = f.rest;
  one = IsMonthDays.dates x ts refl sound f.dates;
  behind = f.behind;
}

pub year_date_good : (n : Digits) (m v c : ℕ) (next : Option TokenKind) (fits : Bool) → next ≡ Some (token.Number v c)
    → fits ≡ true → (fits ≡ true → Fits (places.YearMonth n m) next) → Both (IsYearNumber n) (IsMonth m)
    → IsGood (places.YearMonth n m) next
    (takes_to (places.Date (record { year = Some n; month = m; day = written v c })))
year_date_good n m v c next fits same holds fit sound =
    token_good (places.YearMonth n m) next (token.Number v c) fits
    (takes_to (places.Date (record { year = Some n; month = m; day = written v c }))) same holds fit λ day. record {
      leads = λ d p ts rest. month_days_follow d stage.Front p (number n ∷ token.Month m ∷ token.Number v c ∷ ts) refl
          (dates_from d (record { year = Some n; month = m; day = written v c }) p ts (sound.one, day) rest);
      stands = (sound.one, day);
      nearer = λ h. absurd cc;
    }

pub month_after_year_good : (m : ℕ) (next : Option TokenKind) → IsMonth m
    → IsGood (places.MonthAfterYear m) next (gives piece.Kind (places.Month m))
month_after_year_good m next sound = record {
  leads = λ d p ts rest. month_days_follow d stage.Years p (token.Month m ∷ from next ts) refl rest;
  stands = sound;
  nearer = λ h. omega arith;
}

-- months of years, or a year and months
pub month_to_year_good : (n : Digits) (m v c : ℕ) (next : Option TokenKind) (fits : Bool) → next ≡ Some (token.Number v c)
    → fits ≡ true → (fits ≡ true → Fits (places.YearMonthDash n m) next) → Both (IsYearNumber n) (IsMonth m)
    → IsGood (places.YearMonthDash n m) next (takes_to (places.MonthsYear n m (written v c)))
month_to_year_good n m v c next fits same holds fit sound =
    token_good (places.YearMonthDash n m) next (token.Number v c) fits (takes_to (places.MonthsYear n m (written v c))) same holds
    fit λ range. record {
      leads = λ d p ts rest. month_days_follow d stage.Front p (months_to n m (written v c) ts) refl rest;
      stands = record { one = range; other = sound.other };
      nearer = λ h. absurd cc;
    }

pub listed_month_to_year_good : (n : Digits) (m v c : ℕ) (next : Option TokenKind) (fits : Bool)
    → next ≡ Some (token.Number v c) → fits ≡ true → (fits ≡ true → Fits (places.DateYearMonthDash n m) next)
    → Both (IsYearNumber n) (IsMonth m)
    → IsGood (places.DateYearMonthDash n m) next (takes_to (places.MonthsYear n m (written v c)))
listed_month_to_year_good n m v c next fits same holds fit sound =
    token_good (places.DateYearMonthDash n m) next (token.Number v c) fits (takes_to (places.MonthsYear n m (written v c))) same
    holds fit λ range. record {
      leads = λ d p ts rest. rest;
      stands = record { one = range; other = sound.other };
      nearer = λ h. absurd cc;
    }

pub year_and_months_good : (n : Digits) (m l : ℕ) (next : Option TokenKind) → next ≡ Some (token.Month l)
    → Both (IsYearNumber n) (IsMonth m)
    → IsGood (places.YearMonthDash n m) next (gives (piece.Years n None None) (places.MonthDashAfterYear m))
year_and_months_good n m l next same sound =
    sign_good (places.YearMonthDash n m) next (token.Month l) (gives (piece.Years n None None) (places.MonthDashAfterYear m)) same
    (record {
      leads = λ d p ts rest.
          Follow.years stage.Front (piece.Kind ∷ piece.Years n None None ∷ p) (piece.Years n None None ∷ p) p
          (number n ∷ token.Month m ∷ token.Dash ∷ token.Month l ∷ ts) (token.Month m ∷ token.Dash ∷ token.Month l ∷ ts) refl refl
          refl
          (record {
            q = p;
            us = token.Month m ∷ token.Dash ∷ token.Month l ∷ ts;
            one = IsYears.one n refl refl sound.one;
            more = More.none p (token.Month m ∷ token.Dash ∷ token.Month l ∷ ts) refl refl;
          }) rest;
      stands = sound.other;
      nearer = λ h. omega arith;
    })

pub months_behind_good : (m l : ℕ) (next : Option TokenKind) → next ≡ Some (token.Month l) → IsMonth m
    → IsGood (places.MonthDashAfterYear m) next (gives piece.Kind (places.MonthDash m))
months_behind_good m l next same sound =
    sign_good (places.MonthDashAfterYear m) next (token.Month l) (gives piece.Kind (places.MonthDash m)) same (record {
      leads = λ d p ts rest. month_days_follow d stage.Years p (token.Month m ∷ token.Dash ∷ token.Month l ∷ ts) refl rest;
      stands = sound;
      nearer = λ h. omega arith;
    })

pub months_end_good : (a b : Digits) (m l : ℕ) (next : Option TokenKind) (fits : Bool) → next ≡ Some (token.Month l)
    → fits ≡ true → (fits ≡ true → Fits (places.MonthsYear a m b) next) → Both (IsRange IsYearNumber a b) (IsMonth m)
    → IsGood (places.MonthsYear a m b) next (completes (days_of_months a m b l) (places.After stage.MonthDays))
months_end_good a b m l next fits same holds fit sound =
    token_good (places.MonthsYear a m b) next (token.Month l) fits
    (completes (days_of_months a m b l) (places.After stage.MonthDays)) same holds fit λ are. record {
      leads = λ d p ts rest. record {
        later = p;
        rest = ts;
        one = IsMonthDays.of_years a b m l refl refl sound.one sound.other are;
        behind = rest;
      };
      stands = refl;
      nearer = λ h. absurd cc;
    }

pub listed_year_good : (n : Digits) (next : Option TokenKind) → IsYearNumber n
    → IsGood (places.ListedYear n) next (gives (piece.Years n None None) (places.After stage.Years))
listed_year_good n next sound = record {
  leads = λ d p ts rest. record {
    later = p;
    rest = from next ts;
    one = IsYears.one n refl refl sound;
    behind = rest;
  };
  stands = refl;
  nearer = λ h. omega arith;
}

pub year_range_good : (a b : Digits) (next : Option TokenKind) → IsRange IsYearNumber a b
    → IsGood (places.YearRange a b) next (gives (piece.Years a (Some b) None) (places.After stage.Years))
year_range_good a b next sound = record {
  leads = λ d p ts rest. record {
    later = p;
    rest = from next ts;
    one = IsYears.range a b refl refl sound;
    behind = rest;
  };
  stands = refl;
  nearer = λ h. omega arith;
}

pub year_step_good : (a b : Digits) (v c : ℕ) (next : Option TokenKind) (fits : Bool) → next ≡ Some (token.Number v c)
    → fits ≡ true → (fits ≡ true → Fits (places.YearStep a b) next) → IsRange IsYearNumber a b
    → IsGood (places.YearStep a b) next (completes (piece.Years a (Some b) (Some (written v c))) (places.After stage.Years))
year_step_good a b v c next fits same holds fit sound =
    token_good (places.YearStep a b) next (token.Number v c) fits
    (completes (piece.Years a (Some b) (Some (written v c))) (places.After stage.Years)) same holds fit λ step. record {
      leads = λ d p ts rest. record {
        later = p;
        rest = ts;
        one = IsYears.every a b (written v c) refl refl sound step;
        behind = rest;
      };
      stands = refl;
      nearer = λ h. absurd cc;
    }

-- ---- month days

day_month : (year : Option Digits) (m : ℕ) (n : Digits) → IsDay year m n → IsMonth m
day_month None m n h = h.1.0
day_month (Some y) m n h = h.1.1.0

pub month_good : (m : ℕ) (next : Option TokenKind) → IsMonth m
    → IsGood (places.Month m) next (gives (piece.Months m None) (places.After stage.MonthDays))
month_good m next sound = record {
  leads = λ d p ts rest. record {
    later = p;
    rest = from next ts;
    one = IsMonthDays.month m refl refl sound;
    behind = rest;
  };
  stands = refl;
  nearer = λ h. omega arith;
}

pub month_dash_good : (a b : ℕ) (next : Option TokenKind) (fits : Bool) → next ≡ Some (token.Month b) → fits ≡ true
    → (fits ≡ true → Fits (places.MonthDash a) next) → IsMonth a
    → IsGood (places.MonthDash a) next (completes (piece.Months a (Some b)) (places.After stage.MonthDays))
month_dash_good a b next fits same holds fit sound =
    token_good (places.MonthDash a) next (token.Month b) fits
    (completes (piece.Months a (Some b)) (places.After stage.MonthDays)) same holds fit λ last. record {
      leads = λ d p ts rest. record {
        later = p;
        rest = ts;
        one = IsMonthDays.months a b refl refl sound last;
        behind = rest;
      };
      stands = refl;
      nearer = λ h. absurd cc;
    }

-- the day of a month, after a year or without one
pub month_date_good : (m v c : ℕ) (next : Option TokenKind) (fits : Bool) → next ≡ Some (token.Number v c) → fits ≡ true
    → (fits ≡ true → Fits (places.Month m) next) → IsGood (places.Month m) next
    (takes_to (places.Date (record { year = None; month = m; day = written v c })))
month_date_good m v c next fits same holds fit =
    token_good (places.Month m) next (token.Number v c) fits
    (takes_to (places.Date (record { year = None; month = m; day = written v c }))) same holds fit λ day. record {
      leads = λ d p ts rest. dates_from d (record { year = None; month = m; day = written v c }) p ts (record {}, day) rest;
      stands = (record {}, day);
      nearer = λ h. absurd cc;
    }

pub year_month_date_good : (n : Digits) (m v c : ℕ) (next : Option TokenKind) (fits : Bool) → next ≡ Some (token.Number v c)
    → fits ≡ true → (fits ≡ true → Fits (places.DateYearMonth n m) next) → Both (IsYearNumber n) (IsMonth m)
    → IsGood (places.DateYearMonth n m) next
    (takes_to (places.Date (record { year = Some n; month = m; day = written v c })))
year_month_date_good n m v c next fits same holds fit sound =
    token_good (places.DateYearMonth n m) next (token.Number v c) fits
    (takes_to (places.Date (record { year = Some n; month = m; day = written v c }))) same holds fit λ day. record {
      leads = λ d p ts rest. dates_from d (record { year = Some n; month = m; day = written v c }) p ts (sound.one, day) rest;
      stands = (sound.one, day);
      nearer = λ h. absurd cc;
    }

-- a date or a range of dates, and the rest behind it
ends_from : (d : Demand) (x : WrittenDate) (last : Option LastDate) (p : List Piece) (ts : List TokenKind)
    → AreWrittenDates x last → BehindDate d (end_year x last) (end_month x last) p ts
    → FromDate d x (piece.Dates x last ∷ p) (range_to last ts)
ends_from d x last p ts ends (BehindDate.none b) = record {
  later = p;
  rest = ts;
  dates = IsDates.one x last (piece.Dates x last ∷ p) (range_to last ts) refl refl ends;
  behind = b;
}
ends_from d x last p ts ends (BehindDate.day n us e day f) = record {
  later = f.later;
  rest = f.rest;
  dates = IsDates.also x last n (piece.Dates x last ∷ p) p (range_to last ts) us (ap (range_to last) e) refl ends day f.dates;
  behind = f.behind;
}

pub date_good : (x : WrittenDate) (next : Option TokenKind) → IsWrittenDate x
    → IsGood (places.Date x) next (gives (piece.Dates x None) (places.AfterDate x.year x.month))
date_good x next sound = record {
  leads = λ d p ts rest. ends_from d x None p (from next ts) (record {}) rest;
  stands = record { one = sound.0; other = day_month x.year x.month x.day sound.1 };
  nearer = λ h. omega arith;
}

pub listed_day_good : (x : WrittenDate) (next : Option TokenKind) → IsWrittenDate x
    → IsGood (places.ListedDay x) next (gives (piece.Dates x None) (places.AfterDate x.year x.month))
listed_day_good x next sound = record {
  leads = λ d p ts rest. BehindDate.day x.day (from next ts) refl sound.1 (ends_from d x None p (from next ts) (record {}) rest);
  stands = record { one = sound.0; other = day_month x.year x.month x.day sound.1 };
  nearer = λ h. omega arith;
}

pub listed_dash_good : (x : WrittenDate) (next : Option TokenKind) → next ≡ Some token.Dash → IsWrittenDate x
    → IsGood (places.ListedDay x) next (takes_to (places.DateDash x))
listed_dash_good x next same sound =
    sign_good (places.ListedDay x) next token.Dash (takes_to (places.DateDash x)) same (record {
      leads = λ d p ts rest. BehindDate.day x.day (token.Dash ∷ ts) refl sound.1 rest;
      stands = sound;
      nearer = λ h. absurd cc;
    })

-- `24` of `24/7`
pub listed_slash_good : (x : WrittenDate) (next : Option TokenKind) → next ≡ Some token.Slash → x.day.value ≡ 24 → x.day.count ≡ 2
    → IsGood (places.ListedDay x) next (completes (piece.Rule link.Also) places.TwentyFourSlash)
listed_slash_good x next same value digits =
    sign_good (places.ListedDay x) next token.Slash (completes (piece.Rule link.Also) places.TwentyFourSlash) same (record {
      leads = λ d p ts rest. BehindDate.none (
          subst (λ (v : ℕ). Behind d stage.MonthDays (piece.Rule link.Also ∷ p)
          (token.Comma ∷ token.Number v x.day.count ∷ token.Slash ∷ ts)) (sym value)
          (subst (λ (c : ℕ). Behind d stage.MonthDays (piece.Rule link.Also ∷ p)
          (token.Comma ∷ token.Number 24 c ∷ token.Slash ∷ ts)) (sym digits)
          (behind d stage.MonthDays (piece.Rule link.Also ∷ p) (token.Comma ∷ token.Number 24 2 ∷ token.Slash ∷ ts)
          (Follow.also stage.MonthDays (piece.Rule link.Also ∷ p) p (token.Comma ∷ token.Number 24 2 ∷ token.Slash ∷ ts)
          (token.Number 24 2 ∷ token.Slash ∷ ts) refl refl refl refl rest))));
      stands = record {};
      nearer = λ h. absurd cc;
    })

-- a range of dates is complete
pub dates_end_good : (x : WrittenDate) (last : LastDate) (at : Place) (t : TokenKind) → IsWrittenDate x → EndsRange x last
    → ((d : Demand) (p : List Piece) (ts : List TokenKind) → FromDate d x p (range_to (Some last) ts) → Rest d at p (t ∷ ts))
    → IsGood at (Some t) (completes (piece.Dates x (Some last))
    (places.AfterDate (end_year x (Some last)) (end_month x (Some last))))
dates_end_good x last at t sound ends before = record {
  leads = λ d p ts rest. before d (piece.Dates x (Some last) ∷ p) ts (ends_from d x (Some last) p ts ends rest);
  stands = record { one = end_year_is x (Some last) sound ends; other = end_month_is x (Some last) sound ends };
  nearer = λ h. absurd cc;
}

pub date_dash_month_good : (x : WrittenDate) (y : Option Digits) (m v c : ℕ) (next : Option TokenKind) (fits : Bool)
    → next ≡ Some (token.Number v c) → fits ≡ true → (fits ≡ true → Fits (places.DateDashMonth x y m) next)
    → IsPlace (places.DateDashMonth x y m)
    → IfSome (dates_end x (last_date.Date (record { year = y; month = m; day = written v c })))
    (λ move. IsGood (places.DateDashMonth x y m) next move)
date_dash_month_good x y m v c next fits same holds fit sound =
    let last : LastDate = last_date.Date (record { year = y; month = m; day = written v c }) in
    token_good (places.DateDashMonth x y m) next (token.Number v c) fits
    (completes (piece.Dates x (Some last)) (places.AfterDate (end_year x (Some last)) (end_month x (Some last)))) same holds fit
    λ ends. dates_end_good x last (places.DateDashMonth x y m) (token.Number v c) sound.one ends (before y)
  where
    before : (y : Option Digits) (d : Demand) (p : List Piece) (ts : List TokenKind)
        → FromDate d x p (range_to (Some (last_date.Date (record { year = y; month = m; day = written v c }))) ts)
        → Rest d (places.DateDashMonth x y m) p (token.Number v c ∷ ts)
    before None d p ts rest = rest
    before (Some z) d p ts rest = rest

year_or_day_good : (x : WrittenDate) (v c : ℕ) (b : Bool) → is_last_year x (written v c) ≡ b → YearOrDay b x (written v c)
    → IsWrittenDate x
    → IfSome (if b then take (places.DateDashYear x (written v c)) else dates_end x (last_date.Day (written v c)))
    (λ move. IsGood (places.DateDash x) (Some (token.Number v c)) move)
year_or_day_good x v c true is year sound = record {
  leads = λ d p ts rest. rest;
  stands = record { one = sound; other = record { one = search rules; other = year } };
  nearer = λ h. absurd cc;
}
year_or_day_good x v c false is ends sound =
    dates_end_good x (last_date.Day (written v c)) (places.DateDash x) (token.Number v c) sound ends (λ d p ts rest. rest)

pub date_dash_good : (x : WrittenDate) (v c : ℕ) (next : Option TokenKind) (fits : Bool) → next ≡ Some (token.Number v c)
    → fits ≡ true → (fits ≡ true → Fits (places.DateDash x) next) → IsWrittenDate x
    → IfSome (year_or_day x (written v c)) (λ move. IsGood (places.DateDash x) next move)
date_dash_good x v c next fits same holds fit sound =
    subst (λ n. IfSome (year_or_day x (written v c)) (λ move. IsGood (places.DateDash x) n move)) (sym same)
    (year_or_day_good x v c (is_last_year x (written v c)) refl (subst (Fits (places.DateDash x)) same (fit holds)) sound)

-- ---- behind a date

-- what is right behind a list of months and dates is right behind a date
pub after_date_good : (y : Option Digits) (m : ℕ) (next : Option TokenKind) (o : Option Move)
    → IfSome o (λ move. IsGood (places.After stage.MonthDays) next move)
    → IfSome o (λ move. IsGood (places.AfterDate y m) next move)
after_date_good y m next None good = good
after_date_good y m next (Some move) good =
    record { leads = λ d p ts rest. BehindDate.none (good.leads d p ts rest); stands = good.stands; nearer = good.nearer }

pub comma_date_good : (y : Option Digits) (m : ℕ) (next : Option TokenKind) (o : Option Move)
    → IfSome o (λ move. IsGood (places.Comma stage.MonthDays) next move)
    → IfSome o (λ move. IsGood (places.CommaDate y m) next move)
comma_date_good y m next None good = good
comma_date_good y m next (Some move) good =
    record { leads = λ d p ts rest. BehindDate.none (good.leads d p ts rest); stands = good.stands; nearer = good.nearer }

listed_by : (y : Option Digits) (m v c : ℕ) (b : Bool) → (c == 4) ≡ b → YearOrListed b y m (written v c)
    → Both (IfSome y IsYearNumber) (IsMonth m)
    → IfSome (if b then take (places.DateYear (written v c))
    else take (places.ListedDay (record { year = y; month = m; day = written v c })))
    (λ move. IsGood (places.CommaDate y m) (Some (token.Number v c)) move)
listed_by y m v c true e year sound = record {
  leads = λ d p ts rest. BehindDate.none (record {
    later = rest.behind.later;
    rest = rest.behind.rest;
    more = More.comma p rest.later (token.Comma ∷ token.Number v c ∷ ts) (token.Number v c ∷ ts) rest.rest refl rest.one
        rest.behind.more;
    follow = rest.behind.follow;
  });
  stands = year;
  nearer = λ h. absurd cc;
}
listed_by y m v c false e day sound =
    record { leads = λ d p ts rest. rest; stands = (sound.one, day); nearer = λ h. absurd cc }

pub comma_number_good : (y : Option Digits) (m v c : ℕ) (next : Option TokenKind) (fits : Bool)
    → next ≡ Some (token.Number v c) → fits ≡ true → (fits ≡ true → Fits (places.CommaDate y m) next)
    → Both (IfSome y IsYearNumber) (IsMonth m)
    → IfSome (year_or_listed y m (written v c)) (λ move. IsGood (places.CommaDate y m) next move)
comma_number_good y m v c next fits same holds fit sound =
    subst (λ n. IfSome (year_or_listed y m (written v c)) (λ move. IsGood (places.CommaDate y m) n move)) (sym same)
    (listed_by y m v c (c == 4) refl (subst (Fits (places.CommaDate y m)) same (fit holds)) sound)
