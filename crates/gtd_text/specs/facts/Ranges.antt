-- Fields that fit make a start and a duration that are in their ranges.
use Rattle.std.proofs.Common.{◌≡◌, ◌≢◌, ℕ, ◌-◌, ◌/◌, ◌%◌, ◌^◌, ◌<◌, ◌≤◌, Bool, true, false, List, [], ◌∷◌, Some, None}
use Rattle.std.proofs.Common.{refl, ap, arith, cond, rules}
use Rattle.std.specs.Prelude.{◌==◌, ◌&&◌, nat_le, bit_or, not}
use Rattle.std.proofs.lemmas.Bool.{leb-true, ne_eqb}
use Rattle.std.proofs.lemmas.Nat.{or_lt, le_or_r, pow_pos}
use Rattle.std.proofs.Math.Pow.{pow-lt}
use Rattle.gtd_core.specs.declared.start.StartParts.{StartParts}
use Rattle.gtd_core.specs.declared.duration.DurationParts.{DurationParts}
use Rattle.gtd_core.specs.Ranges.{IsStart, IsWithin, IsPlace, no_parts, HasSixDigits}
use Rattle.gtd_text.specs.declared.token.TokenKind.{TokenKind}
use Rattle.gtd_text.specs.declared.token.TokenKind.TheVariants.{Field}
use Rattle.gtd_core.specs.FieldTable.{FieldRow, is_from_to, is_place_value, start_fields, duration_fields}
use Rattle.gtd_text.specs.ComputedFields.{is_start_letter, is_start_value, is_repeated_in_start, fits_start, all_fit_start}
use Rattle.gtd_text.specs.Grammar.{zero_parts}
use Rattle.gtd_text.specs.ComputedFields.{with_start_field, with_start_fields, with_duration_field, with_duration_fields}
use Rattle.gtd_text.specs.facts.Builds.{and_left, and_right}
use Rattle.gtd_text.specs.facts.ByTable.{AreAll, also, taken, given}

pub from_to : (low high n : ℕ) → is_from_to low high n ≡ true → (low ≤ n) × (n ≤ high)
from_to low high n h = (leb-true low n (and_left _ (nat_le n high) h), leb-true n high (and_right (nat_le low n) _ h))

last_hold : (a b c : Bool) → (a && b && c) ≡ true → (b ≡ true) × (c ≡ true)
last_hold true true c h = (refl, h)
last_hold true false c h = absurd cc
last_hold false b c h = absurd cc

pub place : (value digits : ℕ) → is_place_value value digits ≡ true → (1 ≤ value / 10) × (value / 10 ≤ 5) × (1 ≤ value % 10)
    × (value % 10 ≤ 7)
place value digits h =
    let both = last_hold (digits == 2) (is_from_to 1 5 (value / 10)) (is_from_to 1 7 (value % 10)) h in
    let first = from_to 1 5 (value / 10) both.0 in
    let last = from_to 1 7 (value % 10) both.1 in
    (first.0, first.1, last.0, last.1)

-- each field that is given is in its range
record AreInRange (parts : StartParts) : Type 0 where
  year : IsWithin 0 9999 parts.year
  month : IsWithin 1 12 parts.month
  week : IsWithin 1 53 parts.week
  day : IsWithin 1 31 parts.day
  hour : IsWithin 0 23 parts.hour
  minute : IsWithin 0 59 parts.minute
  second : IsWithin 0 59 parts.second
  nth : IsPlace parts.nth
  nth_back : IsPlace parts.nth_back
  weekdays : parts.weekdays < 128

given_now : {A : Type 0} (x : A) → Some x ≡ None → ⊥
given_now x e = absurd cc

weekday_given : (w v : ℕ) → bit_or w (2 ^ v) ≡ 0 → ⊥
weekday_given w v e = omega (arith, le_or_r w (2 ^ v), pow_pos v)

weekday_small : (w v : ℕ) → w < 128 → 1 ≤ v → v ≤ 7 → bit_or w (2 ^ (v - 1)) < 128
weekday_small w v small low high =
    let day : 2 ^ (v - 1) < 2 ^ 7 = pow-lt {i = v - 1} {j = 7} (omega arith) in
    or_lt 7 w (2 ^ (v - 1)) small day

start_of : (parts : StartParts) → parts ≢ no_parts → IsWithin 0 9999 parts.year → IsWithin 1 12 parts.month
    → IsWithin 1 53 parts.week → IsPlace parts.nth → IsPlace parts.nth_back → IsWithin 1 31 parts.day → parts.weekdays < 128
    → IsWithin 0 23 parts.hour → IsWithin 0 59 parts.minute → IsWithin 0 59 parts.second → IsStart parts
start_of parts some year month week nth nth_back day weekdays hour minute second = record {
  given = some;
  year = year;
  month = month;
  week = week;
  nth = nth;
  nth_back = nth_back;
  day = day;
  weekdays = weekdays;
  hour = hour;
  minute = minute;
  second = second;
}

-- each row of the table gives what is in its range, where it takes the number
each_field : (parts : StartParts) (v d : ℕ) → AreInRange parts
    → AreAll (λ row. row.takes v d ≡ true → IsStart (row.gives parts v)) start_fields
each_field parts v d r =
    also (λ e. start_of (record parts { year = Some v }) (λ same. given_now v (ap (λ (p : StartParts). p.year) same))
    (omega arith, leb-true v 9999 (and_right (d == 4) _ e)) r.month r.week r.nth r.nth_back r.day r.weekdays
    r.hour r.minute r.second)
    (also (λ e. start_of (record parts { month = Some v }) (λ same. given_now v (ap (λ (p : StartParts). p.month) same))
    r.year (from_to 1 12 v e) r.week r.nth r.nth_back r.day r.weekdays r.hour r.minute r.second)
    (also (λ e. start_of (record parts { week = Some v }) (λ same. given_now v (ap (λ (p : StartParts). p.week) same))
    r.year r.month (from_to 1 53 v e) r.nth r.nth_back r.day r.weekdays r.hour r.minute r.second)
    (also (λ e. start_of (record parts { nth = Some (v / 10, v % 10) })
    (λ same. given_now (v / 10, v % 10) (ap (λ (p : StartParts). p.nth) same))
    r.year r.month r.week (place v d e) r.nth_back r.day r.weekdays r.hour r.minute r.second)
    (also (λ e. start_of (record parts { nth_back = Some (v / 10, v % 10) })
    (λ same. given_now (v / 10, v % 10) (ap (λ (p : StartParts). p.nth_back) same))
    r.year r.month r.week r.nth (place v d e) r.day r.weekdays r.hour r.minute r.second)
    (also (λ e. start_of (record parts { day = Some v }) (λ same. given_now v (ap (λ (p : StartParts). p.day) same))
    r.year r.month r.week r.nth r.nth_back (from_to 1 31 v e) r.weekdays r.hour r.minute r.second)
    (also (λ e. start_of (record parts { weekdays = bit_or parts.weekdays (2 ^ (v - 1)) })
    (λ same. weekday_given parts.weekdays (v - 1) (ap (λ (p : StartParts). p.weekdays) same))
    r.year r.month r.week r.nth r.nth_back r.day
    (weekday_small parts.weekdays v r.weekdays (from_to 1 7 v e).0 (from_to 1 7 v e).1) r.hour r.minute r.second)
    (also (λ e. start_of (record parts { hour = Some v }) (λ same. given_now v (ap (λ (p : StartParts). p.hour) same))
    r.year r.month r.week r.nth r.nth_back r.day r.weekdays (omega arith, leb-true v 23 e) r.minute r.second)
    (also (λ e. start_of (record parts { minute = Some v }) (λ same. given_now v (ap (λ (p : StartParts). p.minute) same))
    r.year r.month r.week r.nth r.nth_back r.day r.weekdays r.hour (omega arith, leb-true v 59 e) r.second)
    (also (λ e. start_of (record parts { second = Some v }) (λ same. given_now v (ap (λ (p : StartParts). p.second) same))
    r.year r.month r.week r.nth r.nth_back r.day r.weekdays r.hour r.minute (omega arith, leb-true v 59 e)) tt)))))))))

more_field : (before : List TokenKind) (token : TokenKind) (parts : StartParts) → fits_start before token ≡ true
    → AreInRange parts → IsStart (with_start_field parts token)
more_field before (Field letter value digits) parts fit r =
    taken IsStart start_fields parts letter value digits (each_field parts value digits r)
    (last_hold (is_start_letter letter) (not (is_repeated_in_start before letter)) (is_start_value letter value digits) fit).1
more_field before token parts fit r = absurd cc

in_range : (parts : StartParts) → IsStart parts → AreInRange parts
in_range parts h = search rules

more_fields : (before tokens : List TokenKind) (parts : StartParts) → all_fit_start before tokens ≡ true → IsStart parts
    → IsStart (with_start_fields parts tokens)
more_fields before [] parts fit h = h
more_fields before (token ∷ tokens) parts fit h =
    more_fields (token ∷ before) tokens (with_start_field parts token) (and_right (fits_start before token) _ fit)
    (more_field before token parts (and_left _ (all_fit_start (token ∷ before) tokens) fit) (in_range parts h))

-- one field at least, each fitting after those before it, make a start
pub valid_start : (tokens : List TokenKind) → tokens ≢ [] → all_fit_start [] tokens ≡ true
    → IsStart (with_start_fields no_parts tokens)
valid_start [] some fit = absurd (some refl)
valid_start (token ∷ tokens) some fit =
    let none : AreInRange no_parts = record {
      year = tt;
      month = tt;
      week = tt;
      day = tt;
      hour = tt;
      minute = tt;
      second = tt;
      nth = tt;
      nth_back = tt;
      weekdays = omega arith;
    } in
    more_fields (token ∷ []) tokens (with_start_field no_parts token) (and_right (fits_start [] token) _ fit)
    (more_field [] token no_parts (and_left _ (all_fit_start (token ∷ []) tokens) fit) none)

-- ---- what fits a byte

at_most : (low high n : ℕ) → high ≤ 59 → is_from_to low high n ≡ true → n ≤ 59
at_most low high n le h = let both = from_to low high n h in omega (arith, le, both.1)

two_digits : (value digits : ℕ) → is_place_value value digits ≡ true → value ≤ 59
two_digits value digits h = let both = place value digits h in omega (arith, both.1)

second_holds : (b x y : Bool) → b ≡ false → cond b x y ≡ true → y ≡ true
second_holds false x y e h = h
second_holds true x y e h = absurd cc

-- the fields of a start that come after the year
abbrev byte_fields : List (FieldRow StartParts) → List (FieldRow StartParts)
byte_fields [] = []
byte_fields (year ∷ rows) = rows

-- a number of a start's field that is no year is at most 59
pub byte_value : (l v d : ℕ) → l ≢ 121 → is_start_value l v d ≡ true → v ≤ 59
byte_value l v d other h =
    taken (λ parts. v ≤ 59) (byte_fields start_fields) no_parts l v d
    (also (at_most 1 12 v (omega arith)) (also (at_most 1 53 v (omega arith))
    (also (two_digits v d) (also (two_digits v d) (also (at_most 1 31 v (omega arith))
    (also (at_most 1 7 v (omega arith)) (also (λ e. let le = leb-true v 23 e in omega (arith, le))
    (also (leb-true v 59) (also (leb-true v 59) tt)))))))))
    (second_holds (l == 121) (d == 4 && nat_le v 9999) _ (ne_eqb l 121 other) h)

-- ---- durations

-- the number of a field has at most six digits
abbrev pub IsShort : TokenKind → Type 0
IsShort (Field letter value digits) = value ≤ 999999
IsShort sign = Unit {0}

abbrev pub AreShort : List TokenKind → Type 0
AreShort [] = Unit {0}
AreShort (token ∷ tokens) = IsShort token × AreShort tokens

duration_of : (parts : DurationParts) → parts.years ≤ 999999 → parts.months ≤ 999999 → parts.weeks ≤ 999999
    → parts.days ≤ 999999 → parts.hours ≤ 999999 → parts.minutes ≤ 999999 → parts.seconds ≤ 999999 → HasSixDigits parts
duration_of parts years months weeks days hours minutes seconds = record {
  years = years;
  months = months;
  weeks = weeks;
  days = days;
  hours = hours;
  minutes = minutes;
  seconds = seconds;
}

each_number : (parts : DurationParts) (v : ℕ) → v ≤ 999999 → HasSixDigits parts
    → AreAll (λ row. HasSixDigits (row.gives parts v)) duration_fields
each_number parts v small r =
    also (duration_of (record parts { years = v }) small r.months r.weeks r.days r.hours r.minutes r.seconds)
    (also (duration_of (record parts { months = v }) r.years small r.weeks r.days r.hours r.minutes r.seconds)
    (also (duration_of (record parts { weeks = v }) r.years r.months small r.days r.hours r.minutes r.seconds)
    (also (duration_of (record parts { days = v }) r.years r.months r.weeks small r.hours r.minutes r.seconds)
    (also (duration_of (record parts { hours = v }) r.years r.months r.weeks r.days small r.minutes r.seconds)
    (also (duration_of (record parts { minutes = v }) r.years r.months r.weeks r.days r.hours small r.seconds)
    (also (duration_of (record parts { seconds = v }) r.years r.months r.weeks r.days r.hours r.minutes small) tt))))))

more_number : (token : TokenKind) (parts : DurationParts) → IsShort token → HasSixDigits parts
    → HasSixDigits (with_duration_field parts token)
more_number (Field letter value digits) parts small r =
    given HasSixDigits duration_fields parts letter value (each_number parts value small r) r
more_number token parts small r = r

more_numbers : (tokens : List TokenKind) (parts : DurationParts) → AreShort tokens → HasSixDigits parts
    → HasSixDigits (with_duration_fields parts tokens)
more_numbers [] parts small r = r
more_numbers (token ∷ tokens) parts small r = more_numbers tokens (with_duration_field parts token) small.1
    (more_number token parts small.0 r)

pub valid_numbers : (tokens : List TokenKind) → AreShort tokens → HasSixDigits (with_duration_fields zero_parts tokens)
valid_numbers tokens small = more_numbers tokens zero_parts small
    (record {
      years = omega arith;
      months = omega arith;
      weeks = omega arith;
      days = omega arith;
      hours = omega arith;
      minutes =
          omega arith;
      seconds = omega arith;
    })
