-- The fields of the canonical text: one lemma for each kind of row, and one line for each row.
use Rattle.std.proofs.Common.{◌≡◌, ◌≢◌, ℕ, zero, suc, ◌+◌, ◌-◌, ◌*◌, ◌/◌, ◌%◌, ◌^◌, ◌<◌, ◌≤◌, Bool, true, false, cond, List}
use Rattle.std.proofs.Common.{[], ◌∷◌, ◌++◌, length, Option, Some, None, refl, sym, ap, ◌∙◌, arith, inl, inr, fold}
use Rattle.std.specs.Prelude.{◌==◌, ◌&&◌, bit_or, decimal, not}
use Rattle.std.specs.Char.{is_ascii_digit}
use Rattle.std.specs.List.{flat_map}
use Rattle.std.proofs.lemmas.Bool.{eqb-true, cases_eq, le-leb}
use Rattle.std.proofs.lemmas.Fmt.{digits_decimal, digits_value-decimal, decimal_nonempty, length-decimal-le}
use Rattle.gtd_core.specs.declared.start.StartParts.{StartParts}
use Rattle.gtd_core.specs.declared.duration.DurationParts.{DurationParts}
use Rattle.gtd_core.specs.FieldTable.{is_from_to, is_place_value, number_digits, year_digits, place_digits, weekday_digits}
use Rattle.gtd_core.specs.FieldTable.{weekdays_digits, nonzero_digits}
use Rattle.gtd_core.specs.Ranges.{IsStart, IsWithin, IsPlace, no_parts, HasSixDigits}
use Rattle.gtd_text.specs.declared.token.TokenKind.{TokenKind}
use Rattle.gtd_text.specs.declared.token.TokenKind.TheVariants.{Field}
use Rattle.gtd_text.specs.Canonical.{start_shown, start_text, duration_shown, duration_text, or_zero}
use Rattle.gtd_text.specs.Grammar.{each_fits}
use Rattle.gtd_text.specs.ComputedFields.{is_start_letter, is_duration_letter, is_start_value, has_letter, fits_start}
use Rattle.gtd_text.specs.Grammar.{zero_parts}
use Rattle.gtd_text.specs.ComputedFields.{fits_duration, with_start_field, with_duration_field}
use Rattle.gtd_text.specs.TokenAt.{field_number}
use Rattle.gtd_text.specs.facts.Builds.{and_left, and_right}
use Rattle.gtd_text.specs.facts.Ranges.{from_to}
use Rattle.gtd_text.specs.facts.TokenForms.{own}
use Rattle.gtd_text.specs.facts.TokenWords.{Word, text_of, kinds_of, AreDigits}
use Rattle.gtd_text.specs.facts.ShownFields.{Each, IsShown, AreShown, done, more, AreFields, are_fields, and_both, numbers_words}
use Rattle.gtd_text.specs.facts.ShownFields.{shown_words, text_of-shown, or_zero_words, or_zero_text, or_zero_fields}

-- ---- digits

digit : (d : ℕ) → d < 10 → is_ascii_digit (48 + d) ≡ true
digit d small = rw (le-leb 48 (48 + d) (omega arith)) (le-leb (48 + d) 57 (omega arith))

decimal_are : (n : ℕ) → n ≤ 999999 → AreDigits (decimal n)
decimal_are n few =
    let small : n < 2 ^ 64 = omega arith in
    record {
      all = digits_decimal own n small;
      some = decimal_nonempty n small;
      few = length-decimal-le 6 n (omega arith) (omega arith) small;
    }

decimal_means : (n : ℕ) → n ≤ 999999 → field_number (decimal n) ≡ n
decimal_means n few = digits_value-decimal own n (omega arith)

from_to_holds : (low high n : ℕ) → low ≤ n → n ≤ high → is_from_to low high n ≡ true
from_to_holds low high n le le' = rw (le-leb low n le) (le-leb n high le')

-- ---- a field that has no number, or one

none_shown : {Parts : Type 0} {may_follow : List TokenKind → TokenKind → Bool} {with_field : Parts → TokenKind → Parts}
    (letter : ℕ) (parts next : Parts) → parts ≡ next → IsShown Parts may_follow with_field letter [] parts next
none_shown letter parts next e = record { digits = tt; fit = λ before none. refl; same = e }

one_shown : {Parts : Type 0} {may_follow : List TokenKind → TokenKind → Bool} {with_field : Parts → TokenKind → Parts}
    (letter value : ℕ) (digits : List ℕ) (parts next : Parts) → AreDigits digits → field_number digits ≡ value
    → ((before : List TokenKind) → has_letter letter before ≡ false
    → may_follow before (Field letter value (length digits)) ≡ true)
    → with_field parts (Field letter value (length digits)) ≡ next
    → IsShown Parts may_follow with_field letter (digits ∷ []) parts next
one_shown {may_follow = may_follow} {with_field = with_field} letter value digits parts next are means fits same = record {
  digits = (are, tt);
  fit = λ before none. and_both (may_follow before (Field letter (field_number digits) (length digits))) true
      (ap (λ (n : ℕ). may_follow before (Field letter n (length digits))) means ∙ fits before none) refl;
  same = ap (λ (n : ℕ). with_field parts (Field letter n (length digits))) means ∙ same;
}

-- ---- the kinds of fields of a start

abbrev IsStartField : ℕ → List (List ℕ) → StartParts → StartParts → Type 0
IsStartField letter numbers parts next = IsShown StartParts fits_start with_start_field letter numbers parts next

fits_by : (known many has value : Bool) → known ≡ true → has ≡ false → value ≡ true
    → (known && not (many && has) && value) ≡ true
fits_by true true false true h k e = refl
fits_by true false false true h k e = refl
fits_by false many has value h k e = absurd cc
fits_by true many true value h k e = absurd cc
fits_by true many false false h k e = absurd cc

start_field : (letter value : ℕ) (digits : List ℕ) (parts next : StartParts) → is_start_letter letter ≡ true → AreDigits digits
    → field_number digits ≡ value → is_start_value letter value (length digits) ≡ true
    → with_start_field parts (Field letter value (length digits)) ≡ next → IsStartField letter (digits ∷ []) parts next
start_field letter value digits parts next known are means fits same =
    one_shown letter value digits parts next are means
    (λ before none. fits_by (is_start_letter letter) (not (letter == 116)) (has_letter letter before)
    (is_start_value letter value (length digits)) known none fits) same

number : (letter low high : ℕ) (parts : StartParts) (set : StartParts → Option ℕ → StartParts) (o : Option ℕ)
    → is_start_letter letter ≡ true → high ≤ 999999
    → ((v d : ℕ) → low ≤ v → v ≤ high → is_start_value letter v d ≡ true) → parts ≡ set parts None
    → ((v d : ℕ) → with_start_field parts (Field letter v d) ≡ set parts (Some v)) → IsWithin low high o
    → IsStartField letter (number_digits o) parts (set parts o)
number letter low high parts set None known few takes none some h = none_shown letter parts (set parts None) none
number letter low high parts set (Some n) known few takes none some h =
    let most = h.1 in
    start_field letter n (decimal n) parts (set parts (Some n)) known (decimal_are n (omega arith))
    (decimal_means n (omega arith)) (takes n (length (decimal n)) h.0 h.1) (some n (length (decimal n)))

four_digits : ℕ → List ℕ
four_digits year = (48 + year / 1000) ∷ (48 + year / 100 % 10) ∷ (48 + year / 10 % 10) ∷ (48 + year % 10) ∷ []

year_are : (year : ℕ) → year ≤ 9999 → AreDigits (four_digits year)
unfolding four_digits
year_are year small = record {
  all = rw (
    digit (year / 1000) (omega arith),
    digit (year / 100 % 10) (omega arith),
    digit (year / 10 % 10) (omega arith),
    digit (year % 10) (omega arith),
  ) refl;
  some = omega arith;
  few = omega arith;
}

year_means : (year : ℕ) → year ≤ 9999 → field_number (four_digits year) ≡ year
unfolding four_digits
year_means year small = omega arith

year_field : (parts : StartParts) (o : Option ℕ) → parts ≡ record parts { year = None } → IsWithin 0 9999 o
    → IsStartField 121 (year_digits o) parts (record parts { year = o })
unfolding four_digits
year_field parts None none h = none_shown 121 parts (record parts { year = None }) none
year_field parts (Some year) none h = start_field 121 year (four_digits year) parts (record parts { year = Some year }) refl
    (year_are year h.1) (year_means year h.1) (le-leb year 9999 h.1) refl

place_are : (n weekday : ℕ) → n < 10 → weekday < 10 → AreDigits ((48 + n) ∷ (48 + weekday) ∷ [])
place_are n weekday small small' = record {
  all = rw (digit n small, digit weekday small') refl;
  some = omega arith;
  few = omega arith;
}

place_means : (n weekday : ℕ) → n < 10 → weekday < 10 → field_number ((48 + n) ∷ (48 + weekday) ∷ []) ≡ n * 10 + weekday
place_means n weekday small small' = omega arith

place_value : (n weekday : ℕ) → 1 ≤ n → n ≤ 5 → 1 ≤ weekday → weekday ≤ 7 → is_place_value (n * 10 + weekday) 2 ≡ true
place_value n weekday a b c d =
    let front : (n * 10 + weekday) / 10 ≡ n = omega arith in
    let back : (n * 10 + weekday) % 10 ≡ weekday = omega arith in
    ap (λ (m : ℕ). is_from_to 1 5 m && is_from_to 1 7 ((n * 10 + weekday) % 10)) front
    ∙ ap (λ (m : ℕ). is_from_to 1 5 n && is_from_to 1 7 m) back
    ∙ ap (λ (x : Bool). x && is_from_to 1 7 weekday) (from_to_holds 1 5 n a b)
    ∙ from_to_holds 1 7 weekday c d

same_place : (n weekday : ℕ) → weekday < 10 → ◌≡◌ {A = ℕ × ℕ} ((n * 10 + weekday) / 10, (n * 10 + weekday) % 10) (n, weekday)
same_place n weekday small =
    let front : (n * 10 + weekday) / 10 ≡ n = omega arith in
    let back : (n * 10 + weekday) % 10 ≡ weekday = omega arith in
    let pair : ℕ → ℕ → ℕ × ℕ = λ a b. (a, b) in
    ap (λ (m : ℕ). pair m ((n * 10 + weekday) % 10)) front ∙ ap (pair n) back

place : (letter : ℕ) (parts : StartParts) (set : StartParts → Option (ℕ × ℕ) → StartParts) (o : Option (ℕ × ℕ))
    → is_start_letter letter ≡ true → ((v d : ℕ) → is_place_value v d ≡ true → is_start_value letter v d ≡ true)
    → parts ≡ set parts None → ((v d : ℕ) → with_start_field parts (Field letter v d) ≡ set parts (Some (v / 10, v % 10)))
    → IsPlace o → IsStartField letter (place_digits o) parts (set parts o)
place letter parts set None known takes none some h = none_shown letter parts (set parts None) none
place letter parts set (Some at) known takes none some h =
    let n = h.1 in
    let weekday = h.3 in
    start_field letter (at.0 * 10 + at.1) ((48 + at.0) ∷ (48 + at.1) ∷ []) parts (set parts (Some at)) known
    (place_are at.0 at.1 (omega arith) (omega arith)) (place_means at.0 at.1 (omega arith) (omega arith))
    (takes (at.0 * 10 + at.1) 2 (place_value at.0 at.1 h.0 h.1 h.2 h.3))
    (some (at.0 * 10 + at.1) 2 ∙ ap (λ (p : ℕ × ℕ). set parts (Some p)) (same_place at.0 at.1 (omega arith)))

-- ---- weekdays

one_digit : (n : ℕ) → n < 10 → AreDigits ((48 + n) ∷ [])
one_digit n small = record { all = rw (digit n small) refl; some = omega arith; few = omega arith }

day_means : (k : ℕ) → field_number ((48 + k) ∷ []) ≡ k
day_means k = omega arith

-- the digit of a weekday if it is given, and then others
abbrev and_days : Bool → ℕ → List (List ℕ) → List (List ℕ)
and_days b k others = cond b (((48 + k) ∷ []) ∷ []) [] ++ others

days_are : (b : Bool) (k : ℕ) (others : List (List ℕ)) → k < 10 → Each AreDigits others → Each AreDigits (and_days b k others)
days_are true k others small h = (one_digit k small, h)
days_are false k others small h = h

abbrev AlwaysFit : List (List ℕ) → Type 0
AlwaysFit numbers = (before : List TokenKind) → each_fits fits_start before (kinds_of (numbers_words 116 numbers)) ≡ true

days_fit : (b : Bool) (k : ℕ) (others : List (List ℕ)) → is_from_to 1 7 k ≡ true → AlwaysFit others
    → AlwaysFit (and_days b k others)
days_fit true k others is h before =
    and_both (is_from_to 1 7 (field_number ((48 + k) ∷ []))) _ (ap (is_from_to 1 7) (day_means k) ∙ is)
    (h (Field 116 (field_number ((48 + k) ∷ [])) 1 ∷ before))
days_fit false k others is h before = h before

-- the weekdays, with this one if it is given
abbrev weekday_step : ℕ → ℕ → ℕ → ℕ
weekday_step w before k = cond (w / 2 ^ (k - 1) % 2 == 1) (bit_or before (2 ^ (k - 1))) before

days_give : (b : Bool) (k : ℕ) (others : List (List ℕ)) (parts : StartParts)
    → fold with_start_field parts (kinds_of (numbers_words 116 (and_days b k others)))
    ≡ fold with_start_field (record parts { weekdays = cond b (bit_or parts.weekdays (2 ^ (k - 1))) parts.weekdays })
    (kinds_of (numbers_words 116 others))
days_give true k others parts =
    ap (λ (n : ℕ). fold with_start_field (record parts { weekdays = bit_or parts.weekdays (2 ^ (n - 1)) })
    (kinds_of (numbers_words 116 others))) (day_means k)
days_give false k others parts = refl

abbrev all_days : List ℕ → Bool
all_days [] = true
all_days (k ∷ days) = is_from_to 1 7 k && all_days days

each_day_are : (w : ℕ) (days : List ℕ) → all_days days ≡ true → Each AreDigits (flat_map (weekday_digits w) days)
each_day_are w [] h = tt
each_day_are w (k ∷ days) h =
    let most = (from_to 1 7 k (and_left _ (all_days days) h)).1 in
    days_are (w / 2 ^ (k - 1) % 2 == 1) k (flat_map (weekday_digits w) days) (omega arith)
    (each_day_are w days (and_right (is_from_to 1 7 k) _ h))

each_day_fits : (w : ℕ) (days : List ℕ) → all_days days ≡ true → AlwaysFit (flat_map (weekday_digits w) days)
each_day_fits w [] h = λ before. refl
each_day_fits w (k ∷ days) h =
    days_fit (w / 2 ^ (k - 1) % 2 == 1) k (flat_map (weekday_digits w) days) (and_left _ (all_days days) h)
    (each_day_fits w days (and_right (is_from_to 1 7 k) _ h))

each_day_gives : (w : ℕ) (days : List ℕ) (parts : StartParts)
    → fold with_start_field parts (kinds_of (numbers_words 116 (flat_map (weekday_digits w) days)))
    ≡ record parts { weekdays = fold (weekday_step w) parts.weekdays days }
each_day_gives w [] parts = refl
each_day_gives w (k ∷ days) parts =
    days_give (w / 2 ^ (k - 1) % 2 == 1) k (flat_map (weekday_digits w) days) parts
    ∙ each_day_gives w days (record parts { weekdays = weekday_step w parts.weekdays k })

abbrev week : List ℕ
week = 1 ∷ 2 ∷ 3 ∷ 4 ∷ 5 ∷ 6 ∷ 7 ∷ []

come_back : ℕ → Bool
come_back zero = true
come_back (suc n) = (fold (weekday_step n) 0 week == n) && come_back n

all_come_back : come_back 128 ≡ true
unfolding come_back
all_come_back = refl

below_come_back : (n w : ℕ) → come_back n ≡ true → w < n → fold (weekday_step w) 0 week ≡ w
unfolding come_back
below_come_back zero w h lt = absurd (omega arith)
below_come_back (suc n) w h lt = elim (cases_eq w n) [
  | inl same ↦ ap (λ (m : ℕ). fold (weekday_step m) 0 week) same
      ∙ eqb-true _ _ (and_left (fold (weekday_step n) 0 week == n) (come_back n) h) ∙ sym same
  | inr other ↦ below_come_back n w (and_right (fold (weekday_step n) 0 week == n) _ h) (omega (arith, other))
]

weekdays_field : (parts : StartParts) (w : ℕ) → parts.weekdays ≡ 0 → w < 128
    → IsStartField 116 (weekdays_digits w) parts (record parts { weekdays = w })
weekdays_field parts w none small = record {
  digits = each_day_are w week refl;
  fit = λ before others. each_day_fits w week refl before;
  same = each_day_gives w week parts
      ∙ ap (λ (m : ℕ). record parts { weekdays = m }) (ap (λ (m : ℕ). fold (weekday_step w) m week) none
      ∙ below_come_back 128 w all_come_back small);
}

-- ---- a start, row by row

pub start_rows : (start : StartParts) → IsStart start
    → AreShown StartParts fits_start with_start_field no_parts (start_shown start) start
start_rows start h =
    more _ _ _ _ _ _ (year_field _ start.year refl h.year)
    (more _ _ _ _ _ _ (number 77 1 12 _ (λ p n. record p { month = n }) start.month refl (omega arith)
    (λ v d. from_to_holds 1 12 v) refl (λ v d. refl) h.month)
    (more _ _ _ _ _ _ (number 119 1 53 _ (λ p n. record p { week = n }) start.week refl (omega arith)
    (λ v d. from_to_holds 1 53 v) refl (λ v d. refl) h.week)
    (more _ _ _ _ _ _ (place 102 _ (λ p at. record p { nth = at }) start.nth refl (λ v d is. is) refl (λ v d. refl) h.nth)
    (more _ _ _ _ _ _ (place 108 _ (λ p at. record p { nth_back = at }) start.nth_back refl (λ v d is. is) refl (λ v d. refl)
    h.nth_back)
    (more _ _ _ _ _ _ (number 100 1 31 _ (λ p n. record p { day = n }) start.day refl (omega arith)
    (λ v d. from_to_holds 1 31 v) refl (λ v d. refl) h.day)
    (more _ _ _ _ _ _ (weekdays_field _ start.weekdays refl h.weekdays)
    (more _ _ _ _ _ _ (number 104 0 23 _ (λ p n. record p { hour = n }) start.hour refl (omega arith)
    (λ v d low. le-leb v 23) refl (λ v d. refl) h.hour)
    (more _ _ _ _ _ _ (number 109 0 59 _ (λ p n. record p { minute = n }) start.minute refl (omega arith)
    (λ v d low. le-leb v 59) refl (λ v d. refl) h.minute)
    (more _ _ _ _ _ _ (number 115 0 59 _ (λ p n. record p { second = n }) start.second refl (omega arith)
    (λ v d low. le-leb v 59) refl (λ v d. refl) h.second)
    (done start))))))))))

abbrev pub start_words : StartParts → List Word
start_words start = shown_words (start_shown start)

pub start_fields : (start : StartParts) → IsStart start
    → AreFields StartParts fits_start with_start_field (start_words start) no_parts start
start_fields start h = are_fields no_parts start (start_shown start) (start_rows start h) refl

pub start_words_text : (start : StartParts) → text_of (start_words start) ≡ start_text start
unfolding start_text
start_words_text start = text_of-shown (start_shown start)

pub start_some : (start : StartParts) → IsStart start → kinds_of (start_words start) ≢ []
start_some start h none = h.given (sym (start_fields start h).same ∙ ap (fold with_start_field no_parts) none)

-- ---- a duration, row by row

abbrev IsNumber : ℕ → List (List ℕ) → DurationParts → DurationParts → Type 0
IsNumber letter numbers parts next = IsShown DurationParts fits_duration with_duration_field letter numbers parts next

fits_once : (known has : Bool) → known ≡ true → has ≡ false → (known && not has) ≡ true
fits_once true false h k = refl
fits_once true true h k = absurd cc
fits_once false has h k = absurd cc

nonzero_by : (b : Bool) (letter : ℕ) (parts : DurationParts) (set : DurationParts → ℕ → DurationParts) (n : ℕ) → (n == 0) ≡ b
    → is_duration_letter letter ≡ true → parts ≡ set parts 0
    → ((v d : ℕ) → with_duration_field parts (Field letter v d) ≡ set parts v) → n ≤ 999999
    → IsNumber letter (cond b [] (decimal n ∷ [])) parts (set parts n)
nonzero_by true letter parts set n is known none some few =
    none_shown letter parts (set parts n) (none ∙ ap (set parts) (sym (eqb-true n 0 is)))
nonzero_by false letter parts set n is known none some few =
    one_shown letter n (decimal n) parts (set parts n) (decimal_are n few) (decimal_means n few)
    (λ before once. fits_once (is_duration_letter letter) (has_letter letter before) known once) (some n (length (decimal n)))

nonzero : (letter : ℕ) (parts : DurationParts) (set : DurationParts → ℕ → DurationParts) (n : ℕ)
    → is_duration_letter letter ≡ true → parts ≡ set parts 0
    → ((v d : ℕ) → with_duration_field parts (Field letter v d) ≡ set parts v) → n ≤ 999999
    → IsNumber letter (nonzero_digits n) parts (set parts n)
nonzero letter parts set n = nonzero_by (n == 0) letter parts set n refl

pub duration_rows : (d : DurationParts) → HasSixDigits d
    → AreShown DurationParts fits_duration with_duration_field zero_parts (duration_shown d) d
duration_rows d h =
    more _ _ _ _ _ _ (nonzero 121 _ (λ p n. record p { years = n }) d.years refl refl (λ v d. refl) h.years)
    (more _ _ _ _ _ _ (nonzero 77 _ (λ p n. record p { months = n }) d.months refl refl (λ v d. refl) h.months)
    (more _ _ _ _ _ _ (nonzero 119 _ (λ p n. record p { weeks = n }) d.weeks refl refl (λ v d. refl) h.weeks)
    (more _ _ _ _ _ _ (nonzero 100 _ (λ p n. record p { days = n }) d.days refl refl (λ v d. refl) h.days)
    (more _ _ _ _ _ _ (nonzero 104 _ (λ p n. record p { hours = n }) d.hours refl refl (λ v d. refl) h.hours)
    (more _ _ _ _ _ _ (nonzero 109 _ (λ p n. record p { minutes = n }) d.minutes refl refl (λ v d. refl) h.minutes)
    (more _ _ _ _ _ _ (nonzero 115 _ (λ p n. record p { seconds = n }) d.seconds refl refl (λ v d. refl) h.seconds)
    (done d)))))))

abbrev pub duration_words : DurationParts → List Word
duration_words d = or_zero_words (shown_words (duration_shown d))

pub duration_fields : (d : DurationParts) → HasSixDigits d
    → AreFields DurationParts fits_duration with_duration_field (duration_words d) zero_parts d
duration_fields d h =
    or_zero_fields (shown_words (duration_shown d)) zero_parts d refl refl
    (are_fields zero_parts d (duration_shown d) (duration_rows d h) refl)

pub duration_words_text : (d : DurationParts) → text_of (duration_words d) ≡ duration_text d
unfolding duration_text
duration_words_text d = or_zero_text (duration_shown d) ∙ ap or_zero (text_of-shown (duration_shown d))
