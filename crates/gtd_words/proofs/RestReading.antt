-- An end, and a duration, are read off their pieces.
use Rattle.std.proofs.Common.{◌≡◌, ◌≢◌, ℕ, ◌+◌, ◌*◌, ◌/◌, ◌%◌, ◌^◌, ◌<◌, ◌≤◌, Bool, true, false, cond, List, [], ◌∷◌, ◌++◌}
use Rattle.std.proofs.Common.{Option}
use Rattle.std.proofs.Common.{Some, None, refl, sym, ap, ◌∙◌, arith}
use Rattle.std.specs.Prelude.{◌==◌, ◌&&◌, ◌||◌, not}
use Rattle.std.proofs.lemmas.Bool.{false≢true, and_parts, eq-eqb, eqb-true}
use Rattle.gtd_core.specs.declared.duration.DurationParts.{DurationParts}
use Rattle.gtd_core.specs.declared.start.StartParts.{StartParts}
use Rattle.gtd_ends.specs.Endings.{ending, is_all_day, is_written, usual}
use Rattle.gtd_ends.specs.Anchors.{anchor_of, has_clock}
use Rattle.gtd_ends.specs.Endings.{is_beginning}
use Rattle.gtd_ends.specs.declared.end.End.{End}
use Rattle.gtd_ends.specs.declared.end.End.TheVariants.{Clock, Date, Weekday, WithDate, WithFebruary, WithWeekday}
use Rattle.gtd_languages.specs.declared.word.Counted.{Counted}
use Rattle.gtd_languages.specs.declared.word.Counted.TheVariants.{DaysLater, EndHour, EndMinute, EndSecond}
use Rattle.gtd_languages.specs.declared.word.Fixed.{Fixed}
use Rattle.gtd_languages.specs.declared.word.Fixed.TheVariants.{AllDay, Included, NextDay}
use Rattle.gtd_phrases.specs.declared.phrase.Phrase.{Phrase}
use Rattle.gtd_phrases.specs.declared.phrase.Phrase.TheVariants.{Also, Lasting, Numbered, Said, UntilDate, UntilFebruary}
use Rattle.gtd_phrases.specs.declared.phrase.Phrase.TheVariants.{UntilHour, UntilWeekday}
use Rattle.gtd_phrases.specs.declared.phrase.Piece.{Piece}
use Rattle.gtd_languages.specs.declared.word.Unit.{Unit as TimeUnit}
use Rattle.gtd_languages.specs.declared.word.Unit.TheVariants.{Days, Hours, Minutes, Months, Seconds, Weeks, Years}
use Rattle.gtd_words.specs.Durations.{clock_sum, date_pieces, date_sum, duration_pieces, number_pieces, time_pieces}
use Rattle.gtd_words.specs.Starts.{count, say}
use Rattle.gtd_words.specs.Untils.{day_after, minute_of_end, rest_pieces, tail_pieces, until_pieces}

-- ---- durations

abbrev pub make : ℕ → ℕ → ℕ → ℕ → ℕ → ℕ → ℕ → DurationParts
make years months weeks days hours minutes seconds = record {
  years = years;
  months = months;
  weeks = weeks;
  days = days;
  hours = hours;
  minutes = minutes;
  seconds = seconds;
}

abbrev pub zeros : DurationParts
zeros = make 0 0 0 0 0 0 0

abbrev with_unit : TimeUnit → ℕ → DurationParts → DurationParts
with_unit Years n d = record d { years = n }
with_unit Months n d = record d { months = n }
with_unit Weeks n d = record d { weeks = n }
with_unit Days n d = record d { days = n }
with_unit Hours n d = record d { hours = n }
with_unit Minutes n d = record d { minutes = n }
with_unit Seconds n d = record d { seconds = n }

abbrev lasts : Phrase → ℕ → DurationParts → DurationParts
lasts (Lasting unit) n d = with_unit unit n d
lasts (Also unit) n d = with_unit unit n d
lasts other n d = d

abbrev pub lasting : List Piece → DurationParts → DurationParts
lasting [] d = d
lasting (p ∷ P) d = lasting P (lasts p.phrase p.number d)

pub lasting-append : (P Q : List Piece) (d : DurationParts) → lasting (P ++ Q) d ≡ lasting Q (lasting P d)
lasting-append [] Q d = refl
lasting-append (p ∷ P) Q d = lasting-append P Q (lasts p.phrase p.number d)

-- a number adds to its unit, which is 0 before
number_by : (b c : Bool) (n : ℕ) (u : TimeUnit) (d : DurationParts) → (n == 0) ≡ b → with_unit u 0 d ≡ d
    → lasting (cond b [] (cond c (count (Lasting u) n) (count (Also u) n) ∷ [])) d ≡ with_unit u n d
number_by true c n u d e z = sym z ∙ ap (λ (m : ℕ). with_unit u m d) (sym (eqb-true n 0 e))
number_by false true n u d e z = refl
number_by false false n u d e z = refl

number_read : (b n : ℕ) (u : TimeUnit) (d : DurationParts) → with_unit u 0 d ≡ d → lasting (number_pieces b n u) d
    ≡ with_unit u n d
number_read b n u d z = number_by (n == 0) (b == 0) n u d refl z

then : (P Q : List Piece) (d e f : DurationParts) → lasting P d ≡ e → lasting Q e ≡ f → lasting (P ++ Q) d ≡ f
then P Q d e f p q = lasting-append P Q d ∙ ap (λ (x : DurationParts). lasting Q x) p ∙ q

dates_read : (d : DurationParts) → lasting (date_pieces d) zeros ≡ make d.years d.months d.weeks d.days 0 0 0
unfolding date_pieces
dates_read d =
    then (number_pieces 0 d.years Years ++ number_pieces d.years d.months Months
    ++ number_pieces (d.years + d.months) d.weeks Weeks) (number_pieces (d.years + d.months + d.weeks) d.days Days) zeros
    (make d.years d.months d.weeks 0 0 0 0) (make d.years d.months d.weeks d.days 0 0 0)
    (then (number_pieces 0 d.years Years ++ number_pieces d.years d.months Months)
    (number_pieces (d.years + d.months) d.weeks Weeks) zeros (make d.years d.months 0 0 0 0 0)
    (make d.years d.months d.weeks 0 0 0 0)
    (then (number_pieces 0 d.years Years) (number_pieces d.years d.months Months) zeros (make d.years 0 0 0 0 0 0)
    (make d.years d.months 0 0 0 0 0) (number_read 0 d.years Years zeros refl)
    (number_read d.years d.months Months (make d.years 0 0 0 0 0 0) refl))
    (number_read (d.years + d.months) d.weeks Weeks (make d.years d.months 0 0 0 0 0) refl))
    (number_read (d.years + d.months + d.weeks) d.days Days (make d.years d.months d.weeks 0 0 0 0) refl)

times_read : (d : DurationParts) → lasting (time_pieces d) (make d.years d.months d.weeks d.days 0 0 0) ≡ d
unfolding time_pieces
times_read d =
    then (number_pieces (date_sum d) d.hours Hours ++ number_pieces (date_sum d + d.hours) d.minutes Minutes)
    (number_pieces (date_sum d + d.hours + d.minutes) d.seconds Seconds) (make d.years d.months d.weeks d.days 0 0 0)
    (make d.years d.months d.weeks d.days d.hours d.minutes 0) d
    (then (number_pieces (date_sum d) d.hours Hours) (number_pieces (date_sum d + d.hours) d.minutes Minutes)
    (make d.years d.months d.weeks d.days 0 0 0) (make d.years d.months d.weeks d.days d.hours 0 0)
    (make d.years d.months d.weeks d.days d.hours d.minutes 0)
    (number_read (date_sum d) d.hours Hours (make d.years d.months d.weeks d.days 0 0 0) refl)
    (number_read (date_sum d + d.hours) d.minutes Minutes (make d.years d.months d.weeks d.days d.hours 0 0) refl))
    (number_read (date_sum d + d.hours + d.minutes) d.seconds Seconds
    (make d.years d.months d.weeks d.days d.hours d.minutes 0) refl)

all_zero : (a b c d e f g : ℕ) → a + b + c + d + (e + f + g) ≡ 0 → zeros ≡ make a b c d e f g
all_zero a b c d e f g z =
    let ea : 0 ≡ a = omega (arith, z) in
    let eb : 0 ≡ b = omega (arith, z) in
    let ec : 0 ≡ c = omega (arith, z) in
    let ed : 0 ≡ d = omega (arith, z) in
    let ee : 0 ≡ e = omega (arith, z) in
    let ef : 0 ≡ f = omega (arith, z) in
    let eg : 0 ≡ g = omega (arith, z) in
    ap (λ (x : ℕ). make x 0 0 0 0 0 0) ea ∙ ap (λ (x : ℕ). make a x 0 0 0 0 0) eb ∙ ap (λ (x : ℕ). make a b x 0 0 0 0) ec
    ∙ ap (λ (x : ℕ). make a b c x 0 0 0) ed ∙ ap (λ (x : ℕ). make a b c d x 0 0) ee
    ∙ ap (λ (x : ℕ). make a b c d e x 0) ef ∙ ap (λ (x : ℕ). make a b c d e f x) eg

pub both_read : (d : DurationParts) → lasting (date_pieces d ++ time_pieces d) zeros ≡ d
both_read d = then (date_pieces d) (time_pieces d) zeros (make d.years d.months d.weeks d.days 0 0 0) d (dates_read d)
    (times_read d)

duration_by : (b : Bool) (d : DurationParts) → (date_sum d + clock_sum d == 0) ≡ b
    → lasting (cond b (count (Lasting Seconds) 0 ∷ []) (date_pieces d ++ time_pieces d)) zeros ≡ d
duration_by true d e =
    all_zero d.years d.months d.weeks d.days d.hours d.minutes d.seconds (eqb-true (date_sum d + clock_sum d) 0 e)
duration_by false d e = both_read d

-- The pieces of a duration say the duration.
pub duration_read : (d : DurationParts) → lasting (duration_pieces d) zeros ≡ d
unfolding duration_pieces
duration_read d = duration_by (date_sum d + clock_sum d == 0) d refl

-- ---- ends

-- what an end says: which kind it is, its weekday or month, its day, its time, and how many days later it is
pub record Parts : Type 0 where
  pub kind : ℕ
  pub name : ℕ
  pub day : ℕ
  pub hour : ℕ
  pub minute : ℕ
  pub second : ℕ
  pub days : ℕ

abbrev parts : ℕ → ℕ → ℕ → ℕ → ℕ → ℕ → ℕ → Parts
parts kind name day hour minute second days = record {
  kind = kind;
  name = name;
  day = day;
  hour = hour;
  minute = minute;
  second = second;
  days = days;
}

abbrev nothing : Parts
nothing = parts 0 0 0 0 0 0 0

abbrev counted_ends : Counted → ℕ → Parts → Parts
counted_ends EndHour n e = record e { hour = n }
counted_ends EndMinute n e = record e { minute = n }
counted_ends EndSecond n e = record e { second = n }
counted_ends DaysLater n e = record e { days = n }
counted_ends other n e = e

abbrev ends : Phrase → ℕ → Parts → Parts
ends (UntilHour after) n e = record e { kind = 1; hour = n }
ends (UntilWeekday after w) n e = record e { kind = 2; name = w }
ends (UntilDate after m) n e = record e { kind = 4; name = m; day = n }
ends (UntilFebruary after) n e = record e { kind = 6 }
ends (Said Included) n e = record e { kind = e.kind + 1 }
ends (Said NextDay) n e = record e { days = 1 }
ends (Numbered counted) n e = counted_ends counted n e
ends other n e = e

abbrev ending_of : List Piece → Parts → Parts
ending_of [] e = e
ending_of (p ∷ P) e = ending_of P (ends p.phrase p.number e)

-- what an end is
abbrev parts_of : End → Parts
parts_of (Clock end) = parts 1 0 0 (end.1 / 3600) (end.1 / 60 % 60) (end.1 % 60) end.0
parts_of (Weekday end) = parts 2 end.0 0 (end.1 / 3600) (end.1 / 60 % 60) (end.1 % 60) 0
parts_of (WithWeekday end) = parts 3 end 0 0 0 0 0
parts_of (Date end) = parts 4 end.0 end.1 (end.2 / 3600) (end.2 / 60 % 60) (end.2 % 60) 0
parts_of (WithDate end) = parts 5 end.0 end.1 0 0 0 0
parts_of WithFebruary = parts 6 0 0 0 0 0 0

days_by : (b c : Bool) (n : ℕ) (k a d h m s : ℕ) → (n == 0) ≡ b → (n == 1) ≡ c
    → ending_of (cond b [] (cond c (say (Said NextDay)) (count (Numbered DaysLater) n) ∷ [])) (parts k a d h m s 0)
    ≡ parts k a d h m s n
days_by true c n k a d h m s e f = ap (λ (x : ℕ). parts k a d h m s x) (sym (eqb-true n 0 e))
days_by false true n k a d h m s e f = ap (λ (x : ℕ). parts k a d h m s x) (sym (eqb-true n 1 f))
days_by false false n k a d h m s e f = refl

minute_by : (b : Bool) (t n k a d h : ℕ) (R : List Piece) (e : Parts) → (t % 60 == 0) ≡ b
    → ending_of R (parts k a d h (t / 60 % 60) (t % 60) 0) ≡ e
    → ending_of (count (Numbered EndMinute) (t / 60 % 60) ∷ (cond b [] (count (Numbered EndSecond) (t % 60) ∷ []) ++ R))
    (parts k a d h 0 0 0) ≡ e
minute_by true t n k a d h R e z more =
    ap (λ (x : ℕ). ending_of R (parts k a d h (t / 60 % 60) x 0)) (sym (eqb-true (t % 60) 0 z)) ∙ more
minute_by false t n k a d h R e z more = more

minute_alone : (b : Bool) (t k a d h : ℕ) → (t % 60 == 0) ≡ b
    → ending_of (count (Numbered EndMinute) (t / 60 % 60) ∷ cond b [] (count (Numbered EndSecond) (t % 60) ∷ []))
    (parts k a d h 0 0 0) ≡ parts k a d h (t / 60 % 60) (t % 60) 0
minute_alone true t k a d h z = ap (λ (x : ℕ). parts k a d h (t / 60 % 60) x 0) (sym (eqb-true (t % 60) 0 z))
minute_alone false t k a d h z = refl

-- The pieces of an end say the end.
pub end_read : (after : Bool) (end : End) → ending_of (until_pieces after end) nothing ≡ parts_of end
unfolding until_pieces
end_read after (Clock end) =
    minute_by (end.1 % 60 == 0) end.1 0 1 0 0 (end.1 / 3600) (day_after end.0) (parts_of (Clock end)) refl
    (days_by (end.0 == 0) (end.0 == 1) end.0 1 0 0 (end.1 / 3600) (end.1 / 60 % 60) (end.1 % 60) refl refl)
end_read after (Weekday end) = minute_alone (end.1 % 60 == 0) end.1 2 end.0 0 (end.1 / 3600) refl
end_read after (WithWeekday end) = refl
end_read after (Date end) = minute_alone (end.2 % 60 == 0) end.2 4 end.0 end.1 (end.2 / 3600) refl
end_read after (WithDate end) = refl
end_read after WithFebruary = refl

same_second : (a b : ℕ) → a / 3600 ≡ b / 3600 → a / 60 % 60 ≡ b / 60 % 60 → a % 60 ≡ b % 60 → a ≡ b
same_second a b h m s = omega (arith, h, m, s)

pair_same : (p q : ℕ × ℕ) → p.0 ≡ q.0 → p.1 ≡ q.1 → p ≡ q
pair_same p q e h =
    let pair : ℕ → ℕ → ℕ × ℕ = λ m n. (m, n) in
    ap (λ (k : ℕ). pair k p.1) e ∙ ap (λ (k : ℕ). pair q.0 k) h

three_same : (p q : ℕ × ℕ × ℕ) → p.0 ≡ q.0 → p.1 ≡ q.1 → p.2 ≡ q.2 → p ≡ q
three_same p q e h i =
    let make3 : ℕ → ℕ → ℕ → ℕ × ℕ × ℕ = λ a b c. (a, b, c) in
    ap (λ (k : ℕ). make3 k p.1 p.2) e ∙ ap (λ (k : ℕ). make3 q.0 k p.2) h ∙ ap (λ (k : ℕ). make3 q.0 q.1 k) i

record SameParts (x y : Parts) : Type 0 where
  name : x.name ≡ y.name
  day : x.day ≡ y.day
  hour : x.hour ≡ y.hour
  minute : x.minute ≡ y.minute
  second : x.second ≡ y.second
  days : x.days ≡ y.days

same_parts : (x y : Parts) → x ≡ y → SameParts x y
same_parts x y e = record {
  name = ap (λ (p : Parts). p.name) e;
  day = ap (λ (p : Parts). p.day) e;
  hour = ap (λ (p : Parts). p.hour) e;
  minute = ap (λ (p : Parts). p.minute) e;
  second = ap (λ (p : Parts). p.second) e;
  days = ap (λ (p : Parts). p.days) e;
}

abbrev kind_of : End → ℕ
kind_of end = (parts_of end).kind

by_kind : (a b : End) → (kind_of a == kind_of b) ≡ true → SameParts (parts_of a) (parts_of b) → a ≡ b
by_kind (Clock a) (Clock b) t e =
    ap (λ (x : ℕ × ℕ). Clock x) (pair_same a b e.days (same_second a.1 b.1 e.hour e.minute e.second))
by_kind (Weekday a) (Weekday b) t e =
    ap (λ (x : ℕ × ℕ). Weekday x) (pair_same a b e.name (same_second a.1 b.1 e.hour e.minute e.second))
by_kind (WithWeekday a) (WithWeekday b) t e = ap (λ (x : ℕ). WithWeekday x) e.name
by_kind (Date a) (Date b) t e =
    ap (λ (x : ℕ × ℕ × ℕ). Date x) (three_same a b e.name e.day (same_second a.2 b.2 e.hour e.minute e.second))
by_kind (WithDate a) (WithDate b) t e = ap (λ (x : ℕ × ℕ). WithDate x) (pair_same a b e.name e.day)
by_kind WithFebruary WithFebruary t e = refl
by_kind a b t e = absurd (false≢true t)

pub same_end : (after later : Bool) (a b : End) → until_pieces after a ≡ until_pieces later b → a ≡ b
same_end after later a b e =
    let same : parts_of a ≡ parts_of b =
    sym (end_read after a) ∙ ap (λ (P : List Piece). ending_of P nothing) e ∙ end_read later b in
    by_kind a b (eq-eqb (kind_of a) (kind_of b) (ap (λ (p : Parts). p.kind) same)) (same_parts (parts_of a) (parts_of b) same)
