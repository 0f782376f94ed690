-- Two basic domains with the same pieces are the same.
use Rattle.std.proofs.Common.{◌≡◌, ◌≢◌, ℕ, ◌+◌, ◌/◌, ◌%◌, Bool, true, false, cond, List, [], ◌∷◌, ◌++◌, Option, Some, None}
use Rattle.std.proofs.Common.{refl, sym, ap, ◌∙◌, append_assoc}
use Rattle.std.specs.Prelude.{◌==◌, ◌&&◌, ◌||◌, not}
use Rattle.std.proofs.lemmas.Bool.{false≢true, and_parts, eqb-true}
use Rattle.std.proofs.lemmas.List.{append_cancel_left}
use Rattle.gtd_core.specs.declared.duration.DurationParts.{DurationParts}
use Rattle.gtd_core.specs.declared.start.StartParts.{StartParts}
use Rattle.gtd_ends.specs.Anchors.{anchor_of, has_clock}
use Rattle.gtd_ends.specs.Endings.{ending, is_all_day, is_beginning, is_written, usual}
use Rattle.gtd_ends.specs.declared.anchor.Anchor.{Anchor}
use Rattle.gtd_ends.specs.declared.anchor.Anchor.TheVariants.{Beginning, Day, EveryDay, Place, PlaceBack, TheMonday, Weekdays}
use Rattle.gtd_ends.specs.declared.end.End.{End}
use Rattle.gtd_ends.specs.declared.end.End.TheVariants.{Clock, Date, Weekday, WithDate, WithFebruary, WithWeekday}
use Rattle.gtd_languages.specs.declared.word.Counted.TheVariants.{DaysLater, EndHour, EndMinute, EndSecond}
use Rattle.gtd_languages.specs.declared.word.Fixed.TheVariants.{AllDay, Included, NextDay}
use Rattle.gtd_phrases.specs.declared.phrase.Phrase.{Phrase}
use Rattle.gtd_phrases.specs.declared.phrase.Phrase.TheVariants.{Also, Lasting, Numbered, Said, UntilDate, UntilFebruary}
use Rattle.gtd_phrases.specs.declared.phrase.Phrase.TheVariants.{UntilHour, UntilWeekday}
use Rattle.gtd_phrases.specs.declared.phrase.Piece.{Piece}
use Rattle.gtd_languages.specs.declared.word.Unit.{Unit as TimeUnit}
use Rattle.gtd_languages.specs.declared.word.Unit.TheVariants.{Days, Hours, Minutes, Months, Seconds, Weeks, Years}
use Rattle.gtd_words.specs.Durations.{clock_sum, date_pieces, date_sum, duration_pieces, number_pieces, time_pieces}
use Rattle.gtd_words.specs.Starts.{anchor_pieces, clock_pieces, condition_pieces, count, month_pieces, period_pieces}
use Rattle.gtd_words.specs.Starts.{place_month}
use Rattle.gtd_words.specs.Starts.{say, start_pieces}
use Rattle.gtd_words.specs.Untils.{day_after, minute_of_end, rest_pieces, tail_pieces, until_pieces}
use Rattle.gtd_words.specs.Words.{basic_pieces}
use Rattle.gtd_words.proofs.RestReading.{duration_read, lasting, lasting-append, make, same_end, zeros}
use Rattle.gtd_words.proofs.StartReading.{empty, start_read, with-append, with_phrase, with_pieces}

-- ---- what is nowhere in pieces

-- None of the pieces has a phrase that this test tells.
abbrev None_of : (Phrase → Bool) → List Piece → Type 0
None_of f [] = Unit {0}
None_of f (p ∷ P) = (f p.phrase ≡ false) × None_of f P

none-append : (f : Phrase → Bool) (P Q : List Piece) → None_of f P → None_of f Q → None_of f (P ++ Q)
none-append f [] Q h k = k
none-append f (p ∷ P) Q h k = (h.0, none-append f P Q h.1 k)

abbrev any : (Phrase → Bool) → List Piece → Bool
any f [] = false
any f (p ∷ P) = cond (f p.phrase) true (any f P)

none_any : (f : Phrase → Bool) (P : List Piece) → None_of f P → any f P ≡ false
none_any f [] h = refl
none_any f (p ∷ P) h = ap (λ (b : Bool). cond b true (any f P)) h.0 ∙ none_any f P h.1

none_number : (f : Phrase → Bool) (b c : Bool) (n : ℕ) (u : TimeUnit) → f (Lasting u) ≡ false → f (Also u) ≡ false
    → None_of f (cond b [] (cond c (count (Lasting u) n) (count (Also u) n) ∷ []))
none_number f true c n u h k = tt
none_number f false true n u h k = (h, tt)
none_number f false false n u h k = (k, tt)

none_numbers : (f : Phrase → Bool) (d : DurationParts) → ((u : TimeUnit) → f (Lasting u) ≡ false)
    → ((u : TimeUnit) → f (Also u) ≡ false) → None_of f (date_pieces d ++ time_pieces d)
unfolding date_pieces time_pieces
none_numbers f d h k =
    none-append f (number_pieces 0 d.years Years ++ number_pieces d.years d.months Months
    ++ number_pieces (d.years + d.months) d.weeks Weeks ++ number_pieces (d.years + d.months + d.weeks) d.days Days) _
    (none-append f (number_pieces 0 d.years Years ++ number_pieces d.years d.months Months
    ++ number_pieces (d.years + d.months) d.weeks Weeks) _
    (none-append f (number_pieces 0 d.years Years ++ number_pieces d.years d.months Months) _
    (none-append f (number_pieces 0 d.years Years) (number_pieces d.years d.months Months)
    (none_number f (d.years == 0) (0 == 0) d.years Years (h Years) (k Years))
    (none_number f (d.months == 0) (d.years == 0) d.months Months (h Months) (k Months)))
    (none_number f (d.weeks == 0) (d.years + d.months == 0) d.weeks Weeks (h Weeks) (k Weeks)))
    (none_number f (d.days == 0) (d.years + d.months + d.weeks == 0) d.days Days (h Days) (k Days)))
    (none-append f (number_pieces (date_sum d) d.hours Hours ++ number_pieces (date_sum d + d.hours) d.minutes Minutes) _
    (none-append f (number_pieces (date_sum d) d.hours Hours) (number_pieces (date_sum d + d.hours) d.minutes Minutes)
    (none_number f (d.hours == 0) (date_sum d == 0) d.hours Hours (h Hours) (k Hours))
    (none_number f (d.minutes == 0) (date_sum d + d.hours == 0) d.minutes Minutes (h Minutes) (k Minutes)))
    (none_number f (d.seconds == 0) (date_sum d + d.hours + d.minutes == 0) d.seconds Seconds (h Seconds) (k Seconds)))

none_duration_by : (f : Phrase → Bool) (b : Bool) (d : DurationParts) → ((u : TimeUnit) → f (Lasting u) ≡ false)
    → ((u : TimeUnit) → f (Also u) ≡ false)
    → None_of f (cond b (count (Lasting Seconds) 0 ∷ []) (date_pieces d ++ time_pieces d))
none_duration_by f true d h k = (h Seconds, tt)
none_duration_by f false d h k = none_numbers f d h k

none_duration : (f : Phrase → Bool) (d : DurationParts) → ((u : TimeUnit) → f (Lasting u) ≡ false)
    → ((u : TimeUnit) → f (Also u) ≡ false) → None_of f (duration_pieces d)
unfolding duration_pieces
none_duration f d h k = none_duration_by f (date_sum d + clock_sum d == 0) d h k

none_days : (f : Phrase → Bool) (b c : Bool) (n : ℕ) → f (Said NextDay) ≡ false → f (Numbered DaysLater) ≡ false
    → None_of f (cond b [] (cond c (say (Said NextDay)) (count (Numbered DaysLater) n) ∷ []))
none_days f true c n h k = tt
none_days f false true n h k = (h, tt)
none_days f false false n h k = (k, tt)

none_minute : (f : Phrase → Bool) (b : Bool) (m s : ℕ) → f (Numbered EndMinute) ≡ false → f (Numbered EndSecond) ≡ false
    → None_of f (count (Numbered EndMinute) m ∷ cond b [] (count (Numbered EndSecond) s ∷ []))
none_minute f true m s h k = (h, tt)
none_minute f false m s h k = (h, (k, tt))

-- ---- all day, and an end alone

abbrev is_day : Phrase → Bool
is_day (Said AllDay) = true
is_day p = false

abbrev is_alone : Phrase → Bool
is_alone (UntilHour after) = not after
is_alone (UntilWeekday after w) = not after
is_alone (UntilDate after m) = not after
is_alone (UntilFebruary after) = not after
is_alone p = false

no_day_end : (after : Bool) (end : End) → None_of is_day (until_pieces after end)
unfolding until_pieces
no_day_end after (Clock end) = (
  refl,
  none-append is_day (minute_of_end end.1) (day_after end.0)
      (none_minute is_day (end.1 % 60 == 0) (end.1 / 60 % 60) (end.1 % 60) refl refl)
      (none_days is_day (end.0 == 0) (end.0 == 1) end.0 refl refl),
)
no_day_end after (Weekday end) =
    (refl, (refl, none_minute is_day (end.1 % 60 == 0) (end.1 / 60 % 60) (end.1 % 60) refl refl))
no_day_end after (WithWeekday end) = (refl, (refl, tt))
no_day_end after (Date end) =
    (refl, (refl, none_minute is_day (end.2 % 60 == 0) (end.2 / 60 % 60) (end.2 % 60) refl refl))
no_day_end after (WithDate end) = (refl, (refl, tt))
no_day_end after WithFebruary = (refl, tt)

not_alone : (end : End) → None_of is_alone (until_pieces true end)
unfolding until_pieces
not_alone (Clock end) = (
  refl,
  none-append is_alone (minute_of_end end.1) (day_after end.0)
      (none_minute is_alone (end.1 % 60 == 0) (end.1 / 60 % 60) (end.1 % 60) refl refl)
      (none_days is_alone (end.0 == 0) (end.0 == 1) end.0 refl refl),
)
not_alone (Weekday end) =
    (refl, (refl, none_minute is_alone (end.1 % 60 == 0) (end.1 / 60 % 60) (end.1 % 60) refl refl))
not_alone (WithWeekday end) = (refl, (refl, tt))
not_alone (Date end) =
    (refl, (refl, none_minute is_alone (end.2 % 60 == 0) (end.2 / 60 % 60) (end.2 % 60) refl refl))
not_alone (WithDate end) = (refl, (refl, tt))
not_alone WithFebruary = (refl, tt)

alone_end : (end : End) → any is_alone (until_pieces false end) ≡ true
unfolding until_pieces
alone_end (Clock end) = refl
alone_end (Weekday end) = refl
alone_end (WithWeekday end) = refl
alone_end (Date end) = refl
alone_end (WithDate end) = refl
alone_end WithFebruary = refl

abbrev says_alone : StartParts → DurationParts → Option End → Bool
says_alone x d None = false
says_alone x d (Some end) = is_written d (usual x end)

alone_by : (b : Bool) (d : DurationParts) (end : End)
    → any is_alone (cond b (until_pieces false end) (duration_pieces d ++ until_pieces true end)) ≡ b
alone_by true d end = alone_end end
alone_by false d end =
    none_any is_alone (duration_pieces d ++ until_pieces true end)
    (none-append is_alone (duration_pieces d) (until_pieces true end)
    (none_duration is_alone d (λ u. refl) (λ u. refl)) (not_alone end))

tail_alone : (x : StartParts) (d : DurationParts) (o : Option End) → any is_alone (tail_pieces x d o) ≡ says_alone x d o
tail_alone x d None = none_any is_alone (duration_pieces d) (none_duration is_alone d (λ u. refl) (λ u. refl))
tail_alone x d (Some end) = alone_by (is_written d (usual x end)) d end

no_day_by : (b : Bool) (d : DurationParts) (end : End)
    → None_of is_day (cond b (until_pieces false end) (duration_pieces d ++ until_pieces true end))
no_day_by true d end = no_day_end false end
no_day_by false d end =
    none-append is_day (duration_pieces d) (until_pieces true end) (none_duration is_day d (λ u. refl) (λ u. refl))
    (no_day_end true end)

no_day_tail : (x : StartParts) (d : DurationParts) (o : Option End) → None_of is_day (tail_pieces x d o)
no_day_tail x d None = none_duration is_day d (λ u. refl) (λ u. refl)
no_day_tail x d (Some end) = no_day_by (is_written d (usual x end)) d end

-- ---- what follows the pieces of a start

abbrev is_lasting : Phrase → Bool
is_lasting (Lasting u) = true
is_lasting (Also u) = true
is_lasting p = false

-- pieces of no duration say none
lasts_nothing : (P : List Piece) (d : DurationParts) → None_of is_lasting P → lasting P d ≡ d
lasts_nothing [] d h = refl
lasts_nothing (p ∷ P) d h = by_phrase p.phrase h.0 ∙ lasts_nothing P d h.1
  where
    by_phrase : (q : Phrase) → is_lasting q ≡ false → lasting (count q p.number ∷ P) d ≡ lasting P d
    by_phrase (Lasting u) e = absurd (false≢true (sym e))
    by_phrase (Also u) e = absurd (false≢true (sym e))
    by_phrase q e = refl

no_lasting : (after : Bool) (end : End) → None_of is_lasting (until_pieces after end)
unfolding until_pieces
no_lasting after (Clock end) = (
  refl,
  none-append is_lasting (minute_of_end end.1) (day_after end.0)
      (none_minute is_lasting (end.1 % 60 == 0) (end.1 / 60 % 60) (end.1 % 60) refl refl)
      (none_days is_lasting (end.0 == 0) (end.0 == 1) end.0 refl refl),
)
no_lasting after (Weekday end) =
    (refl, (refl, none_minute is_lasting (end.1 % 60 == 0) (end.1 / 60 % 60) (end.1 % 60) refl refl))
no_lasting after (WithWeekday end) = (refl, (refl, tt))
no_lasting after (Date end) =
    (refl, (refl, none_minute is_lasting (end.2 % 60 == 0) (end.2 / 60 % 60) (end.2 % 60) refl refl))
no_lasting after (WithDate end) = (refl, (refl, tt))
no_lasting after WithFebruary = (refl, tt)

tail_lasting : (x : StartParts) (d : DurationParts) (o : Option End) → says_alone x d o ≡ false
    → lasting (tail_pieces x d o) zeros ≡ d
tail_lasting x d None h = duration_read d
tail_lasting x d (Some end) h = by_usual (is_written d (usual x end)) h
  where
    by_usual : (b : Bool) → b ≡ false
        → lasting (cond b (until_pieces false end) (duration_pieces d ++ until_pieces true end)) zeros ≡ d
    by_usual true h = absurd (false≢true (sym h))
    by_usual false h =
        lasting-append (duration_pieces d) (until_pieces true end) zeros
        ∙ ap (λ (z : DurationParts). lasting (until_pieces true end) z) (duration_read d)
        ∙ lasts_nothing (until_pieces true end) d (no_lasting true end)

all_numbers : (d e : DurationParts) → d.years ≡ e.years → d.months ≡ e.months → d.weeks ≡ e.weeks → d.days ≡ e.days
    → d.hours ≡ e.hours → d.minutes ≡ e.minutes → d.seconds ≡ e.seconds → d ≡ e
all_numbers d e a b c f g h i =
    let same : make d.years d.months d.weeks d.days d.hours d.minutes d.seconds
    ≡ make e.years e.months e.weeks e.days e.hours e.minutes e.seconds = rw (a, b, c, f, g, h, i) refl in
    same

-- Durations that are written with the same years, months, days and seconds are the same.
same_written : (d e : DurationParts) (p : ℕ × ℕ × ℕ × ℕ) → is_written d p ≡ true → is_written e p ≡ true → d ≡ e
same_written d e p h k =
    let a1 = and_parts (d.years == p.0) _ h in
    let a2 = and_parts (d.months == p.1) _ a1.1 in
    let a3 = and_parts (d.weeks == 0) _ a2.1 in
    let a4 = and_parts (d.days == p.2) _ a3.1 in
    let a5 = and_parts (d.hours == p.3 / 3600) _ a4.1 in
    let a6 = and_parts (d.minutes == p.3 / 60 % 60) _ a5.1 in
    let b1 = and_parts (e.years == p.0) _ k in
    let b2 = and_parts (e.months == p.1) _ b1.1 in
    let b3 = and_parts (e.weeks == 0) _ b2.1 in
    let b4 = and_parts (e.days == p.2) _ b3.1 in
    let b5 = and_parts (e.hours == p.3 / 3600) _ b4.1 in
    let b6 = and_parts (e.minutes == p.3 / 60 % 60) _ b5.1 in
    all_numbers d e (both d.years e.years p.0 a1.0 b1.0) (both d.months e.months p.1 a2.0 b2.0)
    (both d.weeks e.weeks 0 a3.0 b3.0)
    (both d.days e.days p.2 a4.0 b4.0) (both d.hours e.hours (p.3 / 3600) a5.0 b5.0)
    (both d.minutes e.minutes (p.3 / 60 % 60) a6.0 b6.0) (both d.seconds e.seconds (p.3 % 60) a6.1 b6.1)
  where
    both : (m n k : ℕ) → (m == k) ≡ true → (n == k) ≡ true → m ≡ n
    both m n k h j = eqb-true m k h ∙ sym (eqb-true n k j)

tail_then : (x : StartParts) (d e : DurationParts) (a b : Option End) (t u : Bool) → says_alone x d a ≡ t → says_alone x e b ≡ u
    → tail_pieces x d a ≡ tail_pieces x e b → d ≡ e
tail_then x d e a b false false h k same =
    sym (tail_lasting x d a h) ∙ ap (λ (P : List Piece). lasting P zeros) same ∙ tail_lasting x e b k
tail_then x d e a b true false h k same =
    absurd (false≢true (sym (sym (tail_alone x d a ∙ h) ∙ ap (λ (P : List Piece). any is_alone P) same ∙ tail_alone x e b ∙ k)))
tail_then x d e a b false true h k same =
    absurd (false≢true (sym (tail_alone x d a ∙ h) ∙ ap (λ (P : List Piece). any is_alone P) same ∙ tail_alone x e b ∙ k))
tail_then x d e None b true true h k same = absurd (false≢true h)
tail_then x d e (Some a) None true true h k same = absurd (false≢true k)
tail_then x d e (Some a) (Some b) true true h k same =
    let end = same_end false false a b
    (sym (alone_pieces (is_written d (usual x a)) d a h) ∙ same ∙ alone_pieces (is_written e (usual x b)) e b k) in
    same_written d e (usual x b) (ap (λ (z : End). is_written d (usual x z)) (sym end) ∙ h) k
  where
    alone_pieces : (t : Bool) (d : DurationParts) (end : End) → t ≡ true
        → cond t (until_pieces false end) (duration_pieces d ++ until_pieces true end) ≡ until_pieces false end
    alone_pieces true d end h = refl
    alone_pieces false d end h = absurd (false≢true h)

last_part : (a b c : Bool) → (a && (b && c)) ≡ true → c ≡ true
last_part a b c h = (and_parts b c (and_parts a (b && c) h).1).1

abbrev rest_by : Bool → StartParts → DurationParts → List Piece
rest_by t x d = cond t (say (Said AllDay) ∷ []) (tail_pieces x d (ending x d))

rest_then_by : (x : StartParts) (d e : DurationParts) (t u : Bool) → is_all_day x d ≡ t → is_all_day x e ≡ u
    → rest_by t x d ≡ rest_by u x e → d ≡ e
unfolding is_all_day
rest_then_by x d e true true h k same =
    same_written d e (0, 0, 1, 0) (last_part (not (has_clock x)) (not (is_beginning (anchor_of x))) _ h)
    (last_part (not (has_clock x)) (not (is_beginning (anchor_of x))) _ k)
rest_then_by x d e true false h k same =
    absurd (false≢true (sym (ap (λ (P : List Piece). any is_day P) same
    ∙ none_any is_day (tail_pieces x e (ending x e)) (no_day_tail x e (ending x e)))))
rest_then_by x d e false true h k same =
    absurd (false≢true (sym (ap (λ (P : List Piece). any is_day P) (sym same)
    ∙ none_any is_day (tail_pieces x d (ending x d)) (no_day_tail x d (ending x d)))))
rest_then_by x d e false false h k same =
    tail_then x d e (ending x d) (ending x e) (says_alone x d (ending x d)) (says_alone x e (ending x e)) refl refl same

rest_then : (x : StartParts) (d e : DurationParts) → rest_pieces x d ≡ rest_pieces x e → d ≡ e
unfolding rest_pieces
rest_then x d e same = rest_then_by x d e (is_all_day x d) (is_all_day x e) refl refl same

-- ---- starts

-- phrases that say nothing of a start, and others
abbrev is_loud : Phrase → Bool
is_loud (Lasting u) = false
is_loud (Also u) = false
is_loud (UntilHour after) = false
is_loud (UntilWeekday after w) = false
is_loud (UntilDate after m) = false
is_loud (UntilFebruary after) = false
is_loud (Said AllDay) = false
is_loud (Said NextDay) = false
is_loud (Said Included) = false
is_loud (Numbered DaysLater) = false
is_loud (Numbered EndHour) = false
is_loud (Numbered EndMinute) = false
is_loud (Numbered EndSecond) = false
is_loud p = true

quiet_phrase : (q : Phrase) (n : ℕ) (s : StartParts) → is_loud q ≡ false → with_phrase q n s ≡ s
quiet_phrase (Lasting u) n s e = refl
quiet_phrase (Also u) n s e = refl
quiet_phrase (UntilHour after) n s e = refl
quiet_phrase (UntilWeekday after w) n s e = refl
quiet_phrase (UntilDate after m) n s e = refl
quiet_phrase (UntilFebruary after) n s e = refl
quiet_phrase (Said AllDay) n s e = refl
quiet_phrase (Said NextDay) n s e = refl
quiet_phrase (Said Included) n s e = refl
quiet_phrase (Numbered DaysLater) n s e = refl
quiet_phrase (Numbered EndHour) n s e = refl
quiet_phrase (Numbered EndMinute) n s e = refl
quiet_phrase (Numbered EndSecond) n s e = refl
quiet_phrase q n s e = absurd (false≢true (sym e))

quiet : (P : List Piece) (s : StartParts) → None_of is_loud P → with_pieces P s ≡ s
quiet [] s h = refl
quiet (p ∷ P) s h =
    ap (λ (z : StartParts). with_pieces P z) (quiet_phrase p.phrase p.number s h.0) ∙ quiet P s h.1

quiet_end : (after : Bool) (end : End) → None_of is_loud (until_pieces after end)
unfolding until_pieces
quiet_end after (Clock end) = (
  refl,
  none-append is_loud (minute_of_end end.1) (day_after end.0)
      (none_minute is_loud (end.1 % 60 == 0) (end.1 / 60 % 60) (end.1 % 60) refl refl)
      (none_days is_loud (end.0 == 0) (end.0 == 1) end.0 refl refl),
)
quiet_end after (Weekday end) =
    (refl, (refl, none_minute is_loud (end.1 % 60 == 0) (end.1 / 60 % 60) (end.1 % 60) refl refl))
quiet_end after (WithWeekday end) = (refl, (refl, tt))
quiet_end after (Date end) =
    (refl, (refl, none_minute is_loud (end.2 % 60 == 0) (end.2 / 60 % 60) (end.2 % 60) refl refl))
quiet_end after (WithDate end) = (refl, (refl, tt))
quiet_end after WithFebruary = (refl, tt)

quiet_tail_by : (b : Bool) (d : DurationParts) (end : End)
    → None_of is_loud (cond b (until_pieces false end) (duration_pieces d ++ until_pieces true end))
quiet_tail_by true d end = quiet_end false end
quiet_tail_by false d end =
    none-append is_loud (duration_pieces d) (until_pieces true end) (none_duration is_loud d (λ u. refl) (λ u. refl))
    (quiet_end true end)

quiet_tail : (x : StartParts) (d : DurationParts) (o : Option End) → None_of is_loud (tail_pieces x d o)
quiet_tail x d None = none_duration is_loud d (λ u. refl) (λ u. refl)
quiet_tail x d (Some end) = quiet_tail_by (is_written d (usual x end)) d end

quiet_by : (t : Bool) (x : StartParts) (d : DurationParts) → None_of is_loud (rest_by t x d)
quiet_by true x d = (refl, tt)
quiet_by false x d = quiet_tail x d (ending x d)

quiet_rest : (x : StartParts) (d : DurationParts) → None_of is_loud (rest_pieces x d)
unfolding rest_pieces
quiet_rest x d = quiet_by (is_all_day x d) x d

abbrev named : StartParts → DurationParts → Bool
named x d = has_clock x || is_all_day x d

whole_read : (x : StartParts) (d : DurationParts) → with_pieces (basic_pieces x d) empty ≡ x
unfolding basic_pieces
whole_read x d =
    with-append (start_pieces (named x d) x) (rest_pieces x d) empty
    ∙ ap (λ (s : StartParts). with_pieces (rest_pieces x d) s) (start_read (named x d) x)
    ∙ quiet (rest_pieces x d) x (quiet_rest x d)

-- ---- what follows the pieces of the same start

abbrev rest : List Piece → List Piece
rest [] = []
rest (p ∷ P) = P

after_anchor : (n k : Bool) (m : Option ℕ) (a : Anchor) (S T : List Piece) → anchor_pieces n m a ++ S ≡ anchor_pieces k m a ++ T
    → S ≡ T
after_anchor n k (Some m) (Day d) S T e = ap (λ (P : List Piece). rest P) e
after_anchor n k None (Day d) S T e = ap (λ (P : List Piece). rest P) e
after_anchor n k m (Place p) S T e = append_cancel_left (place_month m) S T (ap (λ (P : List Piece). rest P) e)
after_anchor n k m (PlaceBack p) S T e = append_cancel_left (place_month m) S T (ap (λ (P : List Piece). rest P) e)
after_anchor n k m (Weekdays w) S T e = append_cancel_left (month_pieces m) S T (ap (λ (P : List Piece). rest P) e)
after_anchor n k m EveryDay S T e = append_cancel_left (month_pieces m) S T (ap (λ (P : List Piece). rest P) e)
after_anchor n k m TheMonday S T e = append_cancel_left (month_pieces m) S T (ap (λ (P : List Piece). rest P) e)
after_anchor n k (Some m) Beginning S T e = ap (λ (P : List Piece). rest P) e
after_anchor n k None Beginning S T e = ap (λ (P : List Piece). rest P) e

four : (a b c d r : List Piece) → a ++ b ++ c ++ d ++ r ≡ a ++ (b ++ (c ++ (d ++ r)))
four a b c d r = simp append_assoc

after_start : (n k : Bool) (x : StartParts) (S T : List Piece) → start_pieces n x ++ S ≡ start_pieces k x ++ T → S ≡ T
unfolding start_pieces
after_start n k x S T e =
    let a = anchor_of x in
    let clock = clock_pieces x.hour x.minute x.second in
    append_cancel_left clock S T
    (append_cancel_left (condition_pieces a x) (clock ++ S) (clock ++ T)
    (append_cancel_left (period_pieces x) (condition_pieces a x ++ (clock ++ S)) (condition_pieces a x ++ (clock ++ T))
    (after_anchor n k x.month a _ _
    (sym (four (anchor_pieces n x.month a) (period_pieces x) (condition_pieces a x) clock S) ∙ e
    ∙ four (anchor_pieces k x.month a) (period_pieces x) (condition_pieces a x) clock T))))

pub record SameBasic (x : StartParts) (d : DurationParts) (y : StartParts) (e : DurationParts) : Type 0 where
  pub start : x ≡ y
  pub duration : d ≡ e

pub basic_read : (x y : StartParts) (d e : DurationParts) → basic_pieces x d ≡ basic_pieces y e → SameBasic x d y e
unfolding basic_pieces
basic_read x y d e same =
    let start : x ≡ y =
    sym (whole_read x d) ∙ ap (λ (P : List Piece). with_pieces P empty) same ∙ whole_read y e in
    record {
      start = start;
      duration = rest_then x d e (after_start (named x d) (named x e) x (rest_pieces x d) (rest_pieces x e)
          (same ∙ ap (λ (z : StartParts). basic_pieces z e) (sym start)));
    }

-- There are some.
anchor_some : (n : Bool) (m : Option ℕ) (a : Anchor) (S : List Piece) → anchor_pieces n m a ++ S ≡ [] → ⊥
anchor_some n (Some m) (Day d) S e = absurd cc
anchor_some n None (Day d) S e = absurd cc
anchor_some n m (Place p) S e = absurd cc
anchor_some n m (PlaceBack p) S e = absurd cc
anchor_some n m (Weekdays w) S e = absurd cc
anchor_some n m EveryDay S e = absurd cc
anchor_some n m TheMonday S e = absurd cc
anchor_some n (Some m) Beginning S e = absurd cc
anchor_some n None Beginning S e = absurd cc

start_some : (n : Bool) (x : StartParts) (S : List Piece) → start_pieces n x ++ S ≡ [] → ⊥
unfolding start_pieces
start_some n x S e =
    let a = anchor_of x in
    anchor_some n x.month a _
    (sym (four (anchor_pieces n x.month a) (period_pieces x) (condition_pieces a x)
    (clock_pieces x.hour x.minute x.second) S) ∙ e)

pub some_pieces : (x : StartParts) (d : DurationParts) → basic_pieces x d ≡ [] → ⊥
unfolding basic_pieces
some_pieces x d e = start_some (named x d) x (rest_pieces x d) e
