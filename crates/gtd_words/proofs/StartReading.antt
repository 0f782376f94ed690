-- A start is read off its pieces.
use Rattle.std.proofs.Common.{◌≡◌, ◌≢◌, ℕ, ◌<◌, Bool, true, false, cond, List, [], ◌∷◌, ◌++◌, Option, Some, None, refl, sym, ap}
use Rattle.std.proofs.Common.{◌∙◌, arith}
use Rattle.std.specs.Prelude.{◌==◌, ◌&&◌, ◌||◌, not}
use Rattle.std.proofs.lemmas.Bool.{eqb-true}
use Rattle.gtd_core.specs.declared.start.StartParts.{StartParts}
use Rattle.gtd_ends.specs.Anchors.{anchor_from, anchor_of, has_clock, is_given}
use Rattle.gtd_ends.specs.declared.anchor.Anchor.{Anchor}
use Rattle.gtd_ends.specs.declared.anchor.Anchor.TheVariants.{Beginning, Day, EveryDay, Place, PlaceBack, TheMonday, Weekdays}
use Rattle.gtd_languages.specs.declared.word.Counted.{Counted}
use Rattle.gtd_languages.specs.declared.word.Counted.TheVariants.{AtMinute, AtSecond, DaysLater, EndHour, EndMinute}
use Rattle.gtd_languages.specs.declared.word.Counted.TheVariants.{EndSecond, FromHour, FromMinute, FromMinuteAnd}
use Rattle.gtd_languages.specs.declared.word.Counted.TheVariants.{FromSecond, FromSecondOf, InWeek, OfHour, OfYear}
use Rattle.gtd_languages.specs.declared.word.Counted.TheVariants.{SecondOfEveryHour, YearAlone}
use Rattle.gtd_languages.specs.declared.word.Fixed.TheVariants.{Sharp, WholeMinute}
use Rattle.gtd_languages.specs.declared.word.Role.TheVariants.{If}
use Rattle.gtd_phrases.specs.declared.phrase.Phrase.{Phrase}
use Rattle.gtd_phrases.specs.declared.phrase.Phrase.TheVariants.{BackOf, BeginningOf, DateOf, DateOfEach, DaysOf, Numbered}
use Rattle.gtd_phrases.specs.declared.phrase.Phrase.TheVariants.{OfMonth, PlaceOf, Said}
use Rattle.gtd_phrases.specs.declared.phrase.Piece.{Piece}
use Rattle.gtd_words.specs.Starts.{also_back, also_place, also_weekdays, anchor_pieces, clock_pieces, condition_pieces}
use Rattle.gtd_words.specs.Starts.{period_pieces, pieces_from, start_pieces, week_pieces, year_pieces}

-- ---- what a piece says of a start

-- a minute 0 that nothing closes but a space is not given
abbrev if_some : Option ℕ → Option ℕ
if_some None = None
if_some (Some n) = cond (n == 0) None (Some n)

abbrev with_counted : Counted → ℕ → StartParts → StartParts
with_counted InWeek n s = record s { week = Some n }
with_counted YearAlone n s = record s { year = Some n }
with_counted OfYear n s = record s { year = Some n }
with_counted FromHour n s = record s { hour = Some n }
with_counted AtMinute n s = record s { minute = Some n }
with_counted AtSecond n s = record s { second = Some n }
with_counted FromMinute n s = record s { minute = Some n }
with_counted FromMinuteAnd n s = record s { minute = Some n }
with_counted SecondOfEveryHour n s = record s { second = Some n }
with_counted FromSecond n s = record s { second = Some n }
with_counted FromSecondOf n s = record s { second = Some n }
with_counted OfHour n s = record s { hour = Some n }
with_counted other n s = s

abbrev pub with_phrase : Phrase → ℕ → StartParts → StartParts
with_phrase (DateOf named m) n s = record s { day = Some n; month = Some m }
with_phrase (DateOfEach named) n s = record s { day = Some n }
with_phrase (PlaceOf role a w) n s = record s { nth = Some (a, w) }
with_phrase (BackOf role a w) n s = record s { nth_back = Some (a, w) }
with_phrase (DaysOf role w) n s = record s { weekdays = w }
with_phrase (BeginningOf m) n s = record s { month = Some m }
with_phrase (OfMonth m) n s = record s { month = Some m }
with_phrase (Said WholeMinute) n s = record s { minute = if_some s.minute }
with_phrase (Numbered counted) n s = with_counted counted n s
with_phrase other n s = s

abbrev pub with_pieces : List Piece → StartParts → StartParts
with_pieces [] s = s
with_pieces (p ∷ P) s = with_pieces P (with_phrase p.phrase p.number s)

pub with-append : (P Q : List Piece) (s : StartParts) → with_pieces (P ++ Q) s ≡ with_pieces Q (with_pieces P s)
with-append [] Q s = refl
with-append (p ∷ P) Q s = with-append P Q (with_phrase p.phrase p.number s)

-- ---- part by part

abbrev make : Option ℕ → Option ℕ → Option ℕ → Option ℕ → Option ℕ → Option ℕ → Option ℕ → Option (ℕ × ℕ) → Option (ℕ × ℕ) → ℕ
    → StartParts
make year month week day hour minute second nth nth_back weekdays = record {
  year = year;
  month = month;
  week = week;
  day = day;
  hour = hour;
  minute = minute;
  second = second;
  nth = nth;
  nth_back = nth_back;
  weekdays = weekdays;
}

abbrev pub empty : StartParts
empty = make None None None None None None None None None 0

week_read : (k m d : Option ℕ) (f l : Option (ℕ × ℕ)) (w : ℕ) → with_pieces (week_pieces k)
    (make None m None d None None None f l w)
    ≡ make None m k d None None None f l w
week_read None m d f l w = refl
week_read (Some k) m d f l w = refl

year_read : (a b : Bool) (y m k d : Option ℕ) (f l : Option (ℕ × ℕ)) (w : ℕ)
    → with_pieces (year_pieces a b y) (make None m k d None None None f l w) ≡ make y m k d None None None f l w
year_read true true (Some y) m k d f l w = refl
year_read true false (Some y) m k d f l w = refl
year_read false b (Some y) m k d f l w = refl
year_read true b None m k d f l w = refl
year_read false true None m k d f l w = refl
year_read false false None m k d f l w = refl

period_read : (x : StartParts) (d : Option ℕ) (f l : Option (ℕ × ℕ)) (w : ℕ)
    → with_pieces (period_pieces x) (make None x.month None d None None None f l w)
    ≡ make x.year x.month x.week d None None None f l w
unfolding period_pieces
period_read x d f l w =
    with-append (week_pieces x.week) (year_pieces (is_given x.month) (is_given x.week) x.year) _
    ∙ ap (λ (s : StartParts). with_pieces (year_pieces (is_given x.month) (is_given x.week) x.year) s)
    (week_read x.week x.month d f l w)
    ∙ year_read (is_given x.month) (is_given x.week) x.year x.month x.week d f l w

also_read : (f : Option (ℕ × ℕ)) (y m k d : Option ℕ) (l : Option (ℕ × ℕ)) (w : ℕ)
    → with_pieces (also_place f) (make y m k d None None None None l w) ≡ make y m k d None None None f l w
also_read None y m k d l w = refl
also_read (Some p) y m k d l w = refl

also_back_read : (l : Option (ℕ × ℕ)) (y m k d : Option ℕ) (f : Option (ℕ × ℕ)) (w : ℕ)
    → with_pieces (also_back l) (make y m k d None None None f None w) ≡ make y m k d None None None f l w
also_back_read None y m k d f w = refl
also_back_read (Some p) y m k d f w = refl

also_days_by : (b : Bool) (w : ℕ) (y m k d : Option ℕ) (f l : Option (ℕ × ℕ)) → (w == 0) ≡ b
    → with_pieces (cond b [] (record { phrase = DaysOf If w; number = 0 } ∷ [])) (make y m k d None None None f l 0)
    ≡ make y m k d None None None f l w
also_days_by true w y m k d f l e = ap (λ (n : ℕ). make y m k d None None None f l n) (sym (eqb-true w 0 e))
also_days_by false w y m k d f l e = refl

minute_by : (b : Bool) (m : ℕ) → (m == 0) ≡ b → (y mo k d h s : Option ℕ) (f l : Option (ℕ × ℕ)) (w : ℕ)
    → with_pieces (cond b (record { phrase = Said Sharp; number = 0 }) (record { phrase = Said WholeMinute; number = 0 }) ∷ [])
    (make y mo k d h (Some m) s f l w) ≡ make y mo k d h (Some m) s f l w
minute_by true m e y mo k d h s f l w = refl
minute_by false m e y mo k d h s f l w =
    ap (λ (b : Bool). make y mo k d h (cond b None (Some m)) s f l w) e

clock_read : (h n s y m k d : Option ℕ) (f l : Option (ℕ × ℕ)) (w : ℕ)
    → with_pieces (clock_pieces h n s) (make y m k d None None None f l w) ≡ make y m k d h n s f l w
clock_read None None None y m k d f l w = refl
clock_read (Some h) None None y m k d f l w = refl
clock_read (Some h) (Some n) None y m k d f l w = minute_by (n == 0) n refl y m k d (Some h) None f l w
clock_read (Some h) (Some n) (Some s) y m k d f l w = refl
clock_read (Some h) None (Some s) y m k d f l w = refl
clock_read None (Some n) None y m k d f l w = refl
clock_read None (Some n) (Some s) y m k d f l w = refl
clock_read None None (Some s) y m k d f l w = refl

-- ---- the whole

-- what the day says, and what must hold too
abbrev day_first : Anchor → Option ℕ
day_first (Day d) = Some d
day_first a = None

abbrev nth_first : Anchor → Option (ℕ × ℕ)
nth_first (Place p) = Some p
nth_first a = None

abbrev back_first : Anchor → Option (ℕ × ℕ)
back_first (PlaceBack p) = Some p
back_first a = None

abbrev days_first : Anchor → ℕ
days_first (Weekdays w) = w
days_first a = 0

anchor_read : (named : Bool) (m : Option ℕ) (a : Anchor) → with_pieces (anchor_pieces named m a) empty
    ≡ make None m None (day_first a) None None None (nth_first a) (back_first a) (days_first a)
anchor_read named (Some m) (Day d) = refl
anchor_read named None (Day d) = refl
anchor_read named (Some m) (Place p) = refl
anchor_read named None (Place p) = refl
anchor_read named (Some m) (PlaceBack p) = refl
anchor_read named None (PlaceBack p) = refl
anchor_read named (Some m) (Weekdays w) = refl
anchor_read named None (Weekdays w) = refl
anchor_read named (Some m) EveryDay = refl
anchor_read named None EveryDay = refl
anchor_read named (Some m) TheMonday = refl
anchor_read named None TheMonday = refl
anchor_read named (Some m) Beginning = refl
anchor_read named None Beginning = refl

abbrev conditions : List Piece → List Piece → List Piece → List Piece
conditions P Q R = P ++ Q ++ R

three_read : (P Q R : List Piece) (s t u v : StartParts) → with_pieces P s ≡ t → with_pieces Q t ≡ u → with_pieces R u ≡ v
    → with_pieces (P ++ Q ++ R) s ≡ v
three_read P Q R s t u v p q r =
    with-append (P ++ Q) R s
    ∙ ap (λ (z : StartParts). with_pieces R z) (with-append P Q s ∙ ap (λ (z : StartParts). with_pieces Q z) p ∙ q)
    ∙ r

abbrev no_day : Bool → Bool → Bool → ℕ → Anchor
no_day b c k w = cond b (cond c EveryDay (cond k TheMonday Beginning)) (Weekdays w)

no_day_read : (b c k : Bool) (w : ℕ) (x : StartParts) (y m n : Option ℕ) → (w == 0) ≡ b
    → with_pieces (condition_pieces (no_day b c k w) x)
    (make y m n (day_first (no_day b c k w)) None None None (nth_first (no_day b c k w)) (back_first (no_day b c k w))
    (days_first (no_day b c k w)))
    ≡ make y m n None None None None None None w
unfolding condition_pieces
no_day_read false c k w x y m n e = refl
no_day_read true true k w x y m n e = ap (λ (v : ℕ). make y m n None None None None None None v) (sym (eqb-true w 0 e))
no_day_read true false true w x y m n e = ap (λ (v : ℕ). make y m n None None None None None None v) (sym (eqb-true w 0 e))
no_day_read true false false w x y m n e = ap (λ (v : ℕ). make y m n None None None None None None v) (sym (eqb-true w 0 e))

-- the fields that name the day, and the conditions, give the fields again
condition_read : (d : Option ℕ) (f l : Option (ℕ × ℕ)) (w : ℕ) (c k : Bool) (x : StartParts) (y m n : Option ℕ) → x.nth ≡ f
    → x.nth_back ≡ l → x.weekdays ≡ w
    → with_pieces (condition_pieces (anchor_from d f l w c k) x)
    (make y m n (day_first (anchor_from d f l w c k)) None None None (nth_first (anchor_from d f l w c k))
    (back_first (anchor_from d f l w c k)) (days_first (anchor_from d f l w c k)))
    ≡ make y m n d None None None f l w
unfolding condition_pieces
condition_read (Some d) f l w c k x y m n ef el ew =
    three_read (also_place x.nth) (also_back x.nth_back) (also_weekdays x.weekdays) _ _ _ _
    (also_read x.nth y m n (Some d) None 0) (also_back_read x.nth_back y m n (Some d) x.nth 0)
    (also_days_by (x.weekdays == 0) x.weekdays y m n (Some d) x.nth x.nth_back refl)
    ∙ rw (ef, el, ew) refl
condition_read None (Some f) l w c k x y m n ef el ew =
    three_read [] (also_back x.nth_back) (also_weekdays x.weekdays) _ _ _ _
    refl (also_back_read x.nth_back y m n None (Some f) 0)
    (also_days_by (x.weekdays == 0) x.weekdays y m n None (Some f) x.nth_back refl)
    ∙ rw (el, ew) refl
condition_read None None (Some l) w c k x y m n ef el ew =
    three_read [] [] (also_weekdays x.weekdays) _ _ _ _ refl refl
    (also_days_by (x.weekdays == 0) x.weekdays y m n None None (Some l) refl)
    ∙ rw ew refl
condition_read None None None w c k x y m n ef el ew = no_day_read (w == 0) c k w x y m n refl

-- The pieces of a start say the start.
pub start_read : (named : Bool) (x : StartParts) → with_pieces (start_pieces named x) empty ≡ x
unfolding start_pieces anchor_of
start_read named x =
    let a = anchor_of x in
    with-append (anchor_pieces named x.month a ++ period_pieces x ++ condition_pieces a x)
    (clock_pieces x.hour x.minute x.second) empty
    ∙ ap (λ (s : StartParts). with_pieces (clock_pieces x.hour x.minute x.second) s)
    (three_read (anchor_pieces named x.month a) (period_pieces x) (condition_pieces a x) empty _ _ _
    (anchor_read named x.month a) (period_read x (day_first a) (nth_first a) (back_first a) (days_first a))
    (condition_read x.day x.nth x.nth_back x.weekdays (has_clock x) (is_given x.week) x x.year x.month x.week refl refl refl))
    ∙ clock_read x.hour x.minute x.second x.year x.month x.week x.day x.nth x.nth_back x.weekdays
