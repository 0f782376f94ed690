-- How long the lines are.
use Rattle.std.proofs.Common.{◌≡◌, refl, ◌≤◌, ◌+◌, ◌*◌, ◌-◌, ℕ, zero, suc, arith, Bool, true, false, inl, inr}
use Rattle.std.proofs.Common.{List, [], ◌∷◌, ◌++◌, length, map, length-append}
use Rattle.std.specs.Prelude.{ℤ, pos, ◌+ℤ◌, ◌-ℤ◌, ◌*ℤ◌, ◌≤ℤ◌, ◌<ℤ◌, unsigned_abs, flat_map, codes, decimal}
use Rattle.std.proofs.lemmas.Int.{ints}
use Rattle.std.proofs.lemmas.Fmt.{length-decimal-le}
use Rattle.gtd_calendar.specs.facts.YearDays.{few_before}
use Rattle.gtd_calendar.specs.facts.Signed.{signed_arith, one_part}
use Rattle.gtd_calendar.specs.Calendar.{days_of_months, weekday_of}
use Rattle.gtd_calendar.specs.Stamp.{date_text}
use Rattle.gtd_core.specs.Seconds.{Interval}
use Rattle.gtd_report.specs.Putting.{text_of}
use Rattle.gtd_spans.specs.Normal.{AllBeginFrom, AreInOrder, Holds}
use Rattle.gtd_picture.specs.Picture.{AreColumns, IsColumn, Rect, day_head, day_line, day_lines, foot_text, group_text}
use Rattle.gtd_picture.specs.Picture.{is_weekend}
use Rattle.gtd_picture.specs.Picture.{month_text, months_text, plot_end_text, rect_of, rect_text, tick_text, ticks_text}
use Rattle.gtd_picture.specs.Picture.{whole_column}
use Rattle.gtd_picture.specs.Words.{month_name, weekday_name}

-- a rectangle within a day
pub rect_short : (r : Rect) → r.x ≤ 366 → r.y ≤ 86400 → r.height ≤ 86400 → length (rect_text r) ≤ 22
rect_short r x y h =
    let a = length-decimal-le 3 r.x (omega arith) (omega arith) (omega arith) in
    let b = length-decimal-le 5 r.y (omega arith) (omega arith) (omega arith) in
    let c = length-decimal-le 5 r.height (omega arith) (omega arith) (omega arith) in
    simp length-append (omega arith)

near : (a b : ℤ) → a ≤ℤ b → b ≤ℤ (a +ℤ pos 86400) → unsigned_abs (b -ℤ a) ≤ 86400
near a b low high = let one = one_part (b -ℤ a) in omega (arith, signed_arith, one, low, high)

-- Spans one behind the other, from one second on and before another.
abbrev Fit : ℤ → ℤ → List Interval → Type 0
Fit from until [] = from ≤ℤ until
Fit from until (x ∷ xs) = (from ≤ℤ x.from) × (x.from <ℤ x.until) × Fit x.until until xs

fit_ends : (from until : ℤ) (xs : List Interval) → Fit from until xs → from ≤ℤ until
fit_ends from until [] fit = fit
fit_ends from until (x ∷ xs) fit = let rest = fit_ends x.until until xs fit.2 in omega (arith, ints, rest, fit.0, fit.1)

fit_order : (from until : ℤ) (xs : List Interval) → from ≤ℤ until → AreInOrder xs → AllBeginFrom from xs
    → ((t : ℤ) → Holds xs t → t <ℤ until) → Fit from until xs
fit_order from until [] some order after inside = some
fit_order from until (x ∷ xs) some order after inside =
    let last = inside (x.until -ℤ pos 1) (inl (omega (arith, ints, order.0), omega (arith, ints))) in
    (after.0, order.0, fit_order x.until until xs (omega (arith, ints, last)) order.2 order.1 (λ t h. inside t (inr h)))

begin_from : (from : ℤ) (xs : List Interval) → AreInOrder xs → ((t : ℤ) → Holds xs t → from ≤ℤ t) → AllBeginFrom from xs
begin_from from [] order inside = tt
begin_from from (x ∷ xs) order inside =
    (inside x.from (inl (omega (arith, ints), order.0)), begin_from from xs order.2 (λ t h. inside t (inr h)))

rects_short : (place : ℕ) (midnight from until : ℤ) (xs : List Interval) → place ≤ 366 → midnight ≤ℤ from
    → until ≤ℤ (midnight +ℤ pos 86400) → Fit from until xs
    → pos (length (flat_map rect_text (map (rect_of place midnight) xs))) ≤ℤ (pos 22 *ℤ (until -ℤ from))
rects_short place midnight from until [] few low high fit = omega (arith, ints, fit)
rects_short place midnight from until (x ∷ xs) few low high fit =
    let ends = fit_ends x.until until xs fit.2 in
    let rest = rects_short place midnight x.until until xs few (omega (arith, ints, low, fit.0, fit.1)) high fit.2 in
    let y = near midnight x.from (omega (arith, ints, low, fit.0)) (omega (arith, ints, high, fit.1, ends)) in
    let height = near x.from x.until (omega (arith, ints, fit.1)) (omega (arith, ints, low, fit.0, high, ends)) in
    let one = rect_short (rect_of place midnight x) few y height in
    let all = length-append (rect_text (rect_of place midnight x)) (flat_map rect_text (map (rect_of place midnight) xs)) in
    omega (arith, ints, rest, one, all, fit.0, fit.1)

pub column_short : (set : ℤ → Type 0) (day : ℤ) (place : ℕ) (column : List Rect) → place ≤ 366 → IsColumn set day place column
    → length (flat_map rect_text column) ≤ 1900800
column_short set day place column few is =
    let midnight = day *ℤ pos 86400 in
    let end = (day +ℤ pos 1) *ℤ pos 86400 in
    let fit = fit_order midnight end is.spans (omega (arith, ints)) is.normal.order
    (begin_from midnight is.spans is.normal.order (λ t h. (is.normal.inside t h).0)) (λ t h. (is.normal.inside t h).1) in
    let short = rects_short place midnight midnight end is.spans few (omega (arith, ints)) (omega (arith, ints)) fit in
    rw (is.each) (omega (arith, ints, short))

weekday_short : (n : ℕ) → length (weekday_name n) ≤ 9
weekday_short n = grind arith

month_short : (n : ℕ) → length (month_name n) ≤ 3
month_short n = grind arith

date_long : (day : ℤ) → length (date_text day) ≡ 10
date_long day = refl

group_short : (weekend : Bool) → length (group_text weekend) ≤ 26
group_short true = omega arith
group_short false = omega arith

name_short : (day : ℤ) → length (group_text (is_weekend (weekday_of day)) ++ date_text day ++ codes " "
    ++ weekday_name (weekday_of day)) ≤ 46
name_short day =
    parts (group_text (is_weekend (weekday_of day))) (date_text day) (weekday_name (weekday_of day)) (group_short (is_weekend
    (weekday_of day)))
    (date_long day) (weekday_short (weekday_of day))
  where
    parts : (a b c : List ℕ) → length a ≤ 26 → length b ≡ 10 → length c ≤ 9 → length (a ++ b ++ codes " " ++ c) ≤ 46
    parts a b c i j k = simp length-append (omega arith)

head_short : (day : ℤ) (place : ℕ) → place ≤ 366 → length (day_head day place) ≤ 200
head_short day place few =
    let column = rect_short (whole_column place) few (omega arith) (omega arith) in
    parts (group_text (is_weekend (weekday_of day)) ++ date_text day ++ codes " "
    ++ weekday_name (weekday_of day)) (rect_text (whole_column place))
    (name_short day) column
  where
    parts : (a b : List ℕ) → length a ≤ 46 → length b ≤ 22
        → length (a ++ codes "</title><path class='out' d='" ++ b ++ codes "'/><path class='in' d='") ≤ 200
    parts a b i j = simp length-append (omega arith)

pub day_short : (day : ℤ) (place : ℕ) (column : List Rect) → place ≤ 366 → length (flat_map rect_text column) ≤ 1900800
    → length (day_line day place column) ≤ 1901100
day_short day place column few short =
    parts (day_head day place) (flat_map rect_text column) (head_short day place few) short
  where
    parts : (a b : List ℕ) → length a ≤ 200 → length b ≤ 1900800 → length (a ++ b ++ codes "'/></g>\n") ≤ 1901100
    parts a b i j = simp length-append (omega arith)

-- the lines of days
pub days_short : (set : ℤ → Type 0) (day : ℤ) (place n : ℕ) (columns : List (List Rect)) → place + n ≤ 366
    → AreColumns set day place n columns
    → (length (day_lines day place columns) ≡ n) × (length (text_of (day_lines day place columns)) ≤ 1901100 * n)
unfolding AreColumns
days_short set day place zero columns few are =
    rw are (refl, omega arith)
days_short set day place (suc n) columns few are =
    let rest = days_short set (day +ℤ pos 1) (place + 1) n are.1 (omega (arith, few)) are.3 in
    let one = day_short day place are.0 (omega (arith, few)) (column_short set day place are.0 (omega (arith, few)) are.2) in
    let all = length-append (day_line day place are.0) (text_of (day_lines (day +ℤ pos 1) (place + 1) are.1)) in
    let first = rest.0 in
    let more = rest.1 in
    rw (are.4) (omega arith, omega (arith, one, all, more))

tick_short : (day : ℕ) → day ≤ 31 → length (tick_text day) ≤ 60
tick_short day few =
    let a = length-decimal-le 2 (3 * (day - 1)) (omega arith) (omega arith) (omega arith) in
    let b = length-decimal-le 2 day (omega arith) (omega arith) (omega arith) in
    simp length-append (omega arith)

ticks_short : length ticks_text ≤ 200
ticks_short =
    parts (tick_text 1) (tick_text 10) (tick_text 20) (tick_short 1 (omega arith)) (tick_short 10 (omega arith)) (tick_short
    20 (omega arith))
  where
    parts : (a b c : List ℕ) → length a ≤ 60 → length b ≤ 60 → length c ≤ 60
        → length (codes "</text>" ++ a ++ b ++ c ++ codes "</g>") ≤ 200
    parts a b c i j k = simp length-append (omega arith)

month_text_short : (month place : ℕ) → place ≤ 366 → length (month_text month place) ≤ 350
month_text_short month place few =
    parts (decimal (72 + 3 * place)) (month_name month) ticks_text
    (length-decimal-le 4 (72 + 3 * place) (omega arith) (omega arith) (omega arith)) (month_short month) ticks_short
  where
    parts : (a b c : List ℕ) → length a ≤ 4 → length b ≤ 3 → length c ≤ 200
        → length (codes "<g transform='translate(" ++ a ++ codes
        " 0)'><path class='line' d='M0 72h1v456h-1z'/><text x='6' y='88'>"
        ++ b ++ c) ≤ 350
    parts a b c i j k = simp length-append (omega arith)

months_short : (y : ℤ) (n : ℕ) → n ≤ 12 → length (months_text y n) ≤ 350 * n
unfolding months_text
months_short y zero few = omega arith
months_short y (suc n) few =
    let rest = months_short y n (omega (arith, few)) in
    let one = month_text_short (suc n) (days_of_months y n) (few_before y n (omega (arith, few))) in
    let all = length-append (months_text y n) (month_text (suc n) (days_of_months y n)) in
    omega (arith, rest, one, all)

pub foot_short : (y : ℤ) → length (foot_text y) ≤ 5000
foot_short y = parts plot_end_text (months_text y 12) (omega arith) (months_short y 12 (omega arith))
  where
    parts : (a b : List ℕ) → length a ≤ 200 → length b ≤ 4200 → length (a ++ b ++ codes "</svg>\n") ≤ 5000
    parts a b i j = simp length-append (omega arith)
