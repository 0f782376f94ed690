-- The picture of a year, in SVG: a column for each day, 86,400 units high, with a rectangle for each span of its seconds
-- that are in the set. It is a line for what stands before the days, a line for each day, and a line for what stands after
-- them. A line has its end: the LF is its last byte.
use Rattle.std.specs.Prelude.{◌≡◌, ◌++◌, ◌+◌, ◌-◌, ◌*◌, ◌==◌, ◌||◌, if◌then◌else◌, Bool, ℕ, zero, suc, ℤ, pos, ◌+ℤ◌, ◌-ℤ◌, ◌*ℤ◌}
use Rattle.std.specs.Prelude.{List, [], ◌∷◌, map, flat_map, codes, decimal, unsigned_abs}
use Rattle.gtd_calendar.specs.Calendar.{days_of_months, first_day, weekday_of, year_length}
use Rattle.gtd_calendar.specs.Stamp.{date_text, two_digits}
use Rattle.gtd_core.specs.Limits.{day_seconds}
use Rattle.gtd_core.specs.Seconds.{Interval}
use Rattle.gtd_spans.specs.Normal.{IsNormalFor}
use Rattle.gtd_picture.specs.Words.{label_text, month_name, title_text, weekday_name}

-- A rectangle one column wide: its column, its first second of the day, and how many seconds it has.
pub record Rect : Type 0 where
  pub x : ℕ
  pub y : ℕ
  pub height : ℕ

-- the rectangle of a span of seconds, in the column of the day that begins at midnight
abbrev pub rect_of : ℕ → ℤ → Interval → Rect
rect_of place midnight span =
    record { x = place; y = unsigned_abs (span.from -ℤ midnight); height = unsigned_abs (span.until -ℤ span.from) }

-- The rectangles of a day: those of the list that is normal for its seconds in the set.
pub record IsColumn (set : ℤ → Type 0) (day : ℤ) (place : ℕ) (column : List Rect) : Type 0 where
  pub spans : List Interval
  pub normal : IsNormalFor set (day *ℤ pos day_seconds) ((day +ℤ pos 1) *ℤ pos day_seconds) spans
  pub each : column ≡ map (rect_of place (day *ℤ pos day_seconds)) spans

-- the columns of so many days from a day on, at places that count on
unfoldable pub AreColumns : (ℤ → Type 0) → ℤ → ℕ → ℕ → List (List Rect) → Type 0
AreColumns set day place zero columns = columns ≡ []
AreColumns set day place (suc n) columns =
    (column : List Rect) × (rest : List (List Rect)) × IsColumn set day place column
    × AreColumns set (day +ℤ pos 1) (place + 1) n rest × (columns ≡ column ∷ rest)

-- the path of a rectangle
abbrev pub rect_text : Rect → List ℕ
rect_text r =
    codes "M" ++ decimal r.x ++ codes " " ++ decimal r.y ++ codes "h1v" ++ decimal r.height ++ codes "h-1z"

-- the whole of a column
abbrev pub whole_column : ℕ → Rect
whole_column place = record { x = place; y = 0; height = day_seconds }

-- Saturday and Sunday
abbrev pub is_weekend : ℕ → Bool
is_weekend weekday = (weekday == 1) || (weekday == 7)

-- what a day begins with, by whether it is on a weekend
abbrev pub group_text : Bool → List ℕ
group_text weekend = if weekend then codes "<g class='weekend'><title>" else codes "<g><title>"

-- what the line of a day begins with: its date, its weekday, and the whole of its column
abbrev pub day_head : ℤ → ℕ → List ℕ
day_head day place =
    group_text (is_weekend (weekday_of day)) ++ date_text day ++ codes " " ++ weekday_name (weekday_of day)
    ++ codes "</title><path class='out' d='" ++ rect_text (whole_column place) ++ codes "'/><path class='in' d='"

-- the line of a day: its head and its rectangles
abbrev pub day_line : ℤ → ℕ → List Rect → List ℕ
day_line day place column = day_head day place ++ flat_map rect_text column ++ codes "'/></g>\n"

-- the lines of days, one after the other
abbrev pub day_lines : ℤ → ℕ → List (List Rect) → List (List ℕ)
day_lines day place [] = []
day_lines day place (column ∷ rest) = day_line day place column ∷ day_lines (day +ℤ pos 1) (place + 1) rest

-- what stands before the title
abbrev pub opening_text : List ℕ
opening_text =
    codes "<svg xmlns='http://www.w3.org/2000/svg' viewBox='0 0 1242 600' font-family='system-ui,sans-serif' font-size='14'>"
    ++ codes "<title>"

-- the colours on a light page
abbrev pub light_text : List ℕ
light_text =
    codes ".page{fill:#fff}text{fill:#222}.out{fill:#d9d9d9}.in{fill:#0072b2}"
    ++ codes ".weekend .out{fill:#c4c4c4}.weekend .in{fill:#004c77}.line{fill:#000;fill-opacity:.35}.tick{font-size:11px}"

-- the colours on a dark page
abbrev pub dark_text : List ℕ
dark_text =
    codes "@media(prefers-color-scheme:dark){.page{fill:#16181c}text{fill:#ddd}.out{fill:#3a3d44}.in{fill:#56b4e9}"
    ++ codes ".weekend .out{fill:#26282e}.weekend .in{fill:#3f96c9}.line{fill:#fff;fill-opacity:.4}}"

-- what stands between the title and the title that is shown
abbrev pub style_text : List ℕ
style_text =
    codes "</title><style>" ++ light_text ++ dark_text
    ++ codes "</style><path class='page' d='M0 0h1242v600h-1242z'/><text x='72' y='44' font-size='18'>"

-- The title, as the whole and as it is shown.
abbrev pub top_text : List ℕ → List ℕ
top_text title =
    opening_text ++ label_text title style_text ++ title_text title (codes "</text><g text-anchor='end'>")

-- The label of an hour. The plot begins 96 units below the top of the page, and has 18 units for each hour.
abbrev pub hour_text : ℕ → List ℕ
hour_text hour =
    codes "<text x='64' y='" ++ decimal (101 + 18 * hour) ++ codes "'>" ++ two_digits hour ++ codes ":00</text>"

-- the labels of so many hours, each six after the one before
unfoldable pub hours_text : ℕ → List ℕ
hours_text zero = []
hours_text (suc n) = hours_text n ++ hour_text (6 * n)

-- what the colours mean
abbrev pub inside_key : List ℕ
inside_key = codes "</g><path class='in' d='M72 566h24v14h-24z'/><text x='104' y='578'>"

abbrev pub outside_key : List ℕ
outside_key = codes "</text><path class='out' d='M272 566h24v14h-24z'/><text x='304' y='578'>"

abbrev pub weekend_key : List ℕ
weekend_key =
    codes "</text><g class='weekend'><path class='in' d='M472 566h12v14h-12z'/><path class='out' d='M484 566h12v14h-12z'/></g>"
    ++ codes "<text x='504' y='578'>Saturday, Sunday</text>"

-- what the colours mean, in these words for seconds in the set and for others
abbrev pub key_text : List ℕ → List ℕ → List ℕ
key_text inside outside = inside_key ++ label_text inside outside_key ++ label_text outside weekend_key

-- The plot: so many columns, three units of the page each, and as many units of its own high as a day has seconds.
abbrev pub plot_text : ℕ → List ℕ
plot_text days =
    codes "<svg x='72' y='96' width='" ++ decimal (3 * days) ++ codes "' height='432' viewBox='0 0 " ++ decimal days
    ++ codes " 86400' preserveAspectRatio='none' shape-rendering='crispEdges'>\n"

-- What stands before the days: the title, the hours, what the colours mean, and the plot's frame.
abbrev pub head_text : List ℕ → List ℕ → List ℕ → ℕ → List ℕ
head_text title inside outside days =
    top_text title ++ hours_text 5 ++ key_text inside outside ++ plot_text days

-- lines over the plot at 6, 12 and 18 hours, and its end
abbrev pub plot_end_text : List ℕ
plot_end_text = codes "<path class='line' d='M0 21500h366v200h-366zM0 43100h366v200h-366zM0 64700h366v200h-366z'/></svg>"

-- the label of a day of the month, with three units for each day before it
abbrev pub tick_text : ℕ → List ℕ
tick_text day =
    codes "<text class='tick' x='" ++ decimal (3 * (day - 1)) ++ codes "' y='542'>" ++ decimal day ++ codes "</text>"

-- the labels of the days 1, 10 and 20 of a month
abbrev pub ticks_text : List ℕ
ticks_text = codes "</text>" ++ tick_text 1 ++ tick_text 10 ++ tick_text 20 ++ codes "</g>"

-- the line, the name and the days of a month, at the place of its first day
abbrev pub month_text : ℕ → ℕ → List ℕ
month_text month place =
    codes "<g transform='translate(" ++ decimal (72 + 3 * place)
    ++ codes " 0)'><path class='line' d='M0 72h1v456h-1z'/><text x='6' y='88'>" ++ month_name month ++ ticks_text

-- the first n months of a year
unfoldable pub months_text : ℤ → ℕ → List ℕ
months_text year zero = []
months_text year (suc n) = months_text year n ++ month_text (suc n) (days_of_months year n)

-- What stands after the days.
abbrev pub foot_text : ℤ → List ℕ
foot_text year = plot_end_text ++ months_text year 12 ++ codes "</svg>\n"

-- The picture of a set of seconds in a year, with a title and words for the seconds in the set and for the others.
pub record IsPicture (set : ℤ → Type 0) (title inside outside : List ℕ) (year : ℕ) (lines : List (List ℕ)) : Type 0 where
  pub columns : List (List Rect)
  pub are : AreColumns set (first_day (pos year)) 0 (year_length (pos year)) columns
  pub whole : lines
      ≡ head_text title inside outside (year_length (pos year))
      ∷ (day_lines (first_day (pos year)) 0 columns ++ (foot_text (pos year) ∷ []))
