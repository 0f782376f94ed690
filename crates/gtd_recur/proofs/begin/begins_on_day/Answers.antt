use Rattle.std.proofs.Common.{◌≡◌, ◌∙◌, sym, refl, Bool, true, false, ◌&&◌, ◌||◌, is_some}
use Rattle.gtd_calendar.specs.Calendar.{weekday_of}
use Rattle.gtd_calendar.specs.ComputedFields.{day_fields}
use Rattle.gtd_core.specs.declared.start.StartParts.{StartParts}
use Rattle.gtd_calendar.specs.declared.day.DayFields.{DayFields}
use Rattle.gtd_recur.specs.Begins.{agrees, agrees_or_least, begins_on, gives_clock, gives_day, is_weekday, least_day}
use Rattle.gtd_recur.specs.Begins.{place_agrees, weekday_agrees, year_agrees}
use Rattle.gtd_recur.specs.facts.WeekLemmas.{date-free}
use Rattle.gtd_recur.proofs.SearchLemmas.{tested}
use Rattle.gtd_recur.proofs.begin.begins_on_day.Goals as goal

-- a conjunction whose last part but one is false
fails : (a b c d e f w l : Bool) → w ≡ false → (a && (b && (c && (d && (e && (f && (w && l))))))) ≡ false
fails false b c d e f w l h = refl
fails true false c d e f w l h = refl
fails true true false d e f w l h = refl
fails true true true false e f w l h = refl
fails true true true true false f w l h = refl
fails true true true true true false w l h = refl
fails true true true true true true w l h = rw h refl

-- a start does not begin on a day of another weekday
unfit : (p : StartParts) (f : DayFields) → weekday_agrees p f ≡ false → begins_on p f ≡ false
unfit p f h =
    fails (year_agrees p f) (agrees_or_least p.month (is_some p.week || (gives_day p || gives_clock p)) 1 f.month)
    (agrees p.week f.week) (agrees p.day f.day)
    (place_agrees p.nth f.nth f.weekday) (place_agrees p.nth_back f.nth_back f.weekday) (weekday_agrees p f) (least_day p f) h

pub returns-then-not-is_weekday : goal.returns-then-not-is_weekday
returns-then-not-is_weekday c =
    let other = tested weekday_of (is_weekday c.args.start.now) c.args.day _ _ _ c.ranges.day c.weekday.ensures.value
    c.is_weekday.ensures c.if-not-is_weekday.true in
    sym (unfit c.args.start.now (day_fields c.args.day) other)

pub returns-then-asks_no_date : goal.returns-then-asks_no_date
returns-then-asks_no_date c =
    let fits = tested weekday_of (is_weekday c.args.start.now) c.args.day _ _ _ c.ranges.day c.weekday.ensures.value
    c.is_weekday.ensures c.if-not-is_weekday.false in
    c.if-asks_no_date.true ∙ sym (date-free c.args.start.now (day_fields c.args.day)
    (c.asks_no_date.ensures.0 c.if-asks_no_date.true) ∙ fits)
