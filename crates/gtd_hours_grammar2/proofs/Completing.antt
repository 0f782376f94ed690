-- Each state can be completed, and so the first fault is where the longest beginning ends.
use Rattle.std.specs.Prelude.{true, false, Option, Some, None, Ok, Err, List, [], ◌∷◌, ◌++◌}
use Rattle.std.proofs.Common.{◌≡◌, ◌∙◌, refl, ap, sym}
use Rattle.std.proofs.lemmas.Option.{none-some, same_Some}
use Rattle.gtd_hours_grammar2.specs.declared.class.Class.{Class}
use Rattle.gtd_hours_grammar2.specs.declared.state.Stage.TheVariants as stage
use Rattle.gtd_hours_grammar2.specs.declared.state.State.{State}
use Rattle.gtd_hours_grammar2.specs.declared.state.State.TheVariants as state
use Rattle.gtd_hours_grammar2.specs.declared.state.AlwaysState.TheVariants as always
use Rattle.gtd_hours_grammar2.specs.declared.state.YearState.TheVariants as year
use Rattle.gtd_hours_grammar2.specs.declared.state.MonthState.TheVariants as month
use Rattle.gtd_hours_grammar2.specs.declared.state.DateState.TheVariants as date
use Rattle.gtd_hours_grammar2.specs.declared.state.EasterState.TheVariants as easter
use Rattle.gtd_hours_grammar2.specs.declared.state.PlaceState.TheVariants as place
use Rattle.gtd_hours_grammar2.specs.declared.state.LastState.TheVariants as last
use Rattle.gtd_hours_grammar2.specs.declared.state.WeekState.TheVariants as week
use Rattle.gtd_hours_grammar2.specs.declared.state.HolidayState.TheVariants as holiday
use Rattle.gtd_hours_grammar2.specs.declared.state.WeekdayState.TheVariants as weekday
use Rattle.gtd_hours_grammar2.specs.declared.state.TimeState.TheVariants as time
use Rattle.gtd_hours_grammar2.specs.declared.step.Wrong.{Wrong}
use Rattle.gtd_hours_grammar2.specs.Steps.{Next}
use Rattle.gtd_hours_grammar2.specs.Machine.{next}
use Rattle.gtd_hours_grammar2.specs.Endings.{leads, step_to, IsFirstFault, IsLongest, close}

pub completes : (s : State) → leads (close s) s ≡ Some state.Done
completes state.Front = refl
completes state.Semicolon = refl
completes state.Bars = refl
completes state.DaysColon = refl
completes state.Done = refl
completes (state.After stage.Front) = refl
completes (state.After stage.Years) = refl
completes (state.After stage.Months) = refl
completes (state.After stage.Dates) = refl
completes (state.After stage.Weeks) = refl
completes (state.After stage.Colon) = refl
completes (state.After stage.Holidays) = refl
completes (state.After stage.Days) = refl
completes (state.After stage.Led) = refl
completes (state.After stage.Mixed) = refl
completes (state.After stage.Times) = refl
completes (state.After stage.Always) = refl
completes (state.After stage.Word) = refl
completes (state.After stage.Comment) = refl
completes (state.Comma stage.Front) = refl
completes (state.Comma stage.Years) = refl
completes (state.Comma stage.Months) = refl
completes (state.Comma stage.Dates) = refl
completes (state.Comma stage.Weeks) = refl
completes (state.Comma stage.Colon) = refl
completes (state.Comma stage.Holidays) = refl
completes (state.Comma stage.Days) = refl
completes (state.Comma stage.Led) = refl
completes (state.Comma stage.Mixed) = refl
completes (state.Comma stage.Times) = refl
completes (state.Comma stage.Always) = refl
completes (state.Comma stage.Word) = refl
completes (state.Comma stage.Comment) = refl
completes (state.Always always.Twenty) = refl
completes (state.Always always.Slash) = refl
completes (state.Always always.End) = refl
completes (state.Year year.First) = refl
completes (state.Year year.Listed) = refl
completes (state.Year year.Dash) = refl
completes (state.Year year.Range) = refl
completes (state.Year year.Slash) = refl
completes (state.Year year.End) = refl
completes (state.Month month.OfYear) = refl
completes (state.Month month.OfYearDash) = refl
completes (state.Month month.LastYear) = refl
completes (state.Month month.Month) = refl
completes (state.Month month.Dash) = refl
completes (state.Month month.End) = refl
completes (state.Date date.Year) = refl
completes (state.Date date.Month) = refl
completes (state.Date date.MonthDash) = refl
completes (state.Date date.Day) = refl
completes (state.Date date.ListedDay) = refl
completes (state.Date date.ListedTwenty) = refl
completes (state.Easter easter.Easter) = refl
completes (state.Easter easter.Plus) = refl
completes (state.Easter easter.Dash) = refl
completes (state.Easter easter.Number) = refl
completes (state.Easter easter.Offset) = refl
completes (state.Place place.Weekday true) = refl
completes (state.Place place.Weekday false) = refl
completes (state.Place place.Open true) = refl
completes (state.Place place.Open false) = refl
completes (state.Place place.Back true) = refl
completes (state.Place place.Back false) = refl
completes (state.Place place.Number true) = refl
completes (state.Place place.Number false) = refl
completes (state.Place place.NumberBack true) = refl
completes (state.Place place.NumberBack false) = refl
completes (state.Place place.Close true) = refl
completes (state.Place place.Close false) = refl
completes (state.Place place.Plus true) = refl
completes (state.Place place.Plus false) = refl
completes (state.Place place.Dash true) = refl
completes (state.Place place.Dash false) = refl
completes (state.Place place.Days true) = refl
completes (state.Place place.Days false) = refl
completes (state.Place place.Offset true) = refl
completes (state.Place place.Offset false) = refl
completes (state.Last last.DateDash) = refl
completes (state.Last last.OffsetDash) = refl
completes (state.Last last.Year) = refl
completes (state.Last last.Month) = refl
completes (state.Last last.Day) = refl
completes (state.Last last.Weekday) = refl
completes (state.Last last.Open) = refl
completes (state.Last last.Back) = refl
completes (state.Last last.Number) = refl
completes (state.Last last.End) = refl
completes (state.Last last.Sign) = refl
completes (state.Last last.Days) = refl
completes (state.Week week.Front) = refl
completes (state.Week week.Week) = refl
completes (state.Week week.Dash) = refl
completes (state.Week week.Range) = refl
completes (state.Week week.Slash) = refl
completes (state.Week week.End) = refl
completes (state.Holiday holiday.Holiday true) = refl
completes (state.Holiday holiday.Holiday false) = refl
completes (state.Holiday holiday.Sign true) = refl
completes (state.Holiday holiday.Sign false) = refl
completes (state.Holiday holiday.Days true) = refl
completes (state.Holiday holiday.Days false) = refl
completes (state.Holiday holiday.End true) = refl
completes (state.Holiday holiday.End false) = refl
completes (state.Weekday weekday.Weekday true) = refl
completes (state.Weekday weekday.Weekday false) = refl
completes (state.Weekday weekday.Dash true) = refl
completes (state.Weekday weekday.Dash false) = refl
completes (state.Weekday weekday.Range true) = refl
completes (state.Weekday weekday.Range false) = refl
completes (state.Weekday weekday.Open true) = refl
completes (state.Weekday weekday.Open false) = refl
completes (state.Weekday weekday.NumberDash true) = refl
completes (state.Weekday weekday.NumberDash false) = refl
completes (state.Weekday weekday.Number true) = refl
completes (state.Weekday weekday.Number false) = refl
completes (state.Weekday weekday.NumberEnd true) = refl
completes (state.Weekday weekday.NumberEnd false) = refl
completes (state.Weekday weekday.Close true) = refl
completes (state.Weekday weekday.Close false) = refl
completes (state.Weekday weekday.Sign true) = refl
completes (state.Weekday weekday.Sign false) = refl
completes (state.Weekday weekday.Days true) = refl
completes (state.Weekday weekday.Days false) = refl
completes (state.Weekday weekday.Offset true) = refl
completes (state.Weekday weekday.Offset false) = refl
completes (state.Time time.First) = refl
completes (state.Time time.Paren) = refl
completes (state.Time time.Event) = refl
completes (state.Time time.Sign) = refl
completes (state.Time time.Offset) = refl
completes (state.Time time.Dash) = refl
completes (state.Time time.LastParen) = refl
completes (state.Time time.LastEvent) = refl
completes (state.Time time.LastSign) = refl
completes (state.Time time.LastOffset) = refl
completes (state.Time time.Range) = refl
completes (state.Time time.Slash) = refl
completes (state.Time time.End) = refl

-- what becomes of a step, where it becomes of each state
through : (f g : State → Option State) → (r : Option State) → (t : State) → ((s : State) → f s ≡ Some t → g s ≡ r) → (n : Next)
    → step_to f n ≡ Some t → step_to g n ≡ r
through f g r t same (Ok step) h = same step.to h
through f g r t same (Err w) h = absurd (none-some t h)

-- classes that lead to a state, and then others
joins : (xs ys : List Class) → (t : State) → (s : State) → leads xs s ≡ Some t
    → leads (xs ++ ys) s ≡ leads ys t
joins [] ys t s h = ap (leads ys) (same_Some s t h)
joins (c ∷ xs) ys t s h =
    through (leads xs) (leads (xs ++ ys)) (leads ys t) t (joins xs ys t) (next s c) h

-- no text begins with a class that leads nowhere
stops : (cs : List Class) → (n : Next) → (w : Wrong) → n ≡ Err w → step_to (leads cs) n ≡ None
stops cs n w h = ap (step_to (leads cs)) h

pub longest : (before : List Class) → (c : Class) → (w : Wrong) → IsFirstFault before c w
    → IsLongest before c
longest before c w first = record {
  rest = close first.s;
  can = joins before (close first.s) first.s state.Front first.goes ∙ completes first.s;
  cannot = λ cs text. none-some state.Done (sym (stops cs (next first.s c) w first.stops)
      ∙ sym (joins before (c ∷ cs) first.s state.Front first.goes) ∙ text);
}
