use Rattle.std.proofs.Common.{arith, ap, ◌≡◌, ◌∙◌, ◌++◌, ◌<◌, ℤ, ℕ, List, drop, pos}
use Rattle.gtd_calendar.specs.Clock.{second_of_day}
use Rattle.gtd_calendar.specs.Stamp.{clock_text, date_text, stamp_text}
use Rattle.gtd_calendar.specs.facts.Signed.{signed_arith, one_part}
use Rattle.std.specs.Int.{int_rem_euclid}
use Rattle.gtd_core.specs.Limits.{day_seconds}
use Rattle.gtd_core.specs.Seconds.{day_of_second}
use Rattle.gtd_schedule.specs.Lines.{clock_bytes}
use Rattle.gtd_schedule.specs.Months.{IsDated}
use Rattle.gtd_schedule.specs.Moments.{IsShown}
use Rattle.gtd_schedule.specs.declared.moment.Shown.{Shown}
use Rattle.gtd_schedule.proofs.moment.write_moment.Goals as goal

-- the text of a moment, from what was written of the day and the clock
moment : (second : ℤ) (clock : ℕ) (text new rest : List ℕ) → clock ≡ second_of_day second
    → text ≡ rest → new ≡ date_text (day_of_second second) ++ (clock_bytes clock ++ rest)
    → new ≡ stamp_text second ++ text
moment second clock text new rest b same is = rw (same, ← b) is

clock_in : (s : ℤ) → second_of_day s < day_seconds
unfolding second_of_day
clock_in s = let part = one_part (int_rem_euclid s (pos day_seconds)) in omega (arith, signed_arith, part)

pub write_clock-requires-clause-shown : goal.write_clock-requires-clause-shown
write_clock-requires-clause-shown c = let k = c.requires.shown in rw (k.kept.clock) (clock_in k.second)

pub write_clock-requires-clause-clock : goal.write_clock-requires-clause-clock
write_clock-requires-clause-clock c = rw (c.write_day-clock.ensures.clock) (clock_in c.args.second.0)

-- a text that shows a moment shows its day
dated : (shown : Shown) (text : List ℕ) → IsShown shown text → IsDated shown.month text
dated shown text k = record {
  day = day_of_second k.second;
  rest = clock_text k.second ++ k.rest;
  in_calendar = k.kept.day;
  of = k.kept.month;
  is = k.is;
}

pub write_day-clock-requires-clause-month : goal.write_day-clock-requires-clause-month
write_day-clock-requires-clause-month c = dated c.args.shown.now c.args.text.now c.requires.shown

pub returns-clause-text : goal.returns-clause-text
returns-clause-text c =
    let k = c.requires.shown in
    let day : c.write_day-clock.new.text ≡ date_text (day_of_second c.args.second.0) ++ (clock_text k.second ++ k.rest) =
    c.write_day-clock.ensures.text ∙ ap (λ (l : List ℕ). date_text (day_of_second c.args.second.0) ++ drop 10 l) k.is in
    let clock = c.write_clock.ensures.text (day_of_second c.args.second.0) k.rest (rw (k.kept.clock) day) in
    moment c.args.second.0 c.write_day-clock.result (drop 19 c.args.text.now) c.write_clock.new.text k.rest
    c.write_day-clock.ensures.clock (ap (drop 19) k.is) clock
