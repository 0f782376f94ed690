use Rattle.std.proofs.Common.{rules, arith, refl, ◌≡◌, ◌≤◌, ◌<◌, ◌/◌, ◌*◌, ◌-◌, ◌+◌, ℤ, ℕ, pos, ◌≤ℤ◌, ◌<ℤ◌}
use Rattle.std.proofs.Common.{◌-ℤ◌, FitsSigned, to_z, of_z, w64, to_z-of_z, unsigned_abs}
use Rattle.gtd_calendar.specs.Calendar.{IsCalendarDay}
use Rattle.gtd_calendar.specs.Clock.{second_of_day}
use Rattle.gtd_calendar.specs.ComputedDates.{day_of_month}
use Rattle.gtd_calendar.specs.facts.Signed.{signed_arith, one_part}
use Rattle.gtd_core.specs.Seconds.{day_of_second}
use Rattle.gtd_schedule.specs.Moments.{first_second}
use Rattle.gtd_schedule.proofs.MonthDays.{begins_in, few}
use Rattle.gtd_schedule.proofs.moment.place_in_month.Goals as goal

since_fits : (s begins n : ℤ) (d : ℕ) → IsCalendarDay (day_of_second s) → IsCalendarDay n → begins ≡ first_second n d → d ≤ 31
    → FitsSigned w64 (s -ℤ begins)
unfolding day_of_second first_second
since_fits s begins n d a b e f = omega (arith, signed_arith, a.0, a.1, b.0, b.1)

day_is : (s begins since n : ℤ) (d seconds : ℕ) → begins ≡ first_second n d → since ≡ s -ℤ begins → pos 0 ≤ℤ since
    → since <ℤ pos seconds
    → (begins ≡ first_second (day_of_second s) (unsigned_abs since / 86400 + 1))
    × (1 ≤ unsigned_abs since / 86400 + 1)
    × (86400 * (unsigned_abs since / 86400 + 1) < seconds + 86400)
unfolding day_of_second first_second
day_is s begins since n d seconds is from low high =
    let part = one_part since in
    (omega (arith, signed_arith, part), omega arith, omega (arith, signed_arith, part))

clock_is : (s begins since n : ℤ) (d : ℕ) → begins ≡ first_second n d → since ≡ s -ℤ begins → pos 0 ≤ℤ since
    → unsigned_abs since - 86400 * (unsigned_abs since / 86400) ≡ second_of_day s
unfolding second_of_day first_second
clock_is s begins since n d is from low = let part = one_part since in omega (arith, signed_arith, part)

-- the machine's numbers on the way to the seconds since the month's beginning are those numbers
exact : (s begins n : ℤ) (d : ℕ) → FitsSigned w64 s → IsCalendarDay (day_of_second s) → IsCalendarDay n
    → begins ≡ first_second n d → d ≤ 31
    → (to_z w64 (of_z w64 s) ≡ s) × (to_z w64 (of_z w64 begins) ≡ begins)
    × (to_z w64 (of_z w64 (s -ℤ begins)) ≡ s -ℤ begins)
exact s begins n d s_fits a b e f =
    (to_z-of_z s_fits, to_z-of_z (begins_in begins n d b e f), to_z-of_z (since_fits s begins n d a b e f))

pub overflow_sub-since : goal.overflow_sub-since
overflow_sub-since c =
    let m = c.requires.month in
    let x = exact c.args.second.0 c.args.month.begins m.0 (day_of_month m.0) (search rules) c.requires.day m.1
    m.2.begins (few m.0) in
    rw (x.0, x.1) (since_fits c.args.second.0 c.args.month.begins m.0 (day_of_month m.0) c.requires.day m.1 m.2.begins (few m.0))

pub returns-clause-day : goal.returns-clause-day
returns-clause-day c =
    let m = c.requires.month in
    let x = exact c.args.second.0 c.args.month.begins m.0 (day_of_month m.0) (search rules) c.requires.day m.1
    m.2.begins (few m.0) in
    let low = rw (x.0, x.1, x.2) at c.if-since-lt0.false in
    let high = rw (x.0, x.1, x.2, c.from-seconds.ensures) at c.if-seconds-since.false in
    let is = day_is c.args.second.0 c.args.month.begins (c.args.second.0 -ℤ c.args.month.begins) m.0 (day_of_month m.0)
    c.args.month.seconds m.2.begins refl
    (omega (arith, signed_arith, low)) (omega (arith, signed_arith, high)) in
    rw (x.0, x.1, x.2) (record { begins = is.0; some = is.1; within = is.2 })

pub returns-clause-clock : goal.returns-clause-clock
returns-clause-clock c =
    let m = c.requires.month in
    let x = exact c.args.second.0 c.args.month.begins m.0 (day_of_month m.0) (search rules) c.requires.day m.1
    m.2.begins (few m.0) in
    let low = rw (x.0, x.1, x.2) at c.if-since-lt0.false in
    rw (x.0, x.1, x.2) (clock_is c.args.second.0 c.args.month.begins (c.args.second.0 -ℤ c.args.month.begins) m.0
    (day_of_month m.0) m.2.begins refl
    (omega (arith, signed_arith, low)))
