-- Ranges of a day, as they are written.
use Rattle.std.proofs.Common.{◌≡◌, ℕ, ◌+◌, ◌-◌, ◌*◌, ◌/◌, ◌%◌, ◌<◌, ◌≤◌, inl, inr, sym, subst, arith}
use Rattle.std.specs.Prelude.{nat_lt}
use Rattle.std.proofs.lemmas.Bool.{cases_lt, le-ltb, lt-ltb}
use Rattle.gtd_hours.specs.Ranges.{IsTimeRange, end_of}
use Rattle.gtd_hours_parts.specs.Pieces.{AreWrittenTimes}
use Rattle.gtd_hours_parts.specs.Times.{minute_of}
use Rattle.gtd_hours_moments.specs.declared.ranges.MinuteRange.{MinuteRange}
use Rattle.gtd_hours_moments.specs.Meaning.{IsOfDay, time_at}
use Rattle.gtd_hours_moments.specs.Minutes.{lasting}
use Rattle.gtd_hours_moments.proofs.DailyLemmas.{if_false, if_true}

same_minute : (n : ℕ) → n < 6000 → 60 * (n / 60 % 100) + n % 60 ≡ n
same_minute n few = omega arith

pub begin_minute : (range : MinuteRange) → IsOfDay range → minute_of (time_at range.begin) ≡ range.begin
begin_minute range day = same_minute range.begin (omega (arith, day.begins))

pub end_minute : (range : MinuteRange) → IsOfDay range → minute_of (time_at range.end) ≡ range.end
end_minute range day = same_minute range.end (omega (arith, day.begins, day.most))

begins_so : (n : ℕ) → n < 1440 → (n / 60 % 100 ≤ 23) × (n % 60 ≤ 59)
begins_so n few = (omega arith, omega arith)

minutes_so : (n : ℕ) → n % 60 ≤ 59
minutes_so n = omega arith

is_range : (begin end : ℕ) → begin < 1440 → begin < end → end ≤ begin + 1440 → IsTimeRange begin end
is_range begin end day some most =
    let e : end_of begin end ≡ end = if_true (nat_lt begin end) end (end + 1440) (lt-ltb begin end some) in
    (day, omega (arith, e, most))

pub fits : (range : MinuteRange) → IsOfDay range → AreWrittenTimes (time_at range.begin) (time_at range.end)
fits range day =
    let b = begin_minute range day in
    let e = end_minute range day in
    let r = is_range range.begin range.end day.begins day.some day.most in
    let most : minute_of (time_at range.end) ≤ 48 * 60 = omega (arith, e, day.begins, day.most) in (
      begins_so range.begin day.begins,
      (minutes_so range.end, most),
      subst (λ (n : ℕ). IsTimeRange n (minute_of (time_at range.end))) (sym b) (subst (IsTimeRange range.begin) (sym e) r),
    )

pub ends_so : (begin end : ℕ) → begin < 1440 → begin + lasting begin end ≡ end_of begin end
ends_so begin end day = elim (cases_lt begin end) [
  | inl less ↦
      let t = lt-ltb begin end less in
      let e = if_true (nat_lt begin end) (end - begin) (end + 1440 - begin) t in
      let f = if_true (nat_lt begin end) end (end + 1440) t in
      omega (arith, e, f, less)
  | inr more ↦
      let t = le-ltb begin end more in
      let e = if_false (nat_lt begin end) (end - begin) (end + 1440 - begin) t in
      let f = if_false (nat_lt begin end) end (end + 1440) t in
      omega (arith, e, f, day)
]
