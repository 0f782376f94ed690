-- If any stretch of the day holds the second, then the one that begins last does: it ends after all others.
use Rattle.std.proofs.Common.{rules, arith, ◌≡◌, sym, refl, pos, ◌+ℤ◌, ◌*ℤ◌, FitsSigned, to_z, of_z, to_z-of_z, w64}
use Rattle.std.proofs.lemmas.Bool.{both_ways}
use Rattle.gtd_calendar.specs.facts.Signed.{signed_arith}
use Rattle.gtd_core.specs.Parts.{duration_parts}
use Rattle.gtd_calendar.specs.facts.ClockLemmas.{second-only}
use Rattle.gtd_calendar.specs.ComputedEnds.{stop}
use Rattle.gtd_recur.proofs.CoverLemmas.{no_latest, held_by_latest, latest_ends, test_from_lt, lt_from_test}
use Rattle.gtd_recur.proofs.cover.end_from_day.Goals as goal

pub returns-in_default : goal.returns-in_default
returns-in_default c =
    let latest = rw c.in_default.is at c.requires.latest in
    record {
      end = λ held. no_latest c.args.start.now (duration_parts c.args.duration.now) c.args.day c.args.second.0 latest held;
    }

pub returns-then-not-begins_on_day : goal.returns-then-not-begins_on_day
returns-then-not-begins_on_day c =
    let latest = rw c.in-Some.is at c.requires.latest in
    let same : to_z w64 (of_z w64 c.args.day) ≡ c.args.day = to_z-of_z c.ranges.day in
    let not = rw same at c.if-not-begins_on_day.ensures in
    record {
      end = λ held. both_ways _ (sym not)
          (held_by_latest c.args.start.now (duration_parts c.args.duration.now) c.args.day c.args.second.0 c.in-Some.clock latest
          held).0;
    }

pub end_of-end-requires : goal.end_of-end-requires
end_of-end-requires c =
    let latest = rw c.in-Some.is at c.requires.latest in
    let plain : to_z w64 (of_z w64 (to_z w64 (of_z w64 (pos 86400 *ℤ to_z w64 (of_z w64 c.args.day)))
    +ℤ to_z w64 (of_z w64 c.from.result))) ≡ pos 86400 *ℤ c.args.day +ℤ pos c.in-Some.clock = omega (arith, signed_arith) in
    rw (plain, (second-only _ c.args.day c.in-Some.clock latest.0 refl).0) c.requires.day_in

pub returns-then-second-end : goal.returns-then-second-end
returns-then-second-end c =
    let latest = rw c.in-Some.is at c.requires.latest in
    let same : to_z w64 (of_z w64 c.args.day) ≡ c.args.day = to_z-of_z c.ranges.day in
    let begins = rw same at c.if-not-begins_on_day.ensures in
    let plain : to_z w64 (of_z w64 (to_z w64 (of_z w64 (pos 86400 *ℤ to_z w64 (of_z w64 c.args.day)))
    +ℤ to_z w64 (of_z w64 c.from.result))) ≡ pos 86400 *ℤ c.args.day +ℤ pos c.in-Some.clock = omega (arith, signed_arith) in
    let fits : FitsSigned w64 c.args.second.0 = search rules in
    let fits_end : FitsSigned w64 c.end_of-end.result.0 = search rules in
    let lt = lt_from_test _ _ (rw (to_z-of_z fits, to_z-of_z fits_end) at c.if-second-end.true) in
    record {
      end = latest_ends c.args.start.now (duration_parts c.args.duration.now) c.args.day c.args.second.0 c.in-Some.clock
          c.end_of-end.result.0 latest (sym begins) (rw plain at c.end_of-end.ensures.value) lt;
    }

pub returns : goal.returns
returns c =
    let latest = rw c.in-Some.is at c.requires.latest in
    let plain : to_z w64 (of_z w64 (to_z w64 (of_z w64 (pos 86400 *ℤ to_z w64 (of_z w64 c.args.day)))
    +ℤ to_z w64 (of_z w64 c.from.result))) ≡ pos 86400 *ℤ c.args.day +ℤ pos c.in-Some.clock = omega (arith, signed_arith) in
    let end : c.end_of-end.result.0 ≡ stop (duration_parts c.args.duration.now) (pos 86400 *ℤ c.args.day +ℤ pos c.in-Some.clock) =
    rw plain at c.end_of-end.ensures.value in
    let fits : FitsSigned w64 c.args.second.0 = search rules in
    let fits_end : FitsSigned w64 c.end_of-end.result.0 = search rules in
    let past = rw (to_z-of_z fits, to_z-of_z fits_end, end) at c.if-second-end.false in
    record {
      end = λ held. both_ways _ past (test_from_lt _ _
          (held_by_latest c.args.start.now (duration_parts c.args.duration.now) c.args.day c.args.second.0 c.in-Some.clock latest
          held).1);
    }
