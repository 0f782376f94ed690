-- One more year adds the day that comes so long after its Easter. Two years on either side of the range are enough,
-- since no offset leads further.
use Rattle.std.proofs.Common.{rules, ◌∙◌, refl, arith, ◌-◌, FitsSigned, w64, to_z-of_z}
use Rattle.gtd_hours_holidays.specs.Days.{IsIn}
use Rattle.gtd_hours_days.proofs.AdditionFacts.{easter_all, easter_more, easter_none}
use Rattle.gtd_hours_days.proofs.easter_days.add_easter.Goals as goal

pub loop-year-init : goal.loop-year-init
loop-year-init c = record {
  begun = omega arith;
  begins = refl;
  added = easter_none c.args.years (c.args.years.first - 2) c.args.offset.days (IsIn c.args.days.now);
}

pub add_day-requires : goal.add_day-requires
add_day-requires c = rw c.loop-year.invariant.begins c.requires

pub loop-year-preserved : goal.loop-year-preserved
loop-year-preserved c =
    let day : FitsSigned w64 c.after_easter.result = search rules in
    record {
      begun = let low = c.loop-year.invariant.begun in omega (arith, low);
      begins = c.add_day.ensures.begins ∙ c.loop-year.invariant.begins;
      added = easter_more c.args.years (c.args.years.first - 2) c.loop-year.year c.args.offset.days c.after_easter.result
          (IsIn c.add_day.new.days) (IsIn c.loop-year.days) (IsIn c.args.days.now) c.loop-year.invariant.begun
          c.after_easter.ensures c.loop-year.invariant.added (rw (to_z-of_z day) at c.in_ok-add_day.ensures.added);
    }

pub returns-clause-added : goal.returns-clause-added
returns-clause-added c =
    easter_all c.easter_is_a_sunday.ensures.between c.args.years c.args.offset c.loop-year.year (IsIn c.loop-year.days)
    (IsIn c.args.days.now) (omega (arith, c.loop-year-test.false)) c.loop-year.invariant.added
