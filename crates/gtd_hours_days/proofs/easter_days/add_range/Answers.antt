-- One more year adds the range that begins in it. The years from two before the range of years to one after it are enough.
use Rattle.std.proofs.Common.{◌∙◌, refl, arith, ◌-◌}
use Rattle.gtd_hours_holidays.specs.Days.{IsIn}
use Rattle.gtd_hours_holidays.specs.KnownYears.{IsOfYears}
use Rattle.gtd_hours_days.specs.EasterRanges.{IsInRangeOf}
use Rattle.gtd_hours_days.proofs.EasterFacts.{all_years, none_before, one_more}
use Rattle.gtd_hours_days.proofs.easter_days.add_range.Goals as goal

pub loop-year-init : goal.loop-year-init
loop-year-init c = record {
  begun = omega arith;
  begins = refl;
  added = none_before (IsInRangeOf c.args.range.is_over c.args.range.first c.args.range.last)
      (IsOfYears c.args.years.first c.args.years.last) (IsIn c.args.days.now) (c.args.years.first - 2);
}

pub add_range_of-requires-clause-begun : goal.add_range_of-requires-clause-begun
add_range_of-requires-clause-begun c = rw c.loop-year.invariant.begins c.requires

pub loop-year-preserved : goal.loop-year-preserved
loop-year-preserved c = record {
  begun = let low = c.loop-year.invariant.begun in omega (arith, low);
  begins = c.add_range_of.ensures.begins ∙ c.loop-year.invariant.begins;
  added = one_more (IsInRangeOf c.args.range.is_over c.args.range.first c.args.range.last)
      (IsOfYears c.args.years.first c.args.years.last) (IsIn c.add_range_of.new.days) (IsIn c.loop-year.days)
      (IsIn c.args.days.now) (c.args.years.first - 2) c.loop-year.year c.loop-year.invariant.begun
      c.loop-year.invariant.added c.in_ok-add_range_of.ensures.added;
}

pub returns-clause-added : goal.returns-clause-added
returns-clause-added c =
    all_years c.easter_is_a_sunday.ensures.between c.args.years c.args.range.is_over c.args.range.first c.args.range.last
    c.loop-year.year (IsIn c.loop-year.days) (IsIn c.args.days.now) (omega (arith, c.loop-year-test.false))
    c.loop-year.invariant.added
