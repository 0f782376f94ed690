-- Parts that are no times add nothing.
use Rattle.std.proofs.Common.{sym, subst}
use Rattle.gtd_hours2.specs.Opening.{InTime, minute_of}
use Rattle.gtd_hours2.specs.declared.values.RulePart.{RulePart}
use Rattle.gtd_hours_plain2.specs.Clocks.{clocks_of}
use Rattle.gtd_hours_plain2.specs.Times.{AreAdded, IsWithPart}
use Rattle.gtd_hours_plain2.proofs.Ranges.{kept_on, other_part, time_added}
use Rattle.gtd_hours_plain2.proofs.times.push_part.Goals as goal

pub returns-in-Time : goal.returns-in-Time
returns-in-Time c =
    let clocks = clocks_of c.args.given.now in
    let first = c.in-Time.first in
    let last = c.in-Time.last in
    let t = c.in-Time.tail in
    let old = c.args.out.now.items in
    let new = c.push_time.new.out.items in
    kept_on c.push_time.result (AreAdded (InTime clocks (minute_of clocks first) last t) old new)
    (IsWithPart clocks c.args.part old new)
    (λ a. subst (λ (x : RulePart). IsWithPart clocks x old new) (sym c.in-Time.is) (time_added clocks first last t old new a))
    c.push_time.ensures

pub returns-in_default : goal.returns-in_default
returns-in_default c = other_part (clocks_of c.args.given.now) c.args.part c.args.out.now.items c.in_default.not-Time
