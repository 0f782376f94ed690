-- Another part adds its ranges.
use Rattle.std.proofs.Common.{◌≡◌, ◌∷◌, List, sym, subst}
use Rattle.gtd_hours.specs.declared.hours.TimeRange.{TimeRange}
use Rattle.gtd_hours2.specs.declared.values.RulePart.{RulePart}
use Rattle.gtd_hours_plain2.specs.Clocks.{clocks_of}
use Rattle.gtd_hours_plain2.specs.Times.{AreOfDay}
use Rattle.gtd_hours_plain2.proofs.Ranges.{AreSoFar, all_times, no_parts, none_so_far, part_more}
use Rattle.gtd_hours_plain2.proofs.times.plain_times.Goals as goal

pub loop-part-init : goal.loop-part-init
loop-part-init c =
    let clocks = clocks_of c.args.given.now in
    let parts = c.args.parts.now in
    record {
      so_far = subst (λ (ts : List TimeRange). AreSoFar clocks parts parts ts) (sym c.new-out.ensures.items)
          (none_so_far clocks parts);
      left = c.requires;
    }

pub loop-part-preserved : goal.loop-part-preserved
loop-part-preserved c =
    let clocks = clocks_of c.args.given.now in
    let all = c.args.parts.now in
    let part = c.in-Some.part.now in
    let more = c.in-Some.more.now in
    let old = c.loop-part.out.items in
    let split : c.loop-part.rest.now ≡ part ∷ more = c.in-Some.ensures.cases.0 in
    record {
      so_far = part_more clocks all more part old c.push_part.new.out.items
          (subst (λ (r : List RulePart). AreSoFar clocks all r old) split c.loop-part.invariant.so_far)
          c.in_ok-push_part.ensures;
      left = (subst (AreOfDay clocks) split c.loop-part.invariant.left).1;
    }

pub returns : goal.returns
returns c =
    all_times (clocks_of c.args.given.now) c.args.parts.now c.loop-part.rest.now c.loop-part.out.items
    c.loop-part.invariant.so_far (no_parts c.loop-part.rest.now c.in_default.ensures.cases)
