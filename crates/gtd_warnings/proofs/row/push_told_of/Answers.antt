-- What is told of a domain are three parts, in their order.
use Rattle.std.proofs.Common.{refl, ◌++◌}
use Rattle.gtd_core.specs.Parts.{domain_tree}
use Rattle.gtd_warnings.proofs.DayFacts.{on_day, throughout, three_parts}
use Rattle.gtd_warnings.proofs.row.push_told_of.Goals as goal

pub returns : goal.returns
returns c =
    let tree = domain_tree c.args.domain.now in
    let off = c.args.asked.now.off.items in
    let whole = c.in_ok-whole.whole in
    let are = c.in_ok-whole.ensures in
    let first = rw c.as_slice-off.ensures.value at c.in_ok-push_told.ensures.told in
    let second = rw c.as_slice-off.ensures.value at c.in_ok-push_found.ensures in
    let third = rw c.as_slice-off.ensures.value at c.in_ok-push_found-2.ensures in (
      (first.0 ++ second.0) ++ third.0,
      (
        first.0,
        second.0,
        third.0,
        first.1,
        throughout c.args.row off tree whole.throughout are.throughout second.0 second.1,
        on_day c.args.row off tree c.args.asked.now.days whole.on_day are.on_day third.0 third.1,
        refl,
      ),
      three_parts c.args.told.now.items _ _ _ first.0 second.0 third.0 first.2 second.2 third.2,
    )
