-- The first span that ends after the second decides, and none does past the last one.
use Rattle.std.proofs.Common.{arith}
use Rattle.std.proofs.lemmas.Grind.{common_steps}
use Rattle.std.proofs.lemmas.Int.{ints}
use Rattle.gtd_records.proofs.WeekFacts.{decides, none-left, passed}
use Rattle.gtd_records.proofs.week.spans_hold.Goals as goal

pub loop-span-init : goal.loop-span-init
loop-span-init c = record { same = ((λ h. h), (λ h. h)); normal = c.requires }

pub loop-span-preserved : goal.loop-span-preserved
loop-span-preserved c = passed c.args.spans.now c.args.second.0 c.loop-span.span-index c.span-item.result c.loop-span-test.true
    c.span-item.is c.loop-span.invariant (grind (arith, ints, common_steps))

pub returns-then-lt : goal.returns-then-lt
returns-then-lt c =
    let own = decides c.args.spans.now c.args.second.0 c.loop-span.span-index c.span-item.result c.loop-span-test.true
    c.span-item.is c.loop-span.invariant (grind (arith, ints, common_steps)) in
    let member = c.contains.ensures.member in
    ((λ h. own.0 (member.0 h)), (λ h. member.1 (own.1 h)))

pub returns : goal.returns
returns c = ((λ h. cc), (λ h. absurd (none-left _ _ _ (omega arith) c.loop-span.invariant h)))
