-- The list gains the seconds of the span and no others, whether the span is joined to the last one or put behind it.
use Rattle.std.proofs.Common.{◌≡◌, subst, rules}
use Rattle.gtd_spans.specs.Normal.{IsNormal}
use Rattle.gtd_spans.specs.Pushing.{AllEndBefore}
use Rattle.gtd_spans.proofs.Pushed.{Leaves, leaves-pushed, end-reaches}
use Rattle.gtd_spans.proofs.list.SpanList.push_start.Goals as goal

pushed : (c : goal.In_ok-push) → Leaves c.args.self.now c.args.x c.push.new.self.items
pushed c =
    let ends : AllEndBefore c.args.x.from c.args.self.now = rw c.from.ensures.value at (c.reaches.ensures.no (search rules)) in
    let same : c.self.inside.spans.items ≡ c.args.self.now = c.self.view_is in
    rw (c.in_ok-push.ensures.items, same)
    (leaves-pushed c.args.self.now c.args.x (subst IsNormal same c.self.invariant) c.from.ensures.not_empty c.requires.order ends)

pub invariant_of-self-2 : goal.invariant_of-self-2
invariant_of-self-2 c = (pushed c).normal

pub returns-clause-seconds : goal.returns-clause-seconds
returns-clause-seconds c = (pushed c).seconds

pub returns-clause-order : goal.returns-clause-order
returns-clause-order c = (pushed c).order

pub returns-in_err-push-clause-joins : goal.returns-in_err-push-clause-joins
returns-in_err-push-clause-joins c = λ h.
    let ends : AllEndBefore c.args.x.from c.args.self.now = rw c.from.ensures.value at (c.reaches.ensures.no (search rules)) in
    absurd (end-reaches c.args.x.from c.args.self.now ends h)

pub returns-clause-normal : goal.returns-clause-normal
returns-clause-normal c = (pushed c).normal
