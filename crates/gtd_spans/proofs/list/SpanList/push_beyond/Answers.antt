-- A normal list stays normal with a span behind its end.
use Rattle.std.proofs.Common.{◌≡◌, subst}
use Rattle.gtd_spans.specs.Normal.{IsNormal}
use Rattle.gtd_spans.proofs.Pushed.{normal-append}
use Rattle.gtd_spans.proofs.list.SpanList.push_beyond.Goals as goal

pub invariant_of-self-2 : goal.invariant_of-self-2
invariant_of-self-2 c =
    let same : c.self.inside.spans.items ≡ c.args.self.now = c.self.view_is in
    rw (c.in_ok-push.ensures.items, same)
    (normal-append c.args.self.now c.args.x (subst IsNormal same c.self.invariant) c.from.ensures.not_empty c.requires.beyond)
