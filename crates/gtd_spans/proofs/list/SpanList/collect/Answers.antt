-- Each span from the source begins after the list's last one, because the list and what is still to come are normal.
use Rattle.std.proofs.Common.{◌≡◌, List, ◌++◌, ◌∷◌, ap, subst, ◌∙◌}
use Rattle.gtd_core.specs.Seconds.{Interval}
use Rattle.gtd_spans.specs.Normal.{IsNormal}
use Rattle.gtd_spans.proofs.Pushed.{normal-before}
use Rattle.gtd_spans.proofs.list.SpanList.collect.Goals as goal

pub push_beyond-requires : goal.push_beyond-requires
push_beyond-requires g c =
    let rest : List Interval = g.S.SpanSource.rest c.next.new.self in
    let all : g.S.SpanSource.rest c.args.source.now ≡ c.loop-x.list ++ (c.in-Some.x ∷ rest) =
    c.loop-x.invariant ∙ ap (λ (r : List Interval). c.loop-x.list ++ r) c.in-Some.ensures.takes in
    record {
      beyond = normal-before c.loop-x.list rest c.in-Some.x
          (subst IsNormal all (g.met.S.SpanSource.is_normal c.args.source.now));
    }
