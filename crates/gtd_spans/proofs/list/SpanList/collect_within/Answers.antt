-- Each span from the source may be pushed behind the list, since what the source gives is normal.
use Rattle.std.proofs.Common.{◌≡◌, List, ◌++◌, ◌∷◌, ap, subst, ◌∙◌}
use Rattle.gtd_core.specs.Seconds.{Interval}
use Rattle.gtd_spans.specs.Normal.{IsNormal}
use Rattle.gtd_spans.proofs.Pushed.{normal-before}
use Rattle.gtd_spans.proofs.list.SpanList.collect_within.Goals as goal

pub push_beyond-requires : goal.push_beyond-requires
push_beyond-requires g c =
    let rest : List Interval = g.S.SpanSource.rest c.next.new.self in
    let all : g.S.SpanSource.rest c.args.source.now ≡ c.loop-span.list ++ (c.in-Some.span ∷ rest) =
    c.loop-span.invariant.all ∙ ap (λ (r : List Interval). c.loop-span.list ++ r) c.in-Some.ensures.takes in
    record {
      beyond = normal-before c.loop-span.list rest c.in-Some.span
          (subst IsNormal all (g.met.S.SpanSource.is_normal c.args.source.now));
    }
