-- Each kept span inside of the bounds is handed on, after those before it.
use Rattle.std.proofs.Common.{◌∙◌, refl, [], ◌∷◌, false, true}
use Rattle.gtd_eval.specs.Cursors.{cursor_list}
use Rattle.gtd_kept.specs.Kept.{rest_of}
use Rattle.gtd_eval.proofs.WithinFacts.{ready-one, takes-one}
use Rattle.gtd_eval.proofs.kept.KeptPeriod.each_kept.Goals as goal

pub take-requires : goal.take-requires
take-requires g c = record {
  ready = c.loop-x.invariant.ready (c.in-Some.x ∷ []) (rest_of c.next_within.new.again (cursor_list c.args.inner.now))
      c.in-Some.ensures.takes (c.in-Some.ensures.inside, tt);
}

pub returns-then-not-take-clause-takes : goal.returns-then-not-take-clause-takes
returns-then-not-take-clause-takes g c =
    takes-one g.T.SpanTaker.is_ready g.T.SpanTaker.takes c.args.bounds
    (rest_of c.args.again.now (cursor_list c.args.inner.now)) (rest_of c.loop-x.again (cursor_list c.args.inner.now))
    (rest_of c.next_within.new.again (cursor_list c.args.inner.now)) c.in-Some.x c.args.into.now c.loop-x.into
    c.take.new.into c.args.taker.now c.loop-x.taker c.take.new.self false c.loop-x.invariant.takes c.in-Some.ensures.takes
    c.in-Some.ensures.inside c.if-not-take.ensures.takes (λ no. cc)

pub loop-x-preserved : goal.loop-x-preserved
loop-x-preserved g c =
    let next = c.in-Some.ensures in
    let goes = c.if-not-take.ensures.ready refl in
    record {
      kept = next.kept;
      repeating = next.repeating;
      ended = next.ended;
      takes = takes-one g.T.SpanTaker.is_ready g.T.SpanTaker.takes c.args.bounds
          (rest_of c.args.again.now (cursor_list c.args.inner.now)) (rest_of c.loop-x.again (cursor_list c.args.inner.now))
          (rest_of c.next_within.new.again (cursor_list c.args.inner.now)) c.in-Some.x c.args.into.now c.loop-x.into
          c.take.new.into c.args.taker.now c.loop-x.taker c.take.new.self true c.loop-x.invariant.takes next.takes
          next.inside c.if-not-take.ensures.takes (λ yes. goes);
      ready = ready-one g.T.SpanTaker.is_ready c.args.bounds (rest_of c.loop-x.again (cursor_list c.args.inner.now))
          (rest_of c.next_within.new.again (cursor_list c.args.inner.now)) c.in-Some.x c.loop-x.into c.take.new.into
          c.loop-x.taker c.take.new.self c.loop-x.invariant.ready next.takes next.inside goes;
      room = next.room ∙ c.loop-x.invariant.room;
    }
