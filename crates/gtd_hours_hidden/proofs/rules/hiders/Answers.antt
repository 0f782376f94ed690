use Rattle.std.proofs.Common.{arith}
use Rattle.gtd_hours_hidden.proofs.HiderFacts.{hiders-none, hiders-one, hiders-all}
use Rattle.gtd_hours_hidden.proofs.rules.hiders.Goals as goal
use Rattle.gtd_hours_hidden.proofs.rules.hiders.Goals.{in-Some+in_ok-push-in-Some, in-None}

pub loop-place-preserved : goal.loop-place-preserved
loop-place-preserved c =
    elim c.match-hider.branch [
      | in-Some+in_ok-push-in-Some w ↦
          rw (w.places-is, w.in_ok-push-in-Some.ensures.items)
          (hiders-one c.args.rules.now c.loop-place.place c.loop-place.places.items w.in-Some.k c.loop-place.invariant
          w.in-Some.ensures)
      | in-None w ↦
          rw w.places-is
          (hiders-none c.args.rules.now c.loop-place.place c.loop-place.places.items c.loop-place.invariant w.in-None.ensures)
    ]

pub returns : goal.returns
returns c =
    hiders-all c.args.rules.now c.loop-place.place c.loop-place.places.items (omega arith) c.loop-place.invariant
