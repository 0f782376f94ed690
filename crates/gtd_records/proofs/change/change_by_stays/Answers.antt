-- From stay to stay the element's state is that at the first second, up to the stay whose state differs.
use Rattle.std.proofs.Common.{◌≡◌, ap, arith, rules}
use Rattle.std.specs.Prelude.{not}
use Rattle.std.proofs.lemmas.Int.{ints}
use Rattle.gtd_core.specs.Whole.{whole}
use Rattle.gtd_eval.specs.facts.StayChanges.{changes_at, next_stays, stays_outside, tells_outside}
use Rattle.gtd_records.specs.Closing.{IsClosed, IsOpen}
use Rattle.gtd_records.proofs.StayFacts.{differ_outside}
use Rattle.gtd_records.proofs.change.change_by_stays.Goals as goal

pub loop-init : goal.loop-init
loop-init c =
    let set = IsClosed c.args.records.now c.args.at.element c.args.at.direction c.args.vehicle in
    let first = stays_outside set _ _ _ c.stay-first.ensures.stays in
    record { later = first.later; within = first.within; never = first.same }

pub loop-preserved : goal.loop-preserved
loop-preserved c =
    let set = IsClosed c.args.records.now c.args.at.element c.args.at.direction c.args.vehicle in
    let also = stays_outside set _ _ _ c.stay-stay.ensures.stays in
    let same : c.closed_at.result ≡ c.stay-first.result.holds = search rules in
    record {
      later = omega (arith, ints, c.loop.invariant.later, also.later);
      within = also.within;
      never = next_stays (IsOpen c.args.records.now c.args.at.element c.args.at.direction c.args.vehicle) c.args.second.0
          (whole c.args.horizon).until _ _ (not c.closed_at.result) c.loop.until.0
          (stays_outside set _ _ _ c.stay-first.ensures.stays) also (tells_outside _ _ c.closed_at.ensures.closed)
          (ap not same) c.loop.invariant.later c.loop.invariant.never;
    }

pub returns-then-until : goal.returns-then-until
returns-then-until c =
    let end = c.until.ensures.value in
    let past = rw end at c.if-until.true in
    record { change = λ t after before. c.loop.invariant.never t after (omega (arith, ints, past, before)) }

pub returns-then-closed_at-first : goal.returns-then-closed_at-first
returns-then-closed_at-first c =
    let end = c.until.ensures.value in
    let early = rw end at c.if-until.false in
    let differ : c.closed_at.result ≡ c.stay-first.result.holds → ⊥ = search rules in
    record {
      change = changes_at (IsOpen c.args.records.now c.args.at.element c.args.at.direction c.args.vehicle) c.args.second.0
          (whole c.args.horizon).until _ (not c.closed_at.result) c.loop.until.0
          (stays_outside _ _ _ _ c.stay-first.ensures.stays) (tells_outside _ _ c.closed_at.ensures.closed)
          (differ_outside _ _ differ) c.loop.invariant.later (omega (arith, ints, early)) c.loop.invariant.never;
    }

pub closed_at-requires : goal.closed_at-requires
closed_at-requires c =
    let h = c.args.horizon in
    let end = c.until.ensures.value in
    let early = rw end at c.if-until.false in
    let a = c.requires.inside in
    let b = c.loop.invariant.later in
    let n = h.not_early in
    let m = h.not_late in record { in_range = (omega (arith, ints, n, a.0, b), omega (arith, ints, early, m)) }
