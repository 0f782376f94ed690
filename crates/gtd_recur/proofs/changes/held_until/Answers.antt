-- Where no stretch holds the second, the domain ends; the end of one that holds it is later, so the search gets on.
use Rattle.std.proofs.Common.{◌≤ℤ◌, ◌<ℤ◌, arith, rules, FitsSigned, to_z-of_z, w64}
use Rattle.gtd_calendar.specs.facts.Signed.{signed_arith}
use Rattle.gtd_core.specs.Parts.{start_parts, duration_parts}
use Rattle.gtd_recur.specs.Membership.{InBasic}
use Rattle.gtd_recur.proofs.ChangeLemmas.{free-at, free-end, held-first, held-on, less-ahead}
use Rattle.gtd_recur.proofs.changes.held_until.Goals as goal

pub loop-at-init : goal.loop-at-init
loop-at-init c = held-first (InBasic c.args.basic.now) c.args.second.0 c.args.until.0 c.requires.order

pub stretch_end-requires : goal.stretch_end-requires
stretch_end-requires c =
    let i = c.loop-at.invariant in
    let at : FitsSigned w64 c.loop-at.at.0 = search rules in
    let until : FitsSigned w64 c.args.until.0 = search rules in
    let lt : c.loop-at.at.0 <ℤ c.args.until.0 = omega (arith, signed_arith, c.loop-at-test.true, to_z-of_z at, to_z-of_z until) in
    let low = i.low in let begin = c.requires.second_in.0 in let last = c.requires.until_in in
    record { horizon = (omega (arith, signed_arith, low, begin), omega (arith, signed_arith, lt, last)) }

pub returns-in_default : goal.returns-in_default
returns-in_default c = record {
  free = free-at (InBasic c.args.basic.now) c.args.second.0 c.args.until.0 c.loop-at.at.0 c.loop-at.invariant
      c.in_default.ensures.end;
}

pub loop-at-smaller : goal.loop-at-smaller
loop-at-smaller c =
    let i = c.loop-at.invariant in
    let at : FitsSigned w64 c.loop-at.at.0 = search rules in
    let until : FitsSigned w64 c.args.until.0 = search rules in
    let lt : c.loop-at.at.0 <ℤ c.args.until.0 = omega (arith, signed_arith, c.loop-at-test.true, to_z-of_z at, to_z-of_z until) in
    let on = held-on (start_parts c.args.basic.now.start) (duration_parts c.args.basic.now.duration) c.args.second.0
    c.args.until.0 c.loop-at.at.0 c.in-Some.end.0 c.earlier-at.result.0 i c.in-Some.ensures.end lt
    c.earlier-at.ensures.not_later c.earlier-at.ensures.either in
    less-ahead c.args.until.0 c.loop-at.at.0 c.earlier-at.result.0 on.0 c.earlier-at.ensures.not_later.1

pub loop-at-preserved : goal.loop-at-preserved
loop-at-preserved c =
    let i = c.loop-at.invariant in
    let at : FitsSigned w64 c.loop-at.at.0 = search rules in
    let until : FitsSigned w64 c.args.until.0 = search rules in
    let lt : c.loop-at.at.0 <ℤ c.args.until.0 = omega (arith, signed_arith, c.loop-at-test.true, to_z-of_z at, to_z-of_z until) in
    let on = held-on (start_parts c.args.basic.now.start) (duration_parts c.args.basic.now.duration) c.args.second.0
    c.args.until.0 c.loop-at.at.0 c.in-Some.end.0 c.earlier-at.result.0 i c.in-Some.ensures.end lt
    c.earlier-at.ensures.not_later c.earlier-at.ensures.either in
    on.1

pub returns : goal.returns
returns c =
    let i = c.loop-at.invariant in
    let at : FitsSigned w64 c.loop-at.at.0 = search rules in
    let until : FitsSigned w64 c.args.until.0 = search rules in
    let past : c.args.until.0 ≤ℤ c.loop-at.at.0 =
    omega (arith, signed_arith, c.loop-at-test.false, to_z-of_z at, to_z-of_z until) in
    record { free = free-end (InBasic c.args.basic.now) c.args.second.0 c.args.until.0 c.loop-at.at.0 i past }
