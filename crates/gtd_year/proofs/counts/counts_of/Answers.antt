-- One number more is that of the next day.
use Rattle.std.proofs.Common.{◌≡◌, arith, rules, FitsSigned, to_z, of_z, w64, to_z-of_z, length-append, [], ◌∷◌}
use Rattle.std.specs.Prelude.{ℤ, pos, ◌+ℤ◌}
use Rattle.gtd_calendar.specs.facts.Signed.{signed_arith}
use Rattle.gtd_spans.specs.Normal.{Holds}
use Rattle.gtd_year.proofs.CountLists.{counts_more, week_counted}
use Rattle.gtd_year.proofs.counts.counts_of.Goals as goal

pub loop-place-preserved : goal.loop-place-preserved
loop-place-preserved g c =
    let fits : FitsSigned w64 c.args.first = search rules in
    let same : to_z w64 (of_z w64 c.args.first) ≡ c.args.first = to_z-of_z fits in
    let i = c.loop-place.invariant in
    let set = Holds c.args.seconds.now in
    let place = c.loop-place.place in
    let counts = c.loop-place.counts.items in
    let count = c.count_of-count.result in
    let day : ℤ = to_z w64 (of_z w64 (to_z w64 (of_z w64 c.args.first) +ℤ to_z w64 (of_z w64 c.from-in-loop-place.result))) in
    let at : day ≡ c.args.first +ℤ pos place = omega (arith, signed_arith) in
    let are = rw same at i.are in
    let left = rw same at i.left in
    let before = week_counted set c.args.first day c.args.days place counts c.args.weekly c.week_before-before.result i.many
    c.loop-place-test.true at c.requires.weekly are (rw (c.as_slice.ensures.value) at c.week_before-before.ensures.before) in
    let counted = c.count_of-count.ensures.count c.args.seconds.now
    (λ t h. left t (omega (arith, signed_arith, at, h))) before in
    let l = length-append counts (count ∷ []) in
    record {
      many = rw (c.in_ok-push.ensures.items) (omega (arith, l, i.many));
      are = rw (same, c.in_ok-push.ensures.items)
          (counts_more set c.args.first place count counts i.many (rw (← at) counted) are);
      left = rw same (λ t h.
          let p = left t (omega (arith, signed_arith, h)) in
          let q = c.count_of-count.ensures.later t (omega (arith, signed_arith, h)) in
          ((λ k. q.0 (p.0 k)), (λ k. p.1 (q.1 k))));
    }
