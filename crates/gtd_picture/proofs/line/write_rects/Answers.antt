-- Each part on the day adds its rectangle, so in the end the column has all of the day's parts;
-- the seconds after the day are left as they were.
use Rattle.std.proofs.Common.{rules, ◌≡◌, ◌∙◌, ap, refl, arith, FitsSigned, to_z, of_z, w64, to_z-of_z}
use Rattle.std.specs.Prelude.{ℤ, pos, ◌-ℤ◌, ◌*ℤ◌, ◌≤ℤ◌, ◌+ℤ◌, unsigned_abs}
use Rattle.gtd_calendar.specs.facts.Signed.{signed_arith}
use Rattle.gtd_spans.specs.Counting.{day_at}
use Rattle.gtd_spans.specs.facts.OneList.{same-interval}
use Rattle.gtd_spans.specs.facts.PartFacts.{part-inside}
use Rattle.gtd_picture.proofs.ColumnFacts.{stretch_of}
use Rattle.gtd_picture.proofs.RectsFacts.{rects_done, rects_more, same_rect}
use Rattle.gtd_picture.proofs.line.write_rects.Goals as goal

pub distance-y-requires-clause-order : goal.distance-y-requires-clause-order
distance-y-requires-clause-order g c =
    let midnight : ℤ = to_z w64 (of_z w64 (to_z w64 (of_z w64 c.args.day) *ℤ pos 86400)) in
    let inside = part-inside (day_at midnight) c.in-Some.part c.loop-part.seconds _ c.in-Some.ensures.takes in
    let fits : FitsSigned w64 c.from.result.0 = search rules in
    let same : to_z w64 (of_z w64 c.from.result.0) ≡ c.in-Some.part.from = to_z-of_z fits ∙ c.from.ensures.value in
    omega (arith, signed_arith, same, inside.0)

pub distance-y-requires-clause-near : goal.distance-y-requires-clause-near
distance-y-requires-clause-near g c =
    let midnight : ℤ = to_z w64 (of_z w64 (to_z w64 (of_z w64 c.args.day) *ℤ pos 86400)) in
    let inside = part-inside (day_at midnight) c.in-Some.part c.loop-part.seconds _ c.in-Some.ensures.takes in
    omega (arith, signed_arith, inside.1, inside.2)

pub distance-height-requires-clause-near : goal.distance-height-requires-clause-near
distance-height-requires-clause-near g c =
    let midnight : ℤ = to_z w64 (of_z w64 (to_z w64 (of_z w64 c.args.day) *ℤ pos 86400)) in
    let inside = part-inside (day_at midnight) c.in-Some.part c.loop-part.seconds _ c.in-Some.ensures.takes in
    omega (arith, signed_arith, inside.0, inside.1, inside.2)

pub loop-part-preserved : goal.loop-part-preserved
loop-part-preserved g c =
    let i = c.loop-part.invariant in
    let part = c.in-Some.part in
    let midnight : ℤ = to_z w64 (of_z w64 (to_z w64 (of_z w64 c.args.day) *ℤ pos 86400)) in
    let from_fits : FitsSigned w64 c.from.result.0 = search rules in
    let again_fits : FitsSigned w64 c.from-in-Some.result.0 = search rules in
    let until_fits : FitsSigned w64 c.until.result.0 = search rules in
    let from : to_z w64 (of_z w64 c.from.result.0) ≡ part.from = to_z-of_z from_fits ∙ c.from.ensures.value in
    let again : to_z w64 (of_z w64 c.from-in-Some.result.0) ≡ part.from = to_z-of_z again_fits ∙ c.from-in-Some.ensures.value in
    let until : to_z w64 (of_z w64 c.until.result.0) ≡ part.until = to_z-of_z until_fits ∙ c.until.ensures.value in
    let y : c.distance-y.result ≡ unsigned_abs (part.from -ℤ midnight) =
    c.distance-y.ensures.value ∙ ap (λ (t : ℤ). unsigned_abs (t -ℤ midnight)) from in
    let height : c.distance-height.result ≡ unsigned_abs (part.until -ℤ part.from) =
    c.distance-height.ensures.value ∙ rw (again, until) refl in
    let is = same_rect c.from-in-Some-2.result c.distance-y.result c.distance-height.result c.args.place
    (unsigned_abs (part.from -ℤ midnight)) (unsigned_abs (part.until -ℤ part.from)) c.from-in-Some-2.ensures y height in
    record {
      text = rects_more c.args.place midnight (day_at midnight) part c.loop-part.seconds c.next_on_day.new.self _
          c.loop-part.line.items c.write_rect.new.line.items
          (record { x = c.from-in-Some-2.result; y = c.distance-y.result; height = c.distance-height.result })
          i.text c.in-Some.ensures.takes is c.in_ok-write_rect.ensures.rect;
      later = λ t k.
          let a = i.later t k in
          let b = c.in-Some.ensures.later t k in
          ((λ m. b.0 (a.0 m)), (λ m. a.1 (b.1 m)));
    }

pub returns-clause-rects : goal.returns-clause-rects
returns-clause-rects g c =
    let day = c.args.day in
    let midnight : ℤ = to_z w64 (of_z w64 (to_z w64 (of_z w64 day) *ℤ pos 86400)) in
    let at : midnight ≡ day *ℤ pos 86400 = omega (arith, signed_arith) in
    let is : day_at midnight ≡ stretch_of day =
    same-interval (day_at midnight) (stretch_of day) (omega (arith, signed_arith, at)) (omega (arith, signed_arith, at)) in
    rects_done c.args.place day midnight (day_at midnight) c.args.seconds.now c.loop-part.seconds c.args.line.now.items
    c.loop-part.line.items is at c.loop-part.invariant.text c.in_default.ensures.takes.0

pub returns-clause-later : goal.returns-clause-later
returns-clause-later g c =
    let midnight : ℤ = to_z w64 (of_z w64 (to_z w64 (of_z w64 c.args.day) *ℤ pos 86400)) in
    λ t h.
    let k : (midnight +ℤ pos 86400) ≤ℤ t = omega (arith, signed_arith, h) in
    let a = c.loop-part.invariant.later t k in
    let b = c.in_default.ensures.later t k in
    ((λ m. b.0 (a.0 m)), (λ m. a.1 (b.1 m)))
