-- What the records that repeat close in a period, they close from then on.
use Rattle.std.proofs.Common.{arith}
use Rattle.std.proofs.lemmas.Int.{ints}
use Rattle.gtd_eval.specs.Cursors.{SomeHolds}
use Rattle.gtd_records.proofs.AlwaysFacts.{closed-for-ever}
use Rattle.gtd_records.proofs.OpenFacts.{ok_both}
use Rattle.gtd_records.proofs.always.are_closing_for_ever.Goals as goal

pub returns : goal.returns
returns c =
    let closing = c.in_ok-closing.closing in
    record {
      always = ok_both c.have_all.result c.have_all.ensures.all c.have_all.ensures.all (λ yes all also is.
          closed-for-ever c.args.records.now c.args.at.element c.args.at.direction c.args.vehicle closing.period c.args.days
          (SomeHolds closing.repeating.items)
          (omega (arith, ints, c.if-seconds-until.false, c.seconds.ensures.value, c.until.ensures.value, c.from.ensures.value))
          c.in_ok-closing.ensures.again (λ u a b. all is u (a, b)));
    }
