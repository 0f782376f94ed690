-- One part after another is read, until none is left or one is at fault.
use Rattle.std.proofs.Common.{arith}
use Rattle.gtd_hours_options.specs.Readings.{how_read}
use Rattle.gtd_conditional_parts.proofs.PartSteps.{fails_here, fails_more, goes_last, goes_more, goes_start, have_here}
use Rattle.gtd_conditional_parts.proofs.PartSteps.{have_more}
use Rattle.gtd_conditional_parts.proofs.part.read_parts.Goals as goal

pub loop-part-init : goal.loop-part-init
loop-part-init c = record {
  fits = omega arith;
  have = c.requires.have;
  goes =
      goes_start c.args.subject (how_read c.args.reading) c.args.means.now.rows.items 0 c.args.text.now c.new-parts.result.items
      c.new-parts.ensures.items;
  fails = λ why h. h;
}

pub read_part-requires-clause-has : goal.read_part-requires-clause-has
read_part-requires-clause-has c =
    have_here 0 c.args.text.now c.loop-part.at c.part_length-bytes.result c.loop-part.rest.now
    c.part_length-bytes.ensures.bytes c.loop-part.invariant.have

pub loop-part-preserved : goal.loop-part-preserved
loop-part-preserved c =
    let rows = c.args.means.now.rows.items in
    let cut = c.part_length-bytes.ensures.bytes in
    let is = c.in-Ok.ensures.part in
    record {
      fits = omega (arith, c.text_from-rest.ensures.long);
      have =
          have_more 0 c.args.text.now c.loop-part.at c.part_length-bytes.result c.loop-part.rest.now cut is.at is.has
          (omega arith) c.loop-part.invariant.have c.text_from-rest.result.now c.text_from-rest.ensures.text;
      goes =
          goes_more c.args.subject (how_read c.args.reading) rows 0 c.args.text.now c.loop-part.at c.part_length-bytes.result
          c.loop-part.rest.now cut
          c.loop-part.parts.items c.push_part.new.parts.items c.in-Ok.part c.in_ok-push_part.ensures (omega arith) is
          c.loop-part.invariant.goes c.text_from-rest.result.now c.text_from-rest.ensures.text;
      fails =
          fails_more c.args.subject (how_read c.args.reading) rows 0 c.args.text.now c.loop-part.at c.part_length-bytes.result
          c.loop-part.rest.now cut
          c.in-Ok.part (omega arith) is c.loop-part.invariant.fails c.text_from-rest.result.now c.text_from-rest.ensures.text;
    }

pub returns-in-Err-clause-fault : goal.returns-in-Err-clause-fault
returns-in-Err-clause-fault c =
    fails_here c.args.subject (how_read c.args.reading) c.args.means.now.rows.items 0 c.args.text.now c.loop-part.at
    c.part_length-bytes.result
    c.loop-part.rest.now c.part_length-bytes.ensures.bytes c.in-Err.why c.in-Err.ensures.fault c.loop-part.invariant.fails

pub returns-then-rest-bytes-lt1-clause-parts : goal.returns-then-rest-bytes-lt1-clause-parts
returns-then-rest-bytes-lt1-clause-parts c =
    goes_last c.args.subject (how_read c.args.reading) c.args.means.now.rows.items 0 c.args.text.now c.loop-part.at
    c.part_length-bytes.result c.loop-part.rest.now c.part_length-bytes.ensures.bytes c.loop-part.parts.items
    c.push_part.new.parts.items c.in-Ok.part
    c.in_ok-push_part.ensures (omega arith) c.in-Ok.ensures.part c.loop-part.invariant.goes
