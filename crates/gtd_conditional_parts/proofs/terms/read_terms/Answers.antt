-- One term after another is read, until none is left or one is at fault.
use Rattle.std.proofs.Common.{arith}
use Rattle.gtd_hours_options.specs.Readings.{how_read}
use Rattle.gtd_conditional_parts.proofs.TermSteps.{fails_here, fails_more, goes_last, goes_more, goes_start}
use Rattle.gtd_conditional_parts.proofs.terms.read_terms.Goals as goal

pub loop-term-init : goal.loop-term-init
loop-term-init c = record {
  fits = c.requires.fits;
  goes =
      goes_start (how_read c.args.reading) c.args.means.now.rows.items c.args.place c.args.text.now c.new-terms.result.items
      c.new-terms.ensures.items;
  fails = λ why h. h;
}

pub loop-term-preserved : goal.loop-term-preserved
loop-term-preserved c =
    let rows = c.args.means.now.rows.items in
    let cut = c.term_length-bytes.ensures.bytes in
    record {
      fits = omega (arith, c.text_from-rest.ensures.long);
      goes =
          goes_more (how_read c.args.reading) rows c.args.place c.args.text.now c.loop-term.at c.term_length-bytes.result
          c.loop-term.rest.now cut
          c.loop-term.terms.items c.push_term.new.terms.items c.in-Ok.term c.in_ok-push_term.ensures (omega arith)
          c.in-Ok.ensures c.loop-term.invariant.goes c.text_from-rest.result.now c.text_from-rest.ensures.text;
      fails =
          fails_more (how_read c.args.reading) rows c.args.place c.args.text.now c.loop-term.at c.term_length-bytes.result
          c.loop-term.rest.now cut
          c.in-Ok.term (omega arith) c.in-Ok.ensures c.loop-term.invariant.fails c.text_from-rest.result.now
          c.text_from-rest.ensures.text;
    }

pub returns-in-Err-clause-fault : goal.returns-in-Err-clause-fault
returns-in-Err-clause-fault c =
    fails_here (how_read c.args.reading) c.args.means.now.rows.items c.args.place c.args.text.now c.loop-term.at
    c.term_length-bytes.result c.loop-term.rest.now c.term_length-bytes.ensures.bytes c.in-Err.why c.in-Err.ensures
    c.loop-term.invariant.fails

pub returns-then-rest-bytes-lt3-clause-terms : goal.returns-then-rest-bytes-lt3-clause-terms
returns-then-rest-bytes-lt3-clause-terms c =
    goes_last (how_read c.args.reading) c.args.means.now.rows.items c.args.place c.args.text.now c.loop-term.at
    c.term_length-bytes.result c.loop-term.rest.now c.term_length-bytes.ensures.bytes c.loop-term.terms.items
    c.push_term.new.terms.items c.in-Ok.term
    c.in_ok-push_term.ensures (omega arith) c.in-Ok.ensures c.loop-term.invariant.goes
