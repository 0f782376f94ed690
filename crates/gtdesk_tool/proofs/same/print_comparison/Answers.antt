-- The domains are compared from the moment on; what differs is found at a second that can be shown.
use Rattle.gtdesk_tool.proofs.ComparingFacts.{compared_by, shown_by}
use Rattle.gtdesk_tool.proofs.same.print_comparison.Goals as goal

pub put_comparison-requires : goal.put_comparison-requires
put_comparison-requires g c = record {
  writable = c.requires.writable;
  shown = shown_by c.args.first.now c.args.second.now c.args.from.second.0 c.in-Ok.found c.args.from.in_range
      c.in-Ok.ensures.compared;
}

pub returns-in-Ok-clause-compared : goal.returns-in-Ok-clause-compared
returns-in-Ok-clause-compared g c =
    compared_by _ _ _ c.args.first.now c.args.second.now c.args.from.second.0 c.in-Ok.found c.put_comparison.result
    c.in-Ok.ensures.compared c.put_comparison.ensures.put
