-- A second is contained exactly if there is an end of a stretch that holds it.
use Rattle.gtd_core.specs.Parts.{start_parts, duration_parts}
use Rattle.gtd_recur.proofs.CoverLemmas.{end-tells}
use Rattle.gtd_recur.proofs.cover.covers.Goals as goal

pub returns : goal.returns
returns c = record {
  member = rw c.is_some.ensures (end-tells (start_parts c.args.basic.now.start) (duration_parts c.args.basic.now.duration)
      c.args.second.0 c.stretch_end.result c.stretch_end.ensures.end);
}
