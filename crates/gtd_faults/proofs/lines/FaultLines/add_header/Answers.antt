-- The fault of a file without a header stands on its first line, with that line shown below.
use Rattle.std.proofs.Common.{refl}
use Rattle.gtd_faults.proofs.lines.FaultLines.add_header.Goals as goal

pub returns : goal.returns
returns c = c.add.ensures c.args.bytes.now refl c.header_snippet.ensures.snippet
