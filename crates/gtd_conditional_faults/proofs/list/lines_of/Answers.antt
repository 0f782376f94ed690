-- One fault more adds its own line, which names the line of the file on which its row begins, and those below it.
use Rattle.std.proofs.Common.{◌≡◌, ◌+◌, arith, ◌∷◌, ◌++◌, [], take, get_or, string_bytes}
use Rattle.std.proofs.lemmas.List.{take_more}
use Rattle.gtd_conditional_means.specs.declared.fault.MeansFault.TheVariants as means
use Rattle.gtd_conditional_faults.specs.declared.fault.FileFault.TheVariants as fault
use Rattle.gtd_conditional_faults.proofs.ListFacts.{lines_more}
use Rattle.gtd_conditional_faults.proofs.list.lines_of.Goals as goal

pub loop-fault-preserved : goal.loop-fault-preserved
loop-fault-preserved c =
    let i = c.loop-fault.fault-index in
    let bytes = c.args.bytes.now in
    let here = get_or c.args.faults.now i (fault.Means means.TooLarge) in
    let next : take (i + 1) c.args.faults.now ≡ take i c.args.faults.now ++ here ∷ [] =
    take_more c.args.faults.now i (fault.Means means.TooLarge) (omega arith) in
    let so_far = c.loop-fault.invariant in
    let at = c.in_ok-line.ensures.at bytes so_far.1 so_far.2 in
    let on = c.in_ok-line.ensures.line bytes so_far.1 so_far.2 in
    let snippet = c.fault_snippet-snippet.ensures.snippet at.0 at.2 (rw c.row_of.ensures at at.1) in (
      rw (next, c.in_ok-push_fault.ensures)
          (lines_more c.args.path.now bytes (take i c.args.faults.now) here (string_bytes c.loop-fault.text) c.in_ok-line.line
          c.fault_snippet-snippet.result (rw c.row_of.ensures at on) snippet so_far.0),
      at.0,
      at.2,
    )
