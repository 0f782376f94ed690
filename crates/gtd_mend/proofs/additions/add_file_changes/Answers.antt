-- At each turn the listing has the lines of the changes of the file passed so far, behind those that it had.
use Rattle.std.proofs.Common.{◌++◌, arith, get_or}
use Rattle.std.specs.Prelude.{codes, decimal}
use Rattle.std.proofs.lemmas.List.{take_all}
use Rattle.gtd_faults.specs.Printable.{printable}
use Rattle.gtd_mend.specs.Lines.{file_change_name, file_line}
use Rattle.gtd_mend.specs.declared.change.FileChange.TheVariants.{Utf16}
use Rattle.gtd_mend.proofs.TableFacts.{lists_more, none_more, one_more}
use Rattle.gtd_mend.proofs.additions.add_file_changes.Goals as goal

pub loop-change-init : goal.loop-change-init
loop-change-init c = λ path before is. none_more path before c.args.listing.now is

pub loop-change-preserved : goal.loop-change-preserved
loop-change-preserved c = λ path before is.
    let i = c.loop-change.change-index in
    let so_far = c.loop-change.invariant path before is in
    let e = c.in_ok-add_file_change.ensures in
    let change = get_or c.args.changes.now i Utf16 in
    let words = printable path ++ codes ":" ++ decimal 1 ++ codes ": " ++ file_change_name change in
    rw (one_more (file_line path) c.args.changes.now i Utf16 before (omega arith)) at
    (lists_more path _ words c.loop-change.listing c.add_file_change.new.self so_far e.path
    (rw so_far.path at e.text) e.count e.small)

pub returns : goal.returns
returns c = record {
  added = λ path before is.
      rw (take_all c.loop-change.change-index c.args.changes.now (omega arith)) at (c.loop-change.invariant path before is);
}
