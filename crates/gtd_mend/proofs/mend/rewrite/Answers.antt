-- The rows that were read and mended, the lines that tell of it and their number are those of a text written anew.
use Rattle.std.proofs.Common.{◌++◌, [], ap, List}
use Rattle.gtd_mend.specs.Lines.{file_lines, table_lines}
use Rattle.gtd_mend.specs.Standing.{Lists}
use Rattle.gtd_mend.specs.declared.change.FileChange.{FileChange}
use Rattle.gtd_mend.proofs.TableFacts.{lists_join, no_lines}
use Rattle.gtd_mend.proofs.mend.rewrite.Goals as goal

pub returns : goal.returns
returns c =
    let path = c.args.path.now in
    let found = c.in_ok-table.ensures.rows in
    let rows = found.0 in
    let holds = found.2 in
    let changes = c.in_ok-changes.changes.items in
    let none = no_lines path c.new-listing.result c.new-listing.ensures.path c.new-listing.ensures.text
    c.new-listing.ensures.count in
    let first : Lists path (file_lines path changes) c.add_file_changes.new.listing =
    rw c.as_slice-2.ensures.value at (c.in_ok-add_file_changes.ensures.added path [] none) in
    let joined = c.in_ok-join.ensures in
    let all = lists_join path (file_lines path changes) (table_lines path rows) c.add_file_changes.new.listing
    c.in_ok-table.table.listing c.join.new.self first holds.listed joined.path joined.text joined.count joined.small in
    record {
      rewritten = λ bytes. (
        file_lines path changes ++ table_lines path rows,
        record {
          rows = rows;
          read = found.1;
          written = holds.mended;
          listed = ap (λ (l : List FileChange). file_lines path l ++ table_lines path rows)
              (rw (c.as_slice.ensures.value, holds.written) at c.in_ok-changes.ensures.value);
        },
        all.text,
        all.count,
      );
    }
