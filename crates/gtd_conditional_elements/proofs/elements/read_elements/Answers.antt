-- The rows of a file's elements are few, since its rows are; and its warnings are those of its sound tags.
use Rattle.std.proofs.Common.{rules}
use Rattle.gtd_hours_options.specs.Readings.{how_read}
use Rattle.gtd_conditional_elements.specs.File.{AreOfFile}
use Rattle.gtd_conditional_elements.proofs.Bounds.{few_of_file}
use Rattle.gtd_conditional_elements.proofs.elements.read_elements.Goals as goal

pub returns-clause-few : goal.returns-clause-few
returns-clause-few c =
    few_of_file (how_read c.args.reading) c.args.means.now.rows.items c.args.bytes.now c.in_ok-found.found.rows.items
    c.in_ok-faults.faults.items (search rules)

pub returns-clause-warned : goal.returns-clause-warned
returns-clause-warned c =
    let found : AreOfFile (how_read c.args.reading) c.args.means.now.rows.items c.args.bytes.now c.in_ok-found.found.rows.items
    c.in_ok-faults.faults.items = record {
      tags = c.in_ok-file.file.tags.items;
      of_rows = c.in_ok-file.file.faults.items;
      file = search rules;
      sound = c.in_ok-values.values.sound.items;
      of_values = c.in_ok-values.values.faults.items;
      values = search rules;
      groups = c.in_ok-groups.groups.items;
      grouped = search rules;
      of_elements = c.in_ok-found.found.faults.items;
      each = search rules;
      listed = search rules;
    } in (found, search rules)
