-- A file without a fault is put as the rows of its elements, and its warnings are those of its tags.
use Rattle.std.proofs.Common.{◌≡◌, arith, rules, subst, sym, List, []}
use Rattle.std.proofs.lemmas.Grind.{common_steps}
use Rattle.gtd_conditional_elements.specs.File.{AreOfFile}
use Rattle.gtd_conditional_elements.specs.declared.fault.ConditionsFault.{ConditionsFault}
use Rattle.gtd_conditional_elements.specs.declared.found.ElementRow.{ElementRow}
use Rattle.gtd_hours_options.specs.Readings.{how_read}
use Rattle.gtd_conditional_file.specs.Run.{paths_of}
use Rattle.gtd_conditional_file.proofs.WarnedFacts.{warned_with, warnings_of}
use Rattle.gtd_conditional_file.proofs.run.put_tags.Goals as goal

pub returns-clause-stands : goal.returns-clause-stands
returns-clause-stands g c = λ table read.
    let how = (how_read c.args.reading.hours) in
    let means = c.args.means.now.rows.items in
    let bytes = c.args.bytes.now in
    let none : c.in-Ok.file.faults.items ≡ [] = grind (arith, common_steps) in
    let sound = subst (λ (faults : List ConditionsFault). AreOfFile how means bytes c.in-Ok.file.rows.items faults) none
    c.in-Ok.ensures.file in
    rw (c.with_warnings.ensures.lines)
    (c.put_sound-put.ensures.stands how (paths_of c.args.reading.paths) table bytes (record {
      table = means;
      read = read;
      file = subst (λ (rows : List ElementRow). AreOfFile how means bytes rows []) (sym c.as_slice-2.ensures.value) sound;
    }))

pub returns-clause-warned : goal.returns-clause-warned
returns-clause-warned g c = λ table read.
    let how = (how_read c.args.reading.hours) in
    let none : c.in-Ok.file.faults.items ≡ [] = grind (arith, common_steps) in
    warned_with how (paths_of c.args.reading.paths) table c.args.bytes.now c.in-Ok.file.warnings.items
    c.with_warnings.result (search rules)
    (warnings_of how c.args.means.now.rows.items c.args.reading.paths.tags.now table c.args.bytes.now
    c.in-Ok.file.rows.items c.in-Ok.file.warnings.items c.in-Ok.file.faults.items none read c.in-Ok.ensures.warned)
