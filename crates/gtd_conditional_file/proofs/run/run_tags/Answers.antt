-- What was read of the input is put, or its faults are listed. Bytes beyond the limit are refused with one fault.
use Rattle.std.proofs.Common.{refl, rules}
use Rattle.gtd_hours_options.specs.Readings.{how_read}
use Rattle.gtd_conditional_file.specs.Run.{lines_of, paths_of}
use Rattle.gtd_conditional_file.proofs.RunFacts.{large_tags, tags_told}
use Rattle.gtd_conditional_file.proofs.WarnedFacts.{warned_told}
use Rattle.gtd_conditional_file.proofs.run.run_tags.Goals as goal

pub returns-in-Ok-clause-stands : goal.returns-in-Ok-clause-stands
returns-in-Ok-clause-stands g c = λ table read.
    tags_told (how_read c.args.reading.hours) (paths_of c.args.reading.paths) table c.in-Ok.bytes.items
    (g.I.Input.to_come c.args.tags.now) (g.O.Output.taken c.args.output.now) (g.O.Output.taken c.put_tags.new.output)
    (lines_of c.put_tags.result) c.in-Ok.ensures.whole
    (rw (← c.as_slice.ensures.value) (c.put_tags.ensures.stands table read))

pub returns-in-Err-TooLarge-clause-stands : goal.returns-in-Err-TooLarge-clause-stands
returns-in-Err-TooLarge-clause-stands g c = λ table read.
    large_tags (how_read c.args.reading.hours) (paths_of c.args.reading.paths) c.args.reading.paths.tags.now table
    c.args.means.now.rows.items (g.I.Input.to_come c.args.tags.now) (g.O.Output.taken c.args.output.now) c.tags_refusal.result
    refl read (search rules) c.tags_refusal.ensures

pub returns-in-Ok-clause-warned : goal.returns-in-Ok-clause-warned
returns-in-Ok-clause-warned g c = λ table read.
    warned_told (how_read c.args.reading.hours) (paths_of c.args.reading.paths) table c.in-Ok.bytes.items
    (g.I.Input.to_come c.args.tags.now) c.put_tags.result c.in-Ok.ensures.whole
    (rw (← c.as_slice.ensures.value) (c.put_tags.ensures.warned table read))
