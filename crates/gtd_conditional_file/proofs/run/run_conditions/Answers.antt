-- A table beyond the limit is refused with one fault, and nothing has been put.
use Rattle.std.proofs.Common.{rules}
use Rattle.gtd_hours_options.specs.Readings.{how_read}
use Rattle.gtd_conditional_file.specs.Run.{paths_of}
use Rattle.gtd_conditional_file.proofs.RunFacts.{large_means}
use Rattle.gtd_conditional_file.proofs.run.run_conditions.Goals as goal

pub returns-in-Err-TooLarge-clause-stands : goal.returns-in-Err-TooLarge-clause-stands
returns-in-Err-TooLarge-clause-stands g c =
    large_means (how_read c.args.reading.hours) (paths_of c.args.reading.paths) (g.J.Input.to_come c.args.means.now)
    (g.I.Input.to_come c.args.tags.now) (g.O.Output.taken c.args.output.now) c.means_refusal.result (search rules)
    c.means_refusal.ensures
