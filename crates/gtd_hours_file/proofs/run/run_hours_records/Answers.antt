-- Bytes beyond the limit of a file are refused with one fault, and nothing has been put.
use Rattle.std.proofs.Common.{rules}
use Rattle.gtd_hours_options.specs.Readings.{how_read}
use Rattle.gtd_hours_file.proofs.RunFacts.{large_refused}
use Rattle.gtd_hours_file.proofs.run.run_hours_records.Goals as goal

pub returns-in-Err-TooLarge-clause-stands : goal.returns-in-Err-TooLarge-clause-stands
returns-in-Err-TooLarge-clause-stands g c =
    large_refused (how_read c.args.reading) c.args.path.now (g.I.Input.to_come c.args.input.now)
    (g.O.Output.taken c.args.output.now)
    c.refusal.result
    (search rules) c.refusal.ensures.list
