-- The hours stand in parentheses or not.
use Rattle.gtd_hours_options.specs.Readings.{how_read}
use Rattle.gtd_conditional_values.proofs.TermFacts.{in_none, in_parentheses}
use Rattle.gtd_conditional_values.proofs.term.read_hours_of.Goals as goal

pub returns-in-Some : goal.returns-in-Some
returns-in-Some c =
    in_parentheses (how_read c.args.reading) c.args.place c.args.term.now c.in-Some.inside.now c.read_hours_at.result
    c.in-Some.ensures.inside c.read_hours_at.ensures

pub returns-in-None : goal.returns-in-None
returns-in-None c =
    in_none (how_read c.args.reading) c.args.place c.args.term.now c.read_hours_at-in-None.result c.in-None.ensures.inside
    c.read_hours_at-in-None.ensures
