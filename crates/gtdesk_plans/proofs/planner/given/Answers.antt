-- The name of the command that the matches hold gives its form, and its rows are the words found for it.
use Rattle.std.proofs.Common.{◌∙◌, sym, ap}
use Rattle.clap.specs.Matches.{found_of}
use Rattle.clap.specs.Walk.{rows_of}
use Rattle.gtdesk_plans.specs.Given.{given_in, with_rows}
use Rattle.gtdesk_plans.proofs.ClapWords.{entered}
use Rattle.gtdesk_plans.proofs.planner.given.Goals as goal

pub returns-in-Ok : goal.returns-in-Ok
returns-in-Ok c =
    let rows = rows_of (found_of c.in-Some.given.now) in
    ap given_in (entered c.args.matches.now c.in-Some.name.now rows c.in-Some.ensures.name c.in-Some.ensures.rows)
    ∙ ap (with_rows rows) (sym c.in-Ok.ensures)

pub returns-in-Err : goal.returns-in-Err
returns-in-Err c =
    let rows = rows_of (found_of c.in-Some.given.now) in
    ap given_in (entered c.args.matches.now c.in-Some.name.now rows c.in-Some.ensures.name c.in-Some.ensures.rows)
    ∙ ap (with_rows rows) (sym c.in-Err.ensures)
