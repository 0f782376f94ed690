-- The row is one of a mode that speaks of the subject, or adds nothing.
use Rattle.std.proofs.Common.{subst, sym, Option, OnOk}
use Rattle.gtd_rows.specs.declared.vehicles.Vehicles.{Vehicles}
use Rattle.gtd_conditional_steps.specs.Sayings.{said_by_types}
use Rattle.gtd_conditional_steps.specs.Steps.{Adds}
use Rattle.gtd_conditional_steps.proofs.StepLemmas.{none}
use Rattle.gtd_conditional_steps.proofs.steps.push_row.Goals as goal

pub returns-in-Some : goal.returns-in-Some
returns-in-Some c =
    let rows = c.args.asked.means.now.rows.items in
    let way = c.args.asked.direction in
    subst
    (λ (o : Option Vehicles). OnOk c.push_mode.result
    (Adds rows way (said_by_types o c.args.mode way c.args.tags.now) c.args.steps.now.items c.push_mode.new.steps.items))
    (sym c.in-Some.ensures) c.push_mode.ensures

pub returns-in-None : goal.returns-in-None
returns-in-None c =
    let rows = c.args.asked.means.now.rows.items in
    let way = c.args.asked.direction in
    subst
    (λ (o : Option Vehicles). Adds rows way (said_by_types o c.args.mode way c.args.tags.now) c.args.steps.now.items
    c.args.steps.now.items) (sym c.in-None.ensures) (none rows way c.args.steps.now.items)
