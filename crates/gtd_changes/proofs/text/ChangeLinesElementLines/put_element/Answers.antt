-- An element whose rows are the same in both files has no lines in either direction, so none is put.
use Rattle.std.proofs.Common.{refl, []}
use Rattle.gtd_report.specs.facts.PutFacts.{puts_none}
use Rattle.gtd_rows.specs.declared.direction.Direction.TheVariants.{Positive, Negative}
use Rattle.gtd_changes.proofs.FormFacts.{no_lines}
use Rattle.gtd_changes.proofs.text.ChangeLinesElementLines.put_element.Goals as goal

pub returns-then-not-may_differ-clause-puts : goal.returns-then-not-may_differ-clause-puts
returns-then-not-may_differ-clause-puts g c =
    let pair = c.args.self.now.pair.now in
    let asked = c.args.self.now.asked in
    let same = c.may_differ.ensures.alike c.if-not-may_differ.true in (
      [],
      record {
        positive = [];
        negative = [];
        are_positive = no_lines pair.old.now pair.new.now asked.vehicle asked.horizon c.args.element Positive same asked.form;
        are_negative = no_lines pair.old.now pair.new.now asked.vehicle asked.horizon c.args.element Negative same asked.form;
        both = refl;
      },
      puts_none (g.O.Output.taken c.args.output.now) c.args.printer.now.progress,
    )
