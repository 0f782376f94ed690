-- The name says something, and the terms are read; or one of them is at fault.
use Rattle.std.proofs.Common.{◌∙◌, ap, subst, sym, ◌+◌, ℕ, List}
use Rattle.gtd_hours_options.specs.Readings.{how_read}
use Rattle.gtd_conditional_parts.specs.Conditions.{AreConditions, IsConditionsStop}
use Rattle.gtd_conditional_parts.specs.Names.{said_of}
use Rattle.gtd_conditional_parts.specs.Parts.{IsPartStop, name}
use Rattle.gtd_conditional_parts.specs.declared.value.UnreadValue.{UnreadValue}
use Rattle.gtd_conditional_parts.specs.declared.value.ValueFault.TheVariants as fault
use Rattle.gtd_conditional_parts.proofs.ValueSteps.{part_stop}
use Rattle.gtd_conditional_parts.proofs.part.read_part.Goals as goal

pub returns-in-None-clause-fault : goal.returns-in-None-clause-fault
returns-in-None-clause-fault c =
    name c.at_of-at.result c.at_of-at.ensures.place
    (sym (c.in-None.ensures.said ∙ ap (said_of c.args.by.subject c.args.by.means.now.rows.items) c.trimmed.ensures.text))
    (ap (λ (k : ℕ). fault.Value (c.args.place + k)) c.front_spaces.ensures.count)

pub returns-in-Ok-clause-part : goal.returns-in-Ok-clause-part
returns-in-Ok-clause-part c = record {
  at = c.at_of-at.result;
  has = c.at_of-at.ensures.place;
  said =
      sym (c.in-Some.ensures.said ∙ ap (said_of c.args.by.subject c.args.by.means.now.rows.items) c.trimmed.ensures.text);
  terms =
      subst
      (λ (text : List ℕ). AreConditions (how_read c.args.by.hours) c.args.by.means.now.rows.items
      (c.args.place + (c.at_of-at.result + 1)) text
      c.in-Ok.terms.items) c.text_from.ensures.text c.in-Ok.ensures.terms;
}

pub returns-in-Err-clause-fault : goal.returns-in-Err-clause-fault
returns-in-Err-clause-fault c =
    let rows = c.args.by.means.now.rows.items in
    let stops =
    subst
    (λ (text : List ℕ). IsConditionsStop (how_read c.args.by.hours) rows (c.args.place + (c.at_of-at.result + 1)) text
    c.in-Err.why)
    c.text_from.ensures.text c.in-Err.ensures.fault in
    subst (λ (why : UnreadValue). IsPartStop c.args.by.subject (how_read c.args.by.hours) rows c.args.place c.args.part.now why)
    (sym c.unread.ensures)
    (part_stop c.args.by.subject (how_read c.args.by.hours) rows c.args.place c.args.part.now c.at_of-at.result
    c.at_of-at.ensures.place c.in-Some.said
    (sym (c.in-Some.ensures.said ∙ ap (said_of c.args.by.subject rows) c.trimmed.ensures.text)) c.in-Err.why stops)
