-- The place is put among those of the row's kind, and the others stay.
use Rattle.std.proofs.Common.{◌∙◌, sym}
use Rattle.gtd_conditional_means.specs.declared.meaning.MeansKind.TheVariants as kind
use Rattle.gtd_conditional_means.proofs.PlaceFacts.{others_conditions, others_ignored, others_modes, others_values, put_of_kind}
use Rattle.gtd_conditional_means.proofs.places.Places.put.Goals as goal

pub returns-in-Mode : goal.returns-in-Mode
returns-in-Mode c =
    put_of_kind c.put_first.result c.args.row.now c.args.place c.args.self.now _ kind.Mode (sym c.kind.ensures.kind ∙ c.in-Mode.is)
    (others_modes c.args.self.now c.put_first.new.places) (rw c.as_slice-name.ensures.value at c.put_first.ensures)

pub returns-in-Condition : goal.returns-in-Condition
returns-in-Condition c =
    put_of_kind c.put_first-in-Condition.result c.args.row.now c.args.place c.args.self.now _ kind.Condition (sym c.kind.ensures.kind ∙ c.in-Condition.is)
    (others_conditions c.args.self.now c.put_first-in-Condition.new.places) (rw c.as_slice-name.ensures.value at c.put_first-in-Condition.ensures)

pub returns-in-Value : goal.returns-in-Value
returns-in-Value c =
    put_of_kind c.put_first-in-Value.result c.args.row.now c.args.place c.args.self.now _ kind.Value (sym c.kind.ensures.kind ∙ c.in-Value.is)
    (others_values c.args.self.now c.put_first-in-Value.new.places) (rw c.as_slice-name.ensures.value at c.put_first-in-Value.ensures)

pub returns-in-Ignore : goal.returns-in-Ignore
returns-in-Ignore c =
    put_of_kind c.put_first-in-Ignore.result c.args.row.now c.args.place c.args.self.now _ kind.Ignore (sym c.kind.ensures.kind ∙ c.in-Ignore.is)
    (others_ignored c.args.self.now c.put_first-in-Ignore.new.places) (rw c.as_slice-name.ensures.value at c.put_first-in-Ignore.ensures)
