-- A name stands for something before exactly if its place is kept.
use Rattle.std.proofs.Common.{◌∙◌, ap, sym}
use Rattle.std.specs.Prelude.{is_some}
use Rattle.gtd_conditional_means.proofs.PlaceFacts.{repeated}
use Rattle.gtd_conditional_means.proofs.fields.is_repeated.Goals as goal

pub returns-else-is_known : goal.returns-else-is_known
returns-else-is_known c = λ before are.
    rw (sym c.is_known.ensures ∙ c.if-is_known.false) (c.is_some.ensures ∙ ap is_some (c.of.ensures ∙ are c.args.kind c.args.name.now)
    ∙ repeated c.args.kind c.args.name.now before)
