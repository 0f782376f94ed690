-- The row has three fields, the first of which names the kind.
use Rattle.std.proofs.Common.{◌∙◌, sym, subst}
use Rattle.std.specs.Prelude.{IfOk, Option}
use Rattle.gtd_rows.specs.Columns.{Fields}
use Rattle.gtd_conditional_means.specs.Rows.{IsKindRow, IsRow}
use Rattle.gtd_conditional_means.specs.declared.meaning.MeansKind.{MeansKind}
use Rattle.gtd_conditional_means.proofs.fields.read_row.Goals as goal

pub returns : goal.returns
returns c = λ before are.
    let name = c.in-Some.columns.name.now in
    let means = c.in-Some.columns.means.now in
    subst (λ (fields : Fields). IfOk c.read_kind_row.result (IsRow c.args.number before fields)) (sym c.in-Some.ensures.three)
    (subst (λ (kind : Option MeansKind). IfOk c.read_kind_row.result (IsKindRow c.args.number before kind name means))
    (sym (sym c.kind_of.ensures ∙ c.in-Some-kind_of.is)) (c.read_kind_row.ensures before are))
