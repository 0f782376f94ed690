-- A dash comes first, and then the number.
use Rattle.std.proofs.Common.{◌∙◌, sym}
use Rattle.gtd_hours_tokens2.proofs.CursorLemmas.{second_dash}
use Rattle.gtd_hours_tokens2.proofs.cursor.second_number.Goals as goal

pub returns-then-is_dash_kind : goal.returns-then-is_dash_kind
returns-then-is_dash_kind c =
    second_dash c.args.names c.args.text.now c.args.from c.in-Some.to c.in-Some.dash c.first_four.result c.in-Some.ensures.first
    (sym c.is_dash_kind.ensures ∙ c.if-is_dash_kind.true) c.first_four.ensures
