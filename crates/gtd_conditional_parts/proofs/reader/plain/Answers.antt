-- The value has the one part.
use Rattle.std.proofs.Common.{◌∙◌, ap, refl, List, [], ◌∷◌, ◌++◌}
use Rattle.gtd_conditional_parts.specs.declared.value.Part.{Part}
use Rattle.gtd_conditional_parts.proofs.reader.plain.Goals as goal

pub returns : goal.returns
returns c =
    let part : Part = record { said = c.args.said; terms = c.new.result } in (
      part,
      refl,
      c.new.ensures.items,
      c.in_ok-push.ensures.items ∙ ap (λ (xs : List Part). xs ++ part ∷ []) c.new-parts.ensures.items,
    )
