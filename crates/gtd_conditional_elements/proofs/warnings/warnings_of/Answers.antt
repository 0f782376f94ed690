-- One tag more adds its lines.
use Rattle.std.proofs.Common.{◌≡◌, ◌∙◌, ap, sym, [], ◌∷◌, ◌++◌, ◌+◌, take}
use Rattle.std.proofs.lemmas.List.{take_more}
use Rattle.gtd_conditional_tags.specs.declared.groups.ElementItem.{ElementItem}
use Rattle.gtd_conditional_elements.specs.declared.tag.ReadTag.{ReadTag}
use Rattle.gtd_conditional_elements.proofs.WarningFacts.{warnings_more}
use Rattle.gtd_conditional_elements.proofs.warnings.warnings_of.Goals as goal

pub loop-tag-preserved : goal.loop-tag-preserved
loop-tag-preserved c =
    let at = c.loop-tag.tag-index in
    let path = c.args.path.now in
    let bytes = c.args.bytes.now in
    let tags = c.args.tags.now in
    let tag = c.tag-item.result in
    let so_far = c.loop-tag.invariant in
    let next : take (at + 1) tags ≡ take at tags ++ tag ∷ [] =
    take_more tags at tag c.loop-tag-test.true ∙ ap (λ (x : ElementItem ReadTag). take at tags ++ x ∷ []) (sym c.tag-item.is) in
    let line = c.in_ok-line.ensures.line bytes so_far.1 so_far.2 in
    let stands = c.in_ok-line.ensures.at bytes so_far.1 so_far.2 in (
      rw (next, c.in_ok-extend_from_slice.ensures.items, c.as_slice.ensures.value, c.in_ok-lines.ensures)
          (warnings_more path bytes (take at tags) tag c.loop-tag.text.items c.in_ok-line.line line so_far.0),
      stands.0,
      stands.2,
    )
