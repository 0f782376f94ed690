-- One tag more adds what it says, or its fault.
use Rattle.std.proofs.Common.{◌≡◌, ◌∙◌, ap, sym, ◌+◌, [], ◌∷◌, ◌++◌, take}
use Rattle.std.proofs.lemmas.List.{take_more}
use Rattle.gtd_conditional_tags.specs.declared.row.Tag.{Tag}
use Rattle.gtd_hours_options.specs.Readings.{how_read}
use Rattle.gtd_conditional_elements.proofs.ValueFacts.{values_more}
use Rattle.gtd_conditional_elements.proofs.values.read_values.Goals as goal

pub loop-tag-preserved : goal.loop-tag-preserved
loop-tag-preserved c =
    let at = c.loop-tag.tag-index in
    let tags = c.args.tags.now in
    let tag = c.tag-item.result in
    let added = c.in_ok-add_tag.ensures in
    let next : take (at + 1) tags ≡ take at tags ++ tag ∷ [] =
    take_more tags at tag c.loop-tag-test.true ∙ ap (λ (x : Tag). take at tags ++ x ∷ []) (sym c.tag-item.is) in
    rw (next, added.2, added.3)
    (values_more (how_read c.args.reading) c.args.means.now.rows.items (take at tags) tag c.loop-tag.found.sound.items
    c.loop-tag.found.faults.items
    added.0 added.1 c.loop-tag.invariant)
