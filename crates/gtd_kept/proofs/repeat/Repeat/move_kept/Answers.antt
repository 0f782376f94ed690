-- In the order in which they are handed out the spans are moved, too.
use Rattle.std.proofs.Common.{rules, ◌∙◌, ap, map, to_z-of_z}
use Rattle.std.proofs.lemmas.List.{with_items_is}
use Rattle.gtd_kept.specs.Repeating.{moved}
use Rattle.gtd_kept.proofs.RoundLemmas.{moved-turned}
use Rattle.gtd_kept.proofs.repeat.Repeat.move_kept.Goals as goal

pub returns-clause-kept : goal.returns-clause-kept
returns-clause-kept c =
    let self = c.args.self.now in
    let spans = with_items_is self.kept c.move_all.new.spans (search rules) in
    let all = rw (to_z-of_z c.ranges.by) at c.move_all.ensures.moved in
    moved-turned c.args.by self.place self.kept.items _ (spans ∙ all ∙ ap (map (moved c.args.by)) c.as_mut_slice.ensures.value)
