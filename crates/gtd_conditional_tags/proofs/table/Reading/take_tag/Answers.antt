-- A tag whose key was not seen for its element is added; another one is at fault.
use Rattle.std.proofs.Common.{◌≡◌, ◌∙◌, ◌++◌, ◌∷◌, [], ap, map, refl, subst, sym, true, false}
use Rattle.std.specs.BTreeSet.{contains}
use Rattle.std.specs.List.{list_any}
use Rattle.std.proofs.lemmas.Bool.{OnFalse_at}
use Rattle.std.proofs.lemmas.List.{map-append}
use Rattle.gtd_conditional_tags.specs.Rows.{Said, is_tag_of, said_by, said_in}
use Rattle.gtd_conditional_tags.specs.TakenRows.{AreSeen, seen_cmp}
use Rattle.gtd_conditional_tags.proofs.SeenFacts.{same_seen, seen_before, seen_more, was_new, was_there}
use Rattle.gtd_conditional_tags.proofs.TakenFacts.{new_tag, repeated_tag, tags_in}
use Rattle.gtd_conditional_tags.proofs.table.Reading.take_tag.Goals as goal

pub returns-then-not-branch : goal.returns-then-not-branch
returns-then-not-branch c = λ seen.
    let old = c.args.self.now in
    let tag = said_in c.args.tag in
    let there : contains seen_cmp old.seen (tag.element, tag.key.mode, c.form.result) ≡ true =
    was_there (contains seen_cmp old.seen (tag.element, tag.key.mode, c.form.result)) c.in_ok-insert.field-0
    c.in_ok-insert.ensures.added c.if-not-branch.true in
    let any : list_any (is_tag_of tag.element tag.key) (tags_in old) ≡ true =
    sym (seen_before old.seen (tags_in old) seen tag c.form.result c.form.ensures.form) ∙ there in
    repeated_tag old _
    (same_seen old.seen c.insert.new.self (tags_in old) (OnFalse_at c.if-not-branch.true c.in_ok-insert.ensures.unchanged) seen)
    refl tag any refl c.in_ok-push.ensures.items

pub returns : goal.returns
returns c = λ seen.
    let old = c.args.self.now in
    let tag = said_in c.args.tag in
    let none : contains seen_cmp old.seen (tag.element, tag.key.mode, c.form.result) ≡ false =
    was_new (contains seen_cmp old.seen (tag.element, tag.key.mode, c.form.result)) c.in_ok-insert.field-0
    c.in_ok-insert.ensures.added c.if-not-branch.false in
    let any : list_any (is_tag_of tag.element tag.key) (tags_in old) ≡ false =
    sym (seen_before old.seen (tags_in old) seen tag c.form.result c.form.ensures.form) ∙ none in
    let more : map said_by c.push-2.new.self.items ≡ tags_in old ++ tag ∷ [] =
    ap (map said_by) c.in_ok-push-2.ensures.items ∙ map-append said_by old.found.tags.items (c.in_ok-read.read ∷ [])
    ∙ ap (λ (s : Said). tags_in old ++ s ∷ []) c.in_ok-read.ensures in
    new_tag old _
    (subst (AreSeen c.insert.new.self) (sym more)
    (seen_more old.seen (tags_in old) seen tag c.form.result c.form.ensures.form c.insert.new.self
    c.in_ok-insert.ensures.updates))
    refl tag any more refl
