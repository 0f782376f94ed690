-- A key of a mode makes a tag; another one is passed over, or is at fault.
use Rattle.std.proofs.Common.{◌≡◌, ◌∙◌, ap, Bool, true, false}
use Rattle.std.specs.Prelude.{Option, Some, None}
use Rattle.gtd_conditional_tags.specs.Keys.{is_at_fault, key_of}
use Rattle.gtd_conditional_tags.specs.Rows.{with_key}
use Rattle.gtd_conditional_tags.specs.declared.key.Key.{Key}
use Rattle.gtd_conditional_tags.proofs.RowFacts.{fault_is, key_is}
use Rattle.gtd_conditional_tags.proofs.row.read_tag.Goals as goal

pub returns-in-Some : goal.returns-in-Some
returns-in-Some c =
    let rows = c.args.means.now.rows.items in
    let text = c.args.columns.key.now in
    let parts = c.parts_of-parts.result in
    let are = c.parts_of-parts.ensures in
    let is : key_of rows text ≡ Some c.in-Some.key =
    key_is rows text parts.name.now parts.direction parts.conditional are.name are.direction are.conditional
    (Some c.in-Some.key) c.in-Some.ensures in
    ap (λ (k : Option Key). with_key k (is_at_fault rows text) c.args.number c.args.element c.args.columns.value.now) is

pub returns-then-is_at_fault : goal.returns-then-is_at_fault
returns-then-is_at_fault c =
    let rows = c.args.means.now.rows.items in
    let text = c.args.columns.key.now in
    let parts = c.parts_of-parts.result in
    let are = c.parts_of-parts.ensures in
    let is : key_of rows text ≡ None =
    key_is rows text parts.name.now parts.direction parts.conditional are.name are.direction are.conditional
    None c.in-None.ensures in
    let bad : is_at_fault rows text ≡ true =
    fault_is rows text parts.name.now parts.direction parts.conditional are.name are.direction are.conditional
    true c.if-is_at_fault.ensures in
    ap (λ (k : Option Key). with_key k (is_at_fault rows text) c.args.number c.args.element c.args.columns.value.now) is
    ∙ ap (λ (b : Bool). with_key None b c.args.number c.args.element c.args.columns.value.now) bad

pub returns-else-is_at_fault : goal.returns-else-is_at_fault
returns-else-is_at_fault c =
    let rows = c.args.means.now.rows.items in
    let text = c.args.columns.key.now in
    let parts = c.parts_of-parts.result in
    let are = c.parts_of-parts.ensures in
    let is : key_of rows text ≡ None =
    key_is rows text parts.name.now parts.direction parts.conditional are.name are.direction are.conditional
    None c.in-None.ensures in
    let bad : is_at_fault rows text ≡ false =
    fault_is rows text parts.name.now parts.direction parts.conditional are.name are.direction are.conditional
    false c.if-is_at_fault.ensures in
    ap (λ (k : Option Key). with_key k (is_at_fault rows text) c.args.number c.args.element c.args.columns.value.now) is
    ∙ ap (λ (b : Bool). with_key None b c.args.number c.args.element c.args.columns.value.now) bad
