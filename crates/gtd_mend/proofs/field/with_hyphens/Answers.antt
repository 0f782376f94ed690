-- Three bytes that are a dash become one hyphen, and every other byte is kept, from front to back.
use Rattle.std.proofs.Common.{◌∙◌, arith, sym}
use Rattle.gtd_mend.proofs.FieldFacts.{dash, hyphens_end, other}
use Rattle.gtd_mend.proofs.field.with_hyphens.Goals as goal
use Rattle.gtd_mend.proofs.field.with_hyphens.Goals.{else-field-at-gt2-via-then-field-at-gt2+else-is_dash}
use Rattle.gtd_mend.proofs.field.with_hyphens.Goals.{else-field-at-gt2-via-else-field-at-gt2}

pub loop-at-preserved-then-is_dash : goal.loop-at-preserved-then-is_dash
loop-at-preserved-then-is_dash c = (
  omega arith,
  rw c.in_ok-push.ensures.items (dash c.loop-at.text.items c.args.field.now c.loop-at.at (omega arith)
      (sym c.is_dash.ensures.value ∙ c.if-is_dash.true) c.loop-at.invariant.1),
)

pub loop-at-preserved : goal.loop-at-preserved
loop-at-preserved c = (
  omega arith,
  rw c.in_ok-push-2.ensures.items (other c.loop-at.text.items c.args.field.now c.loop-at.at (omega arith) (λ more.
      elim c.else-field-at-gt2.branch [
        | else-field-at-gt2-via-then-field-at-gt2+else-is_dash w ↦ sym w.is_dash.ensures.value ∙ w.if-is_dash.false
        | else-field-at-gt2-via-else-field-at-gt2 w ↦ absurd (omega (arith, more))
      ]) c.loop-at.invariant.1),
)

pub returns : goal.returns
returns c = record { value = hyphens_end _ _ c.loop-at.at (omega arith) c.loop-at.invariant.1 }
