-- A sound tag adds no fault, and one at fault no tag.
use Rattle.std.proofs.Common.{sym, append-nil}
use Rattle.std.specs.Prelude.{Ok, Err}
use Rattle.gtd_conditional_elements.proofs.values.add_tag.Goals as goal

pub returns-in_ok-push-in-Ok : goal.returns-in_ok-push-in-Ok
returns-in_ok-push-in-Ok c = (
  Ok c.in-Ok.read,
  c.in-Ok.ensures,
  c.in_ok-push-in-Ok.ensures.items,
  sym (append-nil c.args.found.now.faults.items),
)

pub returns-in_ok-push-in-Err-Fault : goal.returns-in_ok-push-in-Err-Fault
returns-in_ok-push-in-Err-Fault c = (
  Err c.in-Err-Fault.why,
  rw c.in-Err-Fault.field-0-is at c.in-Err-Fault.ensures,
  sym (append-nil c.args.found.now.sound.items),
  c.in_ok-push-in-Err-Fault.ensures.items,
)
