-- A loose handle may go to another thread: what it stands for may, and any thread may free its block.
use denote.Param.Send.{IsSend, owning_send, sendable}
use Rattle.std.proofs.alloc.Global.TheSendSync as heap
use Rattle.gtd_handles.specs.contracts.handle.Thing.{the_row as thing_row}
use Rattle.gtd_handles.specs.contracts.loose.Loose.{the_row, the_type}
use Rattle.gtd_handles.proofs.Sent.{owned_keyless, thing_send}

pub send : IsSend the_row
send =
    owning_send the_type (search sendable, (heap.the_field_send, tt))
    (λ d. owned_keyless thing_row thing_send d.alloc d.at d.value) (λ k x w. tt)
