-- What a handle stands for may go to another thread, and what it owns says the same to every thread.
use mir.Raw.{raw}
use base.Shift.{Keyless}
use denote.RattleType.{RattleType}
use denote.Memory.{lone}
use denote.RawPtr.{Ptr}
use denote.Enum.Declared.{shape}
use denote.Enum.Enum.{Enum}
use denote.Param.Send.{IsSend, enum_send, recorded_send, sendable}
use Rattle.std.specs.Prelude.{Option, None, Some}
use Rattle.std.specs.declared.alloc.Global.{Global}
use Rattle.std.proofs.Crossing.{crosses, frees}
use Rattle.std_alloc.proofs.SendSync.{lies}
use Rattle.gtd_core.proofs.domain.Basic.TheSendSync as basic
use Rattle.gtd_core.proofs.domain.Op.TheSendSync as op
use Rattle.gtd_core.proofs.duration.Duration.TheSendSync as duration
use Rattle.gtd_core.proofs.duration.DurationParts.TheSendSync as duration_parts
use Rattle.gtd_core.proofs.horizon.Horizon.TheSendSync as horizon
use Rattle.gtd_core.proofs.second.Sec.TheSendSync as sec
use Rattle.gtd_core.proofs.start.Start.TheSendSync as start
use Rattle.gtd_core.proofs.start.StartParts.TheSendSync as start_parts
use Rattle.gtd_recur.proofs.asks.Asks.TheSendSync as asks
use Rattle.gtd_recur.proofs.clocks.Clocks.TheSendSync as clocks
use Rattle.gtd_recur.proofs.runs.Runs.TheSendSync as runs
use Rattle.gtd_recur.proofs.walk.Walk.TheSendSync as walk
use Rattle.gtd_spans.proofs.merge.Merge.TheSendSync as merge
use Rattle.gtd_spans.proofs.merge.Side.TheSendSync as side
use Rattle.gtd_spans.proofs.sweep.Sides.TheSendSync as sides
use Rattle.gtd_spans.proofs.sweep.Sweep.TheSendSync as sweep
use Rattle.gtd_kept.proofs.repeat.Repeat.TheSendSync as repeat
use Rattle.gtd_kept.proofs.repeat.Stage.TheSendSync as stage
use Rattle.gtd_rows.proofs.direction.Closed.TheSendSync as closed
use Rattle.gtd_rows.proofs.direction.Direction.TheSendSync as direction
use Rattle.gtd_places.proofs.place.RowDirections.TheSendSync as row_directions
use Rattle.gtd_places.proofs.place.RowPlace.TheSendSync as place
use Rattle.gtd_places.proofs.place.RowVehicles.TheSendSync as row_vehicles
use Rattle.gtd_rows.proofs.vehicles.Vehicles.TheSendSync as vehicles
use Rattle.core.proofs.option.Option.TheSendSync as option
use Rattle.std.proofs.alloc.Global.TheSendSync as heap
use Rattle.gtd_core.proofs.second.Span.TheSendSync as span
use Rattle.gtd_rows.proofs.vehicles.Codes.TheSendSync as codes
use Rattle.gtd_core.proofs.domain.Expr.TheLaws.TheKnot as expr
use Rattle.gtd_eval.proofs.node.Node.TheLaws.TheKnot as node
use Rattle.gtd_core.specs.contracts.domain.Domain.{the_field as domain_field}
use Rattle.gtd_eval.specs.contracts.tree.SweepTree.{the_field as tree_field}
use Rattle.gtd_eval.specs.contracts.kept.Part.{the_row as part_row}
use Rattle.gtd_eval.specs.contracts.kept.PartLeaf.TheImpl.{ghosts as part_ghosts}
use Rattle.gtd_handles.specs.contracts.handle.Thing.{the_row as thing_row, the_type as thing_type}
use Rattle.gtd_handles.specs.contracts.shared_records.SharedRecords.{the_field as shared_field}
use Rattle.gtd_handles.specs.Owned.{owned}

-- what the parts of domains and records own, and what a `&` to them holds
ruleset parts = (
  sendable,
  crosses,
  basic.the_send,
  basic.the_field_send,
  basic.the_sync,
  basic.the_field_sync,
  op.the_send,
  op.the_field_send,
  op.the_sync,
  op.the_field_sync,
  duration.the_send,
  duration.the_field_send,
  duration.the_sync,
  duration.the_field_sync,
  duration_parts.the_send,
  duration_parts.the_field_send,
  duration_parts.the_sync,
  duration_parts.the_field_sync,
  start.the_send,
  start.the_field_send,
  start.the_sync,
  start.the_field_sync,
  start_parts.the_send,
  start_parts.the_field_send,
  start_parts.the_sync,
  start_parts.the_field_sync,
  closed.the_send,
  closed.the_field_send,
  closed.the_sync,
  closed.the_field_sync,
  direction.the_send,
  direction.the_field_send,
  direction.the_sync,
  direction.the_field_sync,
  place.the_send,
  place.the_field_send,
  place.the_sync,
  place.the_field_sync,
  row_directions.the_send,
  row_directions.the_field_send,
  row_directions.the_sync,
  row_directions.the_field_sync,
  row_vehicles.the_send,
  row_vehicles.the_field_send,
  row_vehicles.the_sync,
  row_vehicles.the_field_sync,
  sec.the_send,
  sec.the_field_send,
  sec.the_sync,
  sec.the_field_sync,
  span.the_send,
  span.the_sync,
  vehicles.the_send,
  vehicles.the_field_send,
  vehicles.the_sync,
  vehicles.the_field_sync,
  option.the_send,
  option.the_field_send,
  option.the_sync,
  option.the_field_sync,
  heap.the_send,
  heap.the_field_send,
  heap.the_sync,
  heap.the_field_sync,
  codes.the_send,
  codes.the_sync,
  expr.send-Expr,
  expr.sync-Expr,
  expr.both_send-Expr,
  expr.both_sync-Expr,
  expr.crosses,
  expr.crosses_both,
)

-- a domain
domain_send : IsSend domain_field.row
domain_send = search parts depth 40

-- records
shared_send : IsSend shared_field.row
shared_send = search parts depth 40 fits 20000

-- what the parts of spans own
ruleset tree_parts = (
  sendable,
  crosses,
  basic.the_send,
  basic.the_field_send,
  op.the_send,
  op.the_field_send,
  duration.the_send,
  duration.the_field_send,
  duration_parts.the_send,
  duration_parts.the_field_send,
  horizon.the_send,
  horizon.the_field_send,
  sec.the_send,
  sec.the_field_send,
  start.the_send,
  start.the_field_send,
  start_parts.the_send,
  start_parts.the_field_send,
  asks.the_send,
  asks.the_field_send,
  clocks.the_send,
  clocks.the_field_send,
  runs.the_send,
  runs.the_field_send,
  walk.the_send,
  walk.the_field_send,
  merge.the_send,
  merge.the_field_send,
  side.the_send,
  side.the_field_send,
  sides.the_send,
  sides.the_field_send,
  sweep.the_send,
  sweep.the_field_send,
  repeat.the_send,
  repeat.the_field_send,
  stage.the_send,
  stage.the_field_send,
  option.the_send,
  option.the_field_send,
  heap.the_send,
  heap.the_field_send,
  span.the_send,
  node.send-Node,
)

-- spans
cursor_send : IsSend (tree_field part_row part_ghosts).row
cursor_send = search tree_parts depth 40 fits 20000

-- any of these, or a text
pub thing_send : IsSend thing_row
thing_send =
    recorded_send (Enum (shape thing_type)) _ _ thing_type.to_one
    (enum_send (shape thing_type) (
      (domain_send, tt),
      ((shared_send, tt), ((cursor_send, tt), ((search (sendable, crosses) depth 20, tt), tt))),
    ))

-- nothing, or a value in a block
pub owned_keyless : (R : RattleType) → IsSend R → (a : Global) (p : Ptr) (value : Option R.Denot) → Keyless (owned R a p value)
owned_keyless R s a p None = tt
owned_keyless R s a p (Some x) = (lies R s p x, frees.frees a (raw (lone R.mir)) p)
