-- The units so far are those of the bytes passed, two and two; a byte that is left over makes it no list of units.
use Rattle.std.proofs.Common.{arith}
use Rattle.gtd_mend.proofs.DecodeFacts.{unit_left, unit_more, units_end}
use Rattle.gtd_mend.proofs.decode.units_of.Goals as goal

pub returns-then-bytes-at-lt2 : goal.returns-then-bytes-at-lt2
returns-then-bytes-at-lt2 c = record {
  value = unit_left c.args.first c.loop-at.units.items c.args.bytes.now c.loop-at.at (omega arith) c.loop-at.invariant.1;
}

pub loop-at-preserved : goal.loop-at-preserved
loop-at-preserved c = (
  omega arith,
  rw (c.in_ok-push.ensures.items, c.unit_of.ensures.value) (unit_more c.args.first c.loop-at.units.items c.args.bytes.now
      c.loop-at.at (omega arith) c.loop-at.invariant.1),
)

pub returns : goal.returns
returns c = record { value = units_end _ _ _ c.loop-at.at (omega arith) c.loop-at.invariant.1 }
