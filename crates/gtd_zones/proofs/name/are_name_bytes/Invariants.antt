use Rattle.std.proofs.Common.{◌≡◌, true, take}
use Rattle.std.specs.List.{list_all}
use Rattle.gtd_zones.specs.Zones.{is_name_byte}
use Rattle.gtd_zones.proofs.name.are_name_bytes.Given as goal

-- the bytes so far may stand in a name
abbrev pub invariant-loop-byte : goal.invariant-loop-byte
invariant-loop-byte l = record { fit : list_all is_name_byte (take l.byte-index l.bytes) ≡ true }
