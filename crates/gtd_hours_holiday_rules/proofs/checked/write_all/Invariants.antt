-- With the parts that are left, the bytes become the checked text.
use Rattle.std.proofs.Common.{◌≡◌, length}
use Rattle.gtd_hours_holiday_rules.specs.Checked.{checked_from}
use Rattle.gtd_hours_holiday_rules.proofs.checked.write_all.Given as goal

abbrev pub invariant-loop-part : goal.invariant-loop-part
invariant-loop-part l = checked_from l.text l.bytes l.rest ≡ checked_from l.text l.initial.bytes l.parts

abbrev pub decreases-loop-part : goal.decreases-loop-part
decreases-loop-part l = length l.rest
