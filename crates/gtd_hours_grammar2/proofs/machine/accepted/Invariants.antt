-- The classes so far are those that lead on among the classes passed.
use Rattle.std.proofs.Common.{◌≡◌, take}
use Rattle.std.specs.List.{filter}
use Rattle.gtd_hours_grammar2.specs.Machine.{leads_on}
use Rattle.gtd_hours_grammar2.specs.declared.machine.TheConstants.{CLASSES}
use Rattle.gtd_hours_grammar2.proofs.machine.accepted.Given as goal

abbrev pub invariant-loop-class : goal.invariant-loop-class
invariant-loop-class l = l.classes.items ≡ filter (leads_on l.state) (take l.class-index CLASSES)
