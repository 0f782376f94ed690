use Rattle.std.proofs.Common.{take}
use Rattle.gtd_hours_options.specs.Readings.{how_read}
use Rattle.gtd_conditional_elements.specs.Values.{AreValues}
use Rattle.gtd_conditional_elements.proofs.values.read_values.Given as goal

-- what the tags so far say
abbrev pub invariant-loop-tag : goal.invariant-loop-tag
invariant-loop-tag l =
    AreValues (how_read l.reading) l.means.rows.items (take l.tag-index l.tags) l.found.sound.items l.found.faults.items
