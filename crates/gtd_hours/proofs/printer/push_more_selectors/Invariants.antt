use Rattle.std.proofs.Common.{◌≡◌, ◌++◌, length, string_bytes}
use Rattle.gtd_hours.specs.Written.{more_selectors_text}
use Rattle.gtd_hours.proofs.printer.push_more_selectors.Given as goal

-- what is written, with the rest behind it
abbrev pub invariant-loop-selector : goal.invariant-loop-selector
invariant-loop-selector l =
    string_bytes l.out ++ more_selectors_text l.before l.rest
    ≡ string_bytes l.initial.out ++ more_selectors_text l.fn.first l.selectors

abbrev pub decreases-loop-selector : goal.decreases-loop-selector
decreases-loop-selector l = length l.rest
