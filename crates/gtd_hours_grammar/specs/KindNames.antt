-- The kinds of faults of a text of opening hours, in words.
use Rattle.std.specs.Prelude.{ℕ, List, codes}
use Rattle.gtd_hours_grammar.specs.declared.fault.FaultKind.{FaultKind}
use Rattle.gtd_hours_grammar.specs.declared.fault.FaultKind.TheVariants as kind

-- what is wrong with a text
abbrev pub kind_name : FaultKind → List ℕ
kind_name kind.BadToken = codes "BadToken"
kind_name kind.Unsupported = codes "Unsupported"
kind_name kind.Range = codes "Range"
kind_name kind.Years = codes "Years"
kind_name kind.Unexpected = codes "Unexpected"
kind_name kind.Incomplete = codes "Incomplete"
