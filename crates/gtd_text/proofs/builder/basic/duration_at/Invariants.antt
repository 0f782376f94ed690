use Rattle.std.proofs.Common.{◌≤◌, ◌-◌, List, [], Option, length}
use Rattle.gtd_core.specs.declared.start.StartParts.{StartParts}
use Rattle.gtd_core.specs.Trees.{Tree}
use Rattle.gtd_text.specs.Building.{Pending, Sums, InDuration}
use Rattle.gtd_text.specs.Grammar.{zero_parts}
use Rattle.gtd_text.specs.Reached.{Reached}
use Rattle.gtd_text.proofs.StepLemmas.{DurationSoFar}
use Rattle.gtd_text.proofs.builder.basic.duration_at.Given as goal

-- the fields so far give the parts and the letters
abbrev pub invariant-loop-token : goal.invariant-loop-token
invariant-loop-token l = record {
  past : l.fn.place ≤ l.at;
  inside : l.at ≤ length l.text;
  so_far : (outer : List Pending) (sum : Sums) (prod : Option Tree) (start : StartParts)
      → Reached l.text l.fn.place (InDuration outer sum prod start [] zero_parts)
      → DurationSoFar l.text l.at outer sum prod start l.parts l.letters l.has_field;
}

abbrev pub decreases-loop-token : goal.decreases-loop-token
decreases-loop-token l = length l.text - l.at
