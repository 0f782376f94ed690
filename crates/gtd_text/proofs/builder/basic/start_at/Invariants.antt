use Rattle.std.proofs.Common.{◌≤◌, ◌-◌, List, [], Option, length}
use Rattle.gtd_core.specs.Ranges.{no_parts}
use Rattle.gtd_core.specs.Trees.{Tree}
use Rattle.gtd_text.specs.Building.{Pending, Sums, InStart}
use Rattle.gtd_text.specs.Reached.{Reached}
use Rattle.gtd_text.proofs.StepLemmas.{StartSoFar}
use Rattle.gtd_text.proofs.builder.basic.start_at.Given as goal

-- the fields so far give the parts and the letters
abbrev pub invariant-loop-token : goal.invariant-loop-token
invariant-loop-token l = record {
  past : l.fn.place ≤ l.at;
  inside : l.at ≤ length l.text;
  so_far : (outer : List Pending) (sum : Sums) (prod : Option Tree)
      → Reached l.text l.fn.place (InStart outer sum prod [] no_parts)
      → StartSoFar l.text l.at outer sum prod l.parts l.letters;
}

abbrev pub decreases-loop-token : goal.decreases-loop-token
decreases-loop-token l = length l.text - l.at
