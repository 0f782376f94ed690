use Rattle.gtd_records.proofs.WeekFacts.{IsLeft}
use Rattle.gtd_records.proofs.week.spans_hold.Given as goal

-- the spans from this one on decide
abbrev pub invariant-loop-span : goal.invariant-loop-span
invariant-loop-span l = IsLeft l.spans l.second.0 l.span-index
