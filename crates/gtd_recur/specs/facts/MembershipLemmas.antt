-- The seconds that are computed are those of the basic domain.
use Rattle.std.proofs.Common.{◌↔◌, ℤ}
use Rattle.gtd_core.specs.declared.start.StartParts.{StartParts}
use Rattle.gtd_core.specs.declared.duration.DurationParts.{DurationParts}
use Rattle.gtd_calendar.specs.ComputedEnds.{stop}
use Rattle.gtd_calendar.specs.facts.StopLemmas.{stop-is, stop-only}
use Rattle.gtd_recur.specs.ComputedStretches.{InComputedStretches}
use Rattle.gtd_recur.specs.Membership.{InStretches}
use Rattle.gtd_recur.specs.facts.DateMatches.{begins-matches}

pub to_computed : (p : StartParts) (q : DurationParts) (s : ℤ) → InStretches p q s → InComputedStretches p q s
unfolding InStretches
to_computed p q s h = (h.0, ((begins-matches p h.0).1 h.2, h.4, rw (stop-only q h.0 h.1 h.3) at h.5))

pub from_computed : (p : StartParts) (q : DurationParts) (s : ℤ) → InComputedStretches p q s → InStretches p q s
unfolding InStretches
from_computed p q s h = (h.0, stop q h.0, (begins-matches p h.0).0 h.1.0, stop-is q h.0, h.1.1, h.1.2)

pub in_stretches-computed : (p : StartParts) (q : DurationParts) (s : ℤ) → InStretches p q s ↔ InComputedStretches p q s
in_stretches-computed p q s = (to_computed p q s, from_computed p q s)
