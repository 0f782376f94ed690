-- Stretches that begin at more seconds.
use Rattle.std.specs.Prelude.{ℤ}
use Rattle.gtd_core.specs.declared.duration.DurationParts.{DurationParts}
use Rattle.gtd_core.specs.declared.start.StartParts.{StartParts}
use Rattle.gtd_recur.specs.Membership.{InStretches, Matches}

pub wider_stretches : (p w : StartParts) (q : DurationParts) → ((t : ℤ) → Matches p t → Matches w t) → (t : ℤ)
    → InStretches p q t → InStretches w q t
unfolding InStretches
wider_stretches p w q more t h = (h.0, h.1, more h.0 h.2, h.3, h.4, h.5)
