-- Why the clock of a zone shows no moment, by the fault.
use Rattle.std.proofs.Common.{◌≡◌, refl, ℕ, List}
use Rattle.std.specs.Prelude.{ℤ, Result, Err}
use Rattle.gtd_core.specs.declared.second.Sec.{Sec}
use Rattle.gtd_zones.specs.Zones.{IsNoZone, IsOutOfRange}
use Rattle.gtd_zones.specs.declared.zone.ZoneFault.{ZoneFault}
use Rattle.gtd_zones.specs.declared.zone.ZoneFault.TheVariants as zone
use Rattle.gtdesk_tool.specs.Zones.{IsCause}

abbrev refused : ZoneFault → Result Sec ZoneFault
refused fault = Err fault

pub cause_of : (file : List ℕ) (instant : ℤ) (fault : ZoneFault) → (refused fault ≡ refused zone.File → IsNoZone file)
    → (refused fault ≡ refused zone.Range → IsOutOfRange file instant) → IsCause file instant fault
cause_of file instant zone.File none out = none refl
cause_of file instant zone.Range none out = out refl
cause_of file instant zone.Memory none out = tt
