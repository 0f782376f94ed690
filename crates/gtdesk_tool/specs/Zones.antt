-- Why the clock of a time zone shows no moment.
use Rattle.std.specs.Prelude.{◌≡◌, ℕ, ℤ, List}
use Rattle.gtd_calendar.specs.declared.stamp.StampFault.TheVariants as stamp
use Rattle.gtd_zones.specs.Zones.{IsNoZone, IsOutOfRange}
use Rattle.gtd_zones.specs.declared.zone.ZoneFault.{ZoneFault}
use Rattle.gtd_zones.specs.declared.zone.ZoneFault.TheVariants as zone
use Rattle.gtdesk_tool.specs.declared.refusal.RunRefusal.{RunRefusal}
use Rattle.gtdesk_tool.specs.declared.refusal.RunRefusal.TheVariants as refusal
use Rattle.gtdesk_words.specs.declared.refusal.Reason.TheVariants as reason
use Rattle.gtdesk_words.specs.declared.refusal.WordName.TheVariants as name

-- There is no time zone of this name.
abbrev pub no_zone : RunRefusal
no_zone = refusal.Word (record { word = name.Zone; why = reason.Zone })

-- Its clock shows no moment.
abbrev pub no_moment : RunRefusal
no_moment = refusal.Word (record { word = name.Zone; why = reason.Moment stamp.Range })

-- The refusal for a fault of a zone.
abbrev pub zone_refusal : ZoneFault → RunRefusal
zone_refusal zone.File = no_zone
zone_refusal zone.Range = no_moment
zone_refusal zone.Memory = refusal.Memory

-- The file is none of a zone; or the zone's clock shows no moment; or memory was refused.
abbrev pub IsCause : List ℕ → ℤ → ZoneFault → Type 0
IsCause file instant zone.File = IsNoZone file
IsCause file instant zone.Range = IsOutOfRange file instant
IsCause file instant zone.Memory = Unit {0}

-- The refusal says which.
abbrev pub IsZoneRefusal : List ℕ → ℤ → RunRefusal → Type 0
IsZoneRefusal file instant r = (fault : ZoneFault) × (r ≡ zone_refusal fault) × IsCause file instant fault
