-- How vehicle types are written.
use Rattle.std.specs.Prelude.{◌≡◌, ◌≤◌, ◌<◌, ◌↔◌, ⊤, ℕ}
use Rattle.gtd_conditional_rows.specs.Flags.{count_true}
use Rattle.gtd_conditional_rows.specs.Types.{HasType, IsVehicle}
use Rattle.gtd_conditional_rows.specs.declared.listing.Listing.{Listing}
use Rattle.gtd_conditional_rows.specs.declared.listing.Listing.TheVariants.{Every, Only, AllBut}
use Rattle.gtd_conditional_rows.specs.declared.types.Types.{Types}

-- the others
abbrev pub AreOthers : Types → Types → Type 0
AreOthers types others = (t : ℕ) → IsVehicle t → HasType others t ↔ (HasType types t → ⊥)

-- all as every type; a list, if it has at most 49; else the others
abbrev pub IsListing : Types → Listing → Type 0
IsListing types Every = count_true types.has ≡ 99
IsListing types (Only listed) = (count_true types.has ≤ 49) × (listed ≡ types)
IsListing types (AllBut listed) = (49 < count_true types.has) × (count_true types.has ≡ 99 → ⊥) × AreOthers types listed

-- the types that it stands for
abbrev pub Lists : Listing → ℕ → Type 0
Lists Every t = ⊤
Lists (Only listed) t = HasType listed t
Lists (AllBut listed) t = HasType listed t → ⊥
