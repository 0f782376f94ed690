-- The restrictions of a file in parts, by their elements, and in any order.
use Rattle.std.specs.Prelude.{◌≡◌, ◌<◌, ◌≤◌, ◌↔◌, ◌∷◌, [], ℕ, List, ⊤, nat_lt, nat_le, flat_map}
use Rattle.std.specs.List.{All, Contains, filter}
use Rattle.gtd_core.specs.declared.horizon.Horizon.{Horizon}
use Rattle.gtd_records.specs.Closing.{Restriction}
use Rattle.gtd_schedule.specs.Schedule.{IsSchedule, header_line}

-- the restrictions of the elements below a number, in their order
abbrev pub below : ℕ → List Restriction → List Restriction
below k found = filter (λ (r : Restriction). nat_lt r.element k) found

-- the restrictions of the other elements, in their order
abbrev pub not_below : ℕ → List Restriction → List Restriction
not_below k found = filter (λ (r : Restriction). nat_le k r.element) found

-- the same restrictions, in whatever order and however often each of them stands
abbrev pub HaveSameRows : List Restriction → List Restriction → Type 0
HaveSameRows one two = (r : Restriction) → Contains one r ↔ Contains two r

-- each element of the one is below the number, and none of the other is
pub record IsSplitAt (k : ℕ) (one two : List Restriction) : Type 0 where
  pub low : All (λ (r : Restriction). r.element < k) one
  pub high : All (λ (r : Restriction). k ≤ r.element) two

-- all restrictions of the parts, part by part
abbrev pub of_parts : List (List Restriction) → List Restriction
of_parts parts = flat_map (λ part. part) parts

-- the elements of each part are below those of the parts after it
abbrev pub AreRanges : List (List Restriction) → Type 0
AreRanges [] = ⊤
AreRanges (part ∷ parts) = ((k : ℕ) × IsSplitAt k part (of_parts parts)) × AreRanges parts

-- each part has the schedule of the header and these lines
abbrev pub AreSchedules : List (List Restriction) → ℕ → Horizon → List (List (List ℕ)) → Type 0
AreSchedules [] vehicle horizon texts = texts ≡ []
AreSchedules (part ∷ parts) vehicle horizon texts =
    (lines : List (List ℕ)) × (rest : List (List (List ℕ))) × IsSchedule part vehicle horizon (header_line ∷ lines)
    × AreSchedules parts vehicle horizon rest × (texts ≡ lines ∷ rest)
