-- The items of a text from left to right, with what becomes of each.
use Rattle.std.specs.Prelude.{ℕ, List, [], ◌∷◌, ◌++◌, Option, Some, None}
use Rattle.gtd_hours_items.specs.declared.items.Item.{Item}
use Rattle.gtd_hours_roles.specs.declared.behind.Position.{Position}
use Rattle.gtd_hours_holiday_rules.specs.declared.parts.Part.{Part}
use Rattle.gtd_hours_holiday_rules.specs.declared.told.Instead.{Instead}
use Rattle.gtd_hours_holiday_rules.specs.declared.told.Told.{Told}
use Rattle.gtd_hours_roles.specs.Behind.{after, front}
use Rattle.gtd_hours_roles.specs.Roles.{role_of}
use Rattle.gtd_hours_holiday_rules.specs.Told.{instead_of, told_at}

-- An item at a position, where these come behind it.
abbrev pub part_at : Position → Item → List Item → Part
part_at p item later = record {
  item = item;
  role = role_of p item later;
  instead = instead_of p (role_of p item later) item later;
}

-- The items that are left at a position.
abbrev pub parts_from : Position → List Item → List Part
parts_from p [] = []
parts_from p (i ∷ later) = part_at p i later ∷ parts_from (after p (role_of p i later) i) later

abbrev pub parts_of : List Item → List Part
parts_of items = parts_from front items

-- ---- faults

abbrev pub told_by : ℕ → Option Instead → List Told
told_by place None = []
told_by place (Some instead) = record { at = place; instead = instead } ∷ []

-- How faults at the items are told, from left to right.
abbrev pub told_of : List Part → List Told
told_of [] = []
told_of (part ∷ parts) = told_by (told_at part.role part.item) part.instead ++ told_of parts
