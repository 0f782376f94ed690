-- Tags that say the same of both directions.
use Rattle.std.specs.Prelude.{◌≡◌, ⊤, List, [], ◌∷◌, None}
use Rattle.gtd_conditional_parts.specs.declared.value.Part.{Part}
use Rattle.gtd_conditional_steps.specs.declared.tag.Tag.{Tag}

-- each of the parts says the same of both
abbrev pub SaySame : List Part → Type 0
SaySame [] = ⊤
SaySame (part ∷ parts) = (part.said.positive ≡ part.said.negative) × SaySame parts

-- each of the tags is of a key of both directions, and its parts say the same of both
abbrev pub AreTwoWay : List Tag → Type 0
AreTwoWay [] = ⊤
AreTwoWay (tag ∷ tags) = (tag.direction ≡ None) × SaySame tag.value.parts.items × AreTwoWay tags
