-- What the tags of an element say, one after another.
use Rattle.std.specs.Prelude.{ℕ, zero, suc, Bool, ◌&&◌, true, false, if◌then◌else◌, List, [], ◌∷◌, ◌++◌, ◌==◌, length}
use Rattle.std.specs.Prelude.{Option, Some, None, slice_get}
use Rattle.gtd_rows.specs.declared.direction.Direction.{Direction}
use Rattle.gtd_rows.specs.declared.direction.Direction.TheVariants.{Positive, Negative}
use Rattle.gtd_rows.specs.declared.vehicles.Vehicles.{Vehicles}
use Rattle.gtd_conditional_means.specs.declared.meaning.Meaning.{Meaning}
use Rattle.gtd_conditional_means.specs.declared.meaning.Meaning.TheVariants as meaning
use Rattle.gtd_conditional_means.specs.declared.meaning.MeansRow.{MeansRow}
use Rattle.gtd_conditional_parts.specs.Names.{subject_of}
use Rattle.gtd_conditional_parts.specs.declared.said.Subject.{Subject}
use Rattle.gtd_conditional_parts.specs.declared.said.Subject.TheVariants.{Access, Oneway}
use Rattle.gtd_conditional_parts.specs.declared.value.Part.{Part}
use Rattle.gtd_conditional_steps.specs.declared.tag.Tag.{Tag}

-- a part of a value, and the vehicle types of its mode
pub record Saying : Type 0 where
  pub types : Vehicles
  pub part : Part

-- ---- the modes that speak of a subject

abbrev pub same_subject : Subject → Subject → Bool
same_subject Access Access = true
same_subject Oneway Oneway = true
same_subject one other = false

abbrev pub types_meant : Meaning → Option Vehicles
types_meant (meaning.Mode types) = Some types
types_meant other = None

-- the vehicle types of a row, if it is one of a mode that speaks of the subject
abbrev pub types_in : Subject → Option MeansRow → Option Vehicles
types_in subject None = None
types_in subject (Some row) = if same_subject subject (subject_of row.name.items) then types_meant row.meaning else None

abbrev pub mode_types : Subject → List MeansRow → ℕ → Option Vehicles
mode_types subject rows mode = types_in subject (slice_get rows mode)

-- ---- the keys of a mode

abbrev pub same_direction : Option Direction → Option Direction → Bool
same_direction None None = true
same_direction (Some Positive) (Some Positive) = true
same_direction (Some Negative) (Some Negative) = true
same_direction one other = false

abbrev pub same_flag : Bool → Bool → Bool
same_flag true other = other
same_flag false true = false
same_flag false false = true

-- the tag is of the key of this mode, of both directions or of one, with conditions or without
abbrev pub is_of_key : ℕ → Option Direction → Bool → Tag → Bool
is_of_key mode direction conditional tag =
    tag.mode == mode && same_direction tag.direction direction && same_flag tag.conditional conditional

abbrev pub said_by_parts : Vehicles → List Part → List Saying
said_by_parts types [] = []
said_by_parts types (part ∷ parts) = record { types = types; part = part } ∷ said_by_parts types parts

-- what the tags of a key say
abbrev pub said_by_key : Vehicles → ℕ → Option Direction → Bool → List Tag → List Saying
said_by_key types mode direction conditional [] = []
said_by_key types mode direction conditional (tag ∷ tags) =
    (if is_of_key mode direction conditional tag then said_by_parts types tag.value.parts.items else [])
    ++ said_by_key types mode direction conditional tags

-- First come the keys without a direction, then those with this direction; of each first the key without conditions.
abbrev pub said_for : Vehicles → ℕ → Direction → List Tag → List Saying
said_for types mode direction tags =
    (said_by_key types mode None false tags ++ said_by_key types mode None true tags)
    ++ (said_by_key types mode (Some direction) false tags ++ said_by_key types mode (Some direction) true tags)

abbrev pub said_by_types : Option Vehicles → ℕ → Direction → List Tag → List Saying
said_by_types None mode direction tags = []
said_by_types (Some types) mode direction tags = said_for types mode direction tags

-- The modes of the rows before one, in their order, from general to specific.
abbrev pub said_before : ℕ → Subject → List MeansRow → Direction → List Tag → List Saying
said_before zero subject rows direction tags = []
said_before (suc mode) subject rows direction tags =
    said_before mode subject rows direction tags ++ said_by_types (mode_types subject rows mode) mode direction tags

-- all that the tags say of the subject for a direction
abbrev pub said_by : Subject → List MeansRow → Direction → List Tag → List Saying
said_by subject rows direction tags = said_before (length rows) subject rows direction tags
