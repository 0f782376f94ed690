-- What the values of a file's tags say, or which fault they have.
use Rattle.std.specs.Prelude.{◌≡◌, ℕ, Bool, true, false, ⊤, List, [], ◌∷◌, ◌++◌, Option, Some, None, Result, Ok, Err, slice_get}
use Rattle.gtd_hours_options.specs.Readings.{HowRead}
use Rattle.gtd_conditional_means.specs.declared.meaning.MeansRow.{MeansRow}
use Rattle.gtd_conditional_parts.specs.Names.{subject_of}
use Rattle.gtd_conditional_parts.specs.Values.{IsPlain, IsPlainFault, IsPlainStop, IsValue, IsValueFault, IsValueStop}
use Rattle.gtd_conditional_parts.specs.declared.said.Subject.{Subject}
use Rattle.gtd_conditional_parts.specs.declared.said.Subject.TheVariants.{Access}
use Rattle.gtd_conditional_parts.specs.declared.value.UnreadValue.{UnreadValue}
use Rattle.gtd_conditional_parts.specs.declared.value.Value.{Value}
use Rattle.gtd_conditional_parts.specs.declared.value.ValueFault.{ValueFault}
use Rattle.gtd_conditional_steps.specs.Hours.{PartsNeedTooMany}
use Rattle.gtd_conditional_tags.specs.declared.groups.ElementItem.{ElementItem}
use Rattle.gtd_conditional_tags.specs.declared.row.Tag.{Tag}
use Rattle.gtd_conditional_elements.specs.declared.fault.ConditionsFault.{ConditionsFault}
use Rattle.gtd_conditional_elements.specs.declared.fault.ConditionsFault.TheVariants as fault
use Rattle.gtd_conditional_elements.specs.declared.tag.ReadTag.{ReadTag}
use Rattle.gtd_conditional_elements.specs.declared.tag.TagStop.{TagStop}
use Rattle.gtd_conditional_elements.specs.declared.tag.TagStop.TheVariants as stop

-- what keys of the mode of a row of the table speak of
abbrev pub subject_in : Option MeansRow → Subject
subject_in None = Access
subject_in (Some row) = subject_of row.name.items

abbrev pub subject_at : List MeansRow → ℕ → Subject
subject_at rows mode = subject_in (slice_get rows mode)

-- the bytes say this: of a key with conditions its parts, whose hours are read so; and of another one a name alone
abbrev pub IsValueBy : Bool → Subject → HowRead → List MeansRow → List ℕ → Value → Type 0
IsValueBy true subject how rows bytes value = IsValue subject how rows bytes value
IsValueBy false subject how rows bytes value = IsPlain subject rows bytes value

-- or have this fault first
abbrev pub IsFaultBy : Bool → Subject → HowRead → List MeansRow → List ℕ → ValueFault → Type 0
IsFaultBy true subject how rows bytes why = IsValueFault subject how rows bytes why
IsFaultBy false subject how rows bytes why = IsPlainFault subject rows bytes why

abbrev pub IsStopBy : Bool → Subject → HowRead → List MeansRow → List ℕ → UnreadValue → Type 0
IsStopBy true subject how rows bytes why = IsValueStop subject how rows bytes why
IsStopBy false subject how rows bytes why = IsPlainStop subject rows bytes why

-- what a tag adds to those that are sound, and to the faults
abbrev pub sound_of : Tag → Result ReadTag ConditionsFault → List (ElementItem ReadTag)
sound_of tag (Ok read) = record { element = tag.element; item = read } ∷ []
sound_of tag (Err why) = []

abbrev pub faults_of : Result ReadTag ConditionsFault → List ConditionsFault
faults_of (Ok read) = []
faults_of (Err why) = why ∷ []

module _ (how : HowRead) (rows : List MeansRow) where
  abbrev pub IsValueOf : Tag → Value → Type 0
  IsValueOf tag value = IsValueBy tag.key.conditional (subject_at rows tag.key.mode) how rows tag.value.items value

  abbrev pub IsFaultOf : Tag → ValueFault → Type 0
  IsFaultOf tag why = IsFaultBy tag.key.conditional (subject_at rows tag.key.mode) how rows tag.value.items why

  abbrev pub IsStopOf : Tag → UnreadValue → Type 0
  IsStopOf tag why = IsStopBy tag.key.conditional (subject_at rows tag.key.mode) how rows tag.value.items why

  -- The tag with what its value says. None of its parts has hours that need too many basic domains.
  pub record IsSound (tag : Tag) (read : ReadTag) : Type 0 where
    pub row : read.row ≡ tag.row
    pub mode : read.tag.mode ≡ tag.key.mode
    pub direction : read.tag.direction ≡ tag.key.direction
    pub conditional : read.tag.conditional ≡ tag.key.conditional
    pub value : IsValueOf tag read.tag.value
    pub few : PartsNeedTooMany read.tag.value.parts.items → ⊥

  -- The fault of its value, or that some part has such hours.
  abbrev pub IsUnsound : Tag → ConditionsFault → Type 0
  IsUnsound tag (fault.Row why) = ⊥
  IsUnsound tag (fault.Value row why) = (row ≡ tag.row) × IsFaultOf tag why
  IsUnsound tag (fault.TooMany row) =
      (row ≡ tag.row) × (value : Value) × IsValueOf tag value × PartsNeedTooMany value.parts.items

  abbrev pub IsTag : Tag → Result ReadTag ConditionsFault → Type 0
  IsTag tag (Ok read) = IsSound tag read
  IsTag tag (Err why) = IsUnsound tag why

  -- the same if memory was not refused
  abbrev pub IsTagRead : Tag → Result ReadTag TagStop → Type 0
  IsTagRead tag (Ok read) = IsTag tag (Ok read)
  IsTagRead tag (Err (stop.Fault why)) = IsTag tag (Err why)
  IsTagRead tag (Err stop.NoMemory) = ⊤

  -- The tags that are sound, with their elements, and the faults of the others, each in their order.
  abbrev pub AreValues : List Tag → List (ElementItem ReadTag) → List ConditionsFault → Type 0
  AreValues [] sound faults = (sound ≡ []) × (faults ≡ [])
  AreValues (tag ∷ tags) sound faults =
      (answer : Result ReadTag ConditionsFault) × (more : List (ElementItem ReadTag)) × (others : List ConditionsFault)
      × IsTag tag answer × AreValues tags more others
      × (sound ≡ sound_of tag answer ++ more) × (faults ≡ faults_of answer ++ others)
