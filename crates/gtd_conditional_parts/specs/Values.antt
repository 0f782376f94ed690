-- What a value says, or its first fault.
use Rattle.std.specs.Prelude.{◌≡◌, ℕ, false, List, [], ◌∷◌, Some, None, ⊤}
use Rattle.gtd_hours_options.specs.Readings.{HowRead}
use Rattle.gtd_conditional_means.specs.declared.meaning.MeansRow.{MeansRow}
use Rattle.gtd_conditional_values.specs.Nesting.{unnested}
use Rattle.gtd_conditional_parts.specs.Cuts.{body}
use Rattle.gtd_conditional_parts.specs.Names.{said_of}
use Rattle.gtd_conditional_parts.specs.Parts.{AreParts, IsPartsFault, LacksAt}
use Rattle.gtd_conditional_parts.specs.declared.said.Subject.{Subject}
use Rattle.gtd_conditional_parts.specs.declared.value.Part.{Part}
use Rattle.gtd_conditional_parts.specs.declared.value.UnreadValue.{UnreadValue}
use Rattle.gtd_conditional_parts.specs.declared.value.UnreadValue.TheVariants as stop
use Rattle.gtd_conditional_parts.specs.declared.value.Value.{Value}
use Rattle.gtd_conditional_parts.specs.declared.value.ValueFault.{ValueFault}
use Rattle.gtd_conditional_parts.specs.declared.value.ValueFault.TheVariants as fault

-- ---- values of keys with conditions, whose hours are read so

module _ (subject : Subject) (how : HowRead) (rows : List MeansRow) where
  -- Parentheses and comments fit, and the value without one `;` at its end is these parts.
  pub record IsValue (bytes : List ℕ) (value : Value) : Type 0 where
    pub nests : unnested false 0 bytes ≡ None
    pub parts : AreParts subject how rows 0 (body bytes) value.parts.items

  -- The first fault of parts: that one has no `@`, and otherwise part by part of the names and the terms.
  pub data IsBodyFault (text : List ℕ) (why : ValueFault) : Type 0 where
    no_at : (place : ℕ) → LacksAt 0 text place → why ≡ fault.Part place → IsBodyFault text why
    part : ((place : ℕ) → LacksAt 0 text place → ⊥) → IsPartsFault subject how rows 0 text why → IsBodyFault text why

  abbrev pub IsBodyStop : List ℕ → UnreadValue → Type 0
  IsBodyStop text (stop.Fault why) = IsBodyFault text why
  IsBodyStop text stop.NoMemory = ⊤

  -- The first fault: of parentheses and comments, and otherwise of the parts.
  pub data IsValueFault (bytes : List ℕ) (why : ValueFault) : Type 0 where
    nesting : (place : ℕ) → unnested false 0 bytes ≡ Some place → why ≡ fault.Part place → IsValueFault bytes why
    cut : unnested false 0 bytes ≡ None → IsBodyFault (body bytes) why → IsValueFault bytes why

  abbrev pub IsValueStop : List ℕ → UnreadValue → Type 0
  IsValueStop bytes (stop.Fault why) = IsValueFault bytes why
  IsValueStop bytes stop.NoMemory = ⊤

-- ---- values of keys without conditions: a name alone

module _ (subject : Subject) (rows : List MeansRow) where
  -- one part, which always holds
  pub record IsPlain (bytes : List ℕ) (value : Value) : Type 0 where
    pub part : Part
    pub said : said_of subject rows bytes ≡ Some part.said
    pub always : part.terms.items ≡ []
    pub alone : value.parts.items ≡ part ∷ []

  pub record IsPlainFault (bytes : List ℕ) (why : ValueFault) : Type 0 where
    pub said : said_of subject rows bytes ≡ None
    pub place : why ≡ fault.Value 0

  abbrev pub IsPlainStop : List ℕ → UnreadValue → Type 0
  IsPlainStop bytes (stop.Fault why) = IsPlainFault bytes why
  IsPlainStop bytes stop.NoMemory = ⊤
