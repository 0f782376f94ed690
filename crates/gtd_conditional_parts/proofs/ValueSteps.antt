-- Why a value is not read, by why a part of it is not.
use Rattle.std.proofs.Common.{◌≡◌, subst, refl, ◌+◌, ℕ, false, List, take, drop, Some, None}
use Rattle.gtd_hours_options.specs.Readings.{HowRead}
use Rattle.gtd_conditional_means.specs.declared.meaning.MeansRow.{MeansRow}
use Rattle.gtd_conditional_values.specs.Nesting.{unnested}
use Rattle.gtd_conditional_values.specs.Pieces.{at_sign, trimmed}
use Rattle.gtd_conditional_values.specs.declared.term.UnreadTerm.{UnreadTerm}
use Rattle.gtd_conditional_values.specs.declared.term.UnreadTerm.TheVariants as unread
use Rattle.gtd_conditional_parts.specs.Conditions.{IsConditionsStop}
use Rattle.gtd_conditional_parts.specs.Cuts.{body}
use Rattle.gtd_conditional_parts.specs.Names.{said_of}
use Rattle.gtd_conditional_parts.specs.Parts.{IsPartStop, IsPartsStop, LacksAt, term, unread_by}
use Rattle.gtd_conditional_parts.specs.Values.{IsBodyFault, IsBodyStop, IsValueStop, cut, part}
use Rattle.gtd_conditional_parts.specs.declared.said.Said.{Said}
use Rattle.gtd_conditional_parts.specs.declared.said.Subject.{Subject}
use Rattle.gtd_conditional_parts.specs.declared.value.UnreadValue.{UnreadValue}
use Rattle.gtd_conditional_parts.specs.declared.value.UnreadValue.TheVariants as stop

module _ (subject : Subject) (how : HowRead) (rows : List MeansRow) (place : ℕ) (text : List ℕ) (at : ℕ)
    (has : at_sign text ≡ Some at) where
  pub part_stop : (said : Said) → said_of subject rows (trimmed (take at text)) ≡ Some said → (why : UnreadTerm)
      → IsConditionsStop how rows (place + (at + 1)) (drop (at + 1) text) why
      → IsPartStop subject how rows place text (unread_by why)
  part_stop said says (unread.Fault bad) h = term at said bad has says h refl
  part_stop said says unread.NoMemory h = tt

pub body_stop : (subject : Subject) (how : HowRead) (rows : List MeansRow) (text : List ℕ)
    → ((found : ℕ) → LacksAt 0 text found → ⊥)
    → (why : UnreadValue) → IsPartsStop subject how rows 0 text why → IsBodyStop subject how rows text why
body_stop subject how rows text have (stop.Fault why) h = part have h
body_stop subject how rows text have stop.NoMemory h = tt

pub value_stop : (subject : Subject) (how : HowRead) (rows : List MeansRow) (bytes text : List ℕ)
    → unnested false 0 bytes ≡ None
    → text ≡ body bytes → (why : UnreadValue) → IsBodyStop subject how rows text why
    → IsValueStop subject how rows bytes why
value_stop subject how rows bytes text nests is (stop.Fault why) h =
    cut nests (subst (λ (t : List ℕ). IsBodyFault subject how rows t why) is h)
value_stop subject how rows bytes text nests is stop.NoMemory h = tt
