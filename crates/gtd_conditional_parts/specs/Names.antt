-- What the names of values say of the two directions.
use Rattle.std.specs.Prelude.{ℕ, if◌then◌else◌, List, codes, Option, Some, None, option_map}
use Rattle.gtd_rows.specs.Columns.{is_word}
use Rattle.gtd_rows.specs.declared.direction.Direction.{Direction}
use Rattle.gtd_rows.specs.declared.direction.Direction.TheVariants.{Positive, Negative}
use Rattle.gtd_conditional_means.specs.Meanings.{access_of}
use Rattle.gtd_conditional_means.specs.declared.meaning.Access.{Access}
use Rattle.gtd_conditional_means.specs.declared.meaning.Access.TheVariants.{Open, Closed}
use Rattle.gtd_conditional_means.specs.declared.meaning.MeansRow.{MeansRow}
use Rattle.gtd_conditional_parts.specs.declared.said.Said.{Said}
use Rattle.gtd_conditional_parts.specs.declared.said.Subject.{Subject}
use Rattle.gtd_conditional_parts.specs.declared.said.Subject.TheVariants as subject

-- what keys of a mode of this name speak of
abbrev pub subject_of : List ℕ → Subject
subject_of mode = if is_word mode (codes "oneway") then subject.Oneway else subject.Access

abbrev pub access_in : Said → Direction → Access
access_in said Positive = said.positive
access_in said Negative = said.negative

-- the same of both directions
abbrev pub both : Access → Said
both access = record { positive = access; negative = access }

-- one way, in the direction of the way or against it, or neither
abbrev pub oneway_said : List ℕ → Option Said
oneway_said name =
    if is_word name (codes "yes") then Some (record { positive = Open; negative = Closed })
    else if is_word name (codes "-1") then Some (record { positive = Closed; negative = Open })
    else if is_word name (codes "no") then Some (both Open)
    else None

-- what a name says in a value of access, or of `oneway`
abbrev pub said_of : Subject → List MeansRow → List ℕ → Option Said
said_of subject.Access rows name = option_map both (access_of rows name)
said_of subject.Oneway rows name = oneway_said name
