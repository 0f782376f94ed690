-- The rows of elements, in the order in which the elements first come, and which elements would need too many basic domains.
use Rattle.std.specs.Prelude.{◌≡◌, ◌⊎◌, ◌↔◌, ℕ, ℤ, List, [], ◌∷◌, ◌++◌, map, Result, Ok, Err}
use Rattle.gtd_rows.specs.declared.direction.Direction.{Direction}
use Rattle.gtd_rows.specs.declared.direction.Direction.TheVariants.{Positive, Negative}
use Rattle.gtd_conditional_means.specs.declared.meaning.MeansRow.{MeansRow}
use Rattle.gtd_conditional_parts.specs.declared.said.Subject.{Subject}
use Rattle.gtd_conditional_parts.specs.declared.said.Subject.TheVariants.{Access, Oneway}
use Rattle.gtd_conditional_rows.specs.Rows.{AreRows, IsClosedByRow}
use Rattle.gtd_conditional_rows.specs.Times as times
use Rattle.gtd_conditional_rows.specs.Types.{IsVehicle}
use Rattle.gtd_conditional_rows.specs.declared.fault.RowsFault.{RowsFault}
use Rattle.gtd_conditional_rows.specs.declared.fault.RowsFault.TheVariants as rows
use Rattle.gtd_conditional_rows.specs.declared.row.Row.{Row}
use Rattle.gtd_conditional_rows.specs.declared.step.Step.{Step}
use Rattle.gtd_conditional_steps.specs.Closing.{IsClosedByTags}
use Rattle.gtd_conditional_steps.specs.Hours as hours
use Rattle.gtd_conditional_steps.specs.Sayings.{said_by}
use Rattle.gtd_conditional_steps.specs.Steps.{AreStepsOf}
use Rattle.gtd_conditional_steps.specs.declared.tag.StepsFault.{StepsFault}
use Rattle.gtd_conditional_steps.specs.declared.tag.StepsFault.TheVariants as steps
use Rattle.gtd_conditional_steps.specs.declared.tag.Tag.{Tag}
use Rattle.gtd_conditional_tags.specs.declared.groups.ElementItems.{ElementItems}
use Rattle.gtd_conditional_elements.specs.declared.fault.ConditionsFault.{ConditionsFault}
use Rattle.gtd_conditional_elements.specs.declared.fault.ConditionsFault.TheVariants as fault
use Rattle.gtd_conditional_elements.specs.declared.found.ElementRow.{ElementRow}
use Rattle.gtd_conditional_elements.specs.declared.tag.ReadTag.{ReadTag}

-- why there are no rows where there are no steps
abbrev pub without_steps : StepsFault → RowsFault
without_steps steps.TooMany = rows.TooMany
without_steps steps.NoMemory = rows.NoMemory

module _ (means : List MeansRow) where
  -- the steps do in the direction what the tags say of the subject
  abbrev pub AreStepsBy : Subject → List Tag → Direction → List Step → Type 0
  AreStepsBy subject tags direction steps = AreStepsOf means direction (said_by subject means direction tags) steps

  -- The rows of steps that do in each direction what the tags say of the subject. Some row closes a direction for a vehicle type
  -- at a second exactly if the tags do.
  pub record AreRowsBy (subject : Subject) (tags : List Tag) (rows : List Row) : Type 0 where
    pub positive : List Step
    pub negative : List Step
    pub forward : AreStepsBy subject tags Positive positive
    pub backward : AreStepsBy subject tags Negative negative
    pub are : AreRows positive negative rows
    pub closes : (direction : Direction) (t : ℕ) (s : ℤ) → IsVehicle t
        → IsClosedByRow rows direction t s ↔ IsClosedByTags means subject tags direction t s

  -- The hours of some part need too many basic domains, or those of some vehicle type after such steps do.
  abbrev pub NeedTooManyBy : Subject → List Tag → Type 0
  NeedTooManyBy subject tags =
      hours.NeedTooMany tags
      ⊎ ((direction : Direction) × (steps : List Step) × AreStepsBy subject tags direction steps × times.NeedsTooMany steps)

  -- the rows of access, and then those of one-way traffic
  pub record AreElementRows (tags : List Tag) (rows : List Row) : Type 0 where
    pub access : List Row
    pub oneway : List Row
    pub of_access : AreRowsBy Access tags access
    pub of_oneway : AreRowsBy Oneway tags oneway
    pub whole : rows ≡ access ++ oneway

  abbrev pub NeedTooMany : List Tag → Type 0
  NeedTooMany tags = NeedTooManyBy Access tags ⊎ NeedTooManyBy Oneway tags

-- what is read of tags, and the row of the last of them, if some come after one of this row
abbrev pub tags_of : List ReadTag → List Tag
tags_of read = map (λ r. r.tag) read

abbrev pub last_row : ℕ → List ReadTag → ℕ
last_row row [] = row
last_row row (read ∷ later) = last_row read.row later

-- what an element adds to the rows, and to the faults
abbrev pub rows_in : ℕ → Result (List Row) ConditionsFault → List ElementRow
rows_in element (Ok rows) = map (λ row. record { element = element; row = row }) rows
rows_in element (Err why) = []

abbrev pub fault_in : Result (List Row) ConditionsFault → List ConditionsFault
fault_in (Ok rows) = []
fault_in (Err why) = why ∷ []

module _ (means : List MeansRow) where
  -- the rows of an element's tags; or they would need too many, which is a fault of the last of these tags
  abbrev pub IsElement : ElementItems ReadTag → Result (List Row) ConditionsFault → Type 0
  IsElement group (Ok rows) = AreElementRows means (tags_of group.items.items) rows
  IsElement group (Err why) =
      NeedTooMany means (tags_of group.items.items) × (why ≡ fault.TooMany (last_row 0 group.items.items))

  -- The rows of the elements, and the faults of the others, each in their order.
  abbrev pub AreEach : List (ElementItems ReadTag) → List ElementRow → List ConditionsFault → Type 0
  AreEach [] found faults = (found ≡ []) × (faults ≡ [])
  AreEach (group ∷ groups) found faults =
      (answer : Result (List Row) ConditionsFault) × (more : List ElementRow) × (others : List ConditionsFault)
      × IsElement group answer × AreEach groups more others
      × (found ≡ rows_in group.element answer ++ more) × (faults ≡ fault_in answer ++ others)
