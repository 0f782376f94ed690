-- What a file of tags is: the rows of its elements, and all its faults.
use Rattle.std.specs.Prelude.{◌≡◌, ◌++◌, ℕ, List, map}
use Rattle.std.specs.List.Sorted.{IsNonDecreasingBy, IsPermutation}
use Rattle.gtd_hours_options.specs.Readings.{HowRead}
use Rattle.gtd_conditional_means.specs.declared.meaning.MeansRow.{MeansRow}
use Rattle.gtd_conditional_tags.specs.File.{AreOfBytes}
use Rattle.gtd_conditional_tags.specs.Groups.{HaveItems, each_once, elements_in, elements_of}
use Rattle.gtd_conditional_tags.specs.declared.fault.TagsFault.{TagsFault}
use Rattle.gtd_conditional_tags.specs.declared.groups.ElementItem.{ElementItem}
use Rattle.gtd_conditional_tags.specs.declared.groups.ElementItems.{ElementItems}
use Rattle.gtd_conditional_tags.specs.declared.row.Tag.{Tag}
use Rattle.gtd_conditional_elements.specs.Elements.{AreEach}
use Rattle.gtd_conditional_elements.specs.Faults.{row_number}
use Rattle.gtd_conditional_elements.specs.Values.{AreValues}
use Rattle.gtd_conditional_elements.specs.declared.fault.ConditionsFault.{ConditionsFault}
use Rattle.gtd_conditional_elements.specs.declared.fault.ConditionsFault.TheVariants as fault
use Rattle.gtd_conditional_elements.specs.declared.found.ElementRow.{ElementRow}
use Rattle.gtd_conditional_elements.specs.declared.tag.ReadTag.{ReadTag}

-- the sound tags of each element, in their order, and the elements in the order in which they first come
pub record AreGroups (sound : List (ElementItem ReadTag)) (groups : List (ElementItems ReadTag)) : Type 0 where
  pub order : elements_in groups ≡ each_once (elements_of sound)
  pub items : HaveItems sound groups

-- these are the faults of rows, of values and of elements, in the order of the rows
pub record AreAllFaults (rows : List TagsFault) (values elements faults : List ConditionsFault) : Type 0 where
  pub all : IsPermutation (map (λ why. fault.Row why) rows ++ values ++ elements) faults
  pub sorted : IsNonDecreasingBy row_number faults

-- The rows of a file's elements, and all its faults, by the rows of a table of means, if hours are read so.
pub record AreOfFile (how : HowRead) (means : List MeansRow) (bytes : List ℕ) (rows : List ElementRow)
    (faults : List ConditionsFault) : Type 0 where
  pub tags : List Tag
  pub of_rows : List TagsFault
  pub file : AreOfBytes means bytes tags of_rows
  pub sound : List (ElementItem ReadTag)
  pub of_values : List ConditionsFault
  pub values : AreValues how means tags sound of_values
  pub groups : List (ElementItems ReadTag)
  pub grouped : AreGroups sound groups
  pub of_elements : List ConditionsFault
  pub each : AreEach means groups rows of_elements
  pub listed : AreAllFaults of_rows of_values of_elements faults
