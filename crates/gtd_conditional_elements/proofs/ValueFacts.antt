-- The values of tags, one after another.
use Rattle.std.proofs.Common.{sym, refl, List, [], ◌∷◌, ◌++◌, append-nil, append_assoc}
use Rattle.std.specs.Prelude.{Result}
use Rattle.gtd_hours_options.specs.Readings.{HowRead}
use Rattle.gtd_conditional_means.specs.declared.meaning.MeansRow.{MeansRow}
use Rattle.gtd_conditional_tags.specs.declared.groups.ElementItem.{ElementItem}
use Rattle.gtd_conditional_tags.specs.declared.row.Tag.{Tag}
use Rattle.gtd_conditional_elements.specs.Values.{AreValues, IsTag, faults_of, sound_of}
use Rattle.gtd_conditional_elements.specs.declared.fault.ConditionsFault.{ConditionsFault}
use Rattle.gtd_conditional_elements.specs.declared.tag.ReadTag.{ReadTag}

-- what one tag more adds
pub values_more : (how : HowRead) (means : List MeansRow) (tags : List Tag) (tag : Tag) (sound : List (ElementItem ReadTag))
    (faults : List ConditionsFault) (answer : Result ReadTag ConditionsFault) → IsTag how means tag answer
    → AreValues how means tags sound faults
    → AreValues how means (tags ++ tag ∷ []) (sound ++ sound_of tag answer) (faults ++ faults_of answer)
values_more how means [] tag sound faults answer is are = (
  answer,
  [],
  [],
  is,
  (refl, refl),
  rw (are.0) (sym (append-nil (sound_of tag answer))),
  rw (are.1) (sym (append-nil (faults_of answer))),
)
values_more how means (first ∷ tags) tag sound faults answer is are = (
  are.0,
  are.1 ++ sound_of tag answer,
  are.2 ++ faults_of answer,
  are.3,
  values_more how means tags tag are.1 are.2 answer is are.4,
  rw (are.5) (append_assoc (sound_of first are.0) are.1 (sound_of tag answer)),
  rw (are.6) (append_assoc (faults_of are.0) are.2 (faults_of answer)),
)
