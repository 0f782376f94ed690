-- The answers to questions: whether each element is open, and until when.
use Rattle.std.specs.Prelude.{◌≡◌, ◌++◌, ◌↔◌, ◌*ℤ◌, pos, ℕ, ℤ, Bool, IsTrue, List, [], ◌∷◌, Option, MatchOption, codes, decimal}
use Rattle.gtd_calendar.specs.Stamp.{stamp_text}
use Rattle.gtd_core.specs.Limits.{day_seconds}
use Rattle.gtd_core.specs.Seconds.{day_of_second}
use Rattle.gtd_records.specs.Closing.{IsOpen, Restriction}
use Rattle.gtd_report.specs.Putting.{direction_word}
use Rattle.gtd_spans.specs.Change.{IsNextChange, NeverChanges}
use Rattle.gtd_states.specs.Lines.{change_text, state_word}
use Rattle.gtd_states.specs.States.{IsLookEnd}
use Rattle.gtd_ask.specs.declared.question.Question.{Question}

-- the header line
abbrev pub header_line : List ℕ
header_line = codes "element,direction,vehicle,moment,state,until\n"

-- the question as it begins its line, its second as a moment
abbrev pub question_text : Question → List ℕ
question_text q =
    decimal q.element ++ codes "," ++ direction_word q.direction ++ codes "," ++ decimal q.vehicle ++ codes ","
    ++ stamp_text q.second.0 ++ codes ","

-- the line of a question and its answer
abbrev pub answer_line : Question → Bool → Option ℤ → List ℕ
answer_line q is_open change = question_text q ++ state_word is_open ++ codes "," ++ change_text change ++ codes "\n"

module _ (found : List Restriction) where
  -- What the line of a question says: the element is open exactly if no restriction closes it, and that changes at the first
  -- later second, of those that are looked at, at which its state differs.
  pub record IsAnswer (q : Question) (line : List ℕ) : Type 0 where
    pub is_open : Bool
    pub state : IsTrue is_open ↔ IsOpen found q.element q.direction q.vehicle q.second.0
    pub last : ℤ
    pub ends : IsLookEnd (day_of_second q.second.0) last
    pub change : Option ℤ
    pub until : MatchOption change
        (NeverChanges (IsOpen found q.element q.direction q.vehicle) q.second.0 (last *ℤ pos day_seconds))
        (λ c. IsNextChange (IsOpen found q.element q.direction q.vehicle) q.second.0 (last *ℤ pos day_seconds) c)
    pub whole : line ≡ answer_line q is_open change

  -- the lines of questions, in their order
  abbrev pub AreAnswers : List Question → List (List ℕ) → Type 0
  AreAnswers [] lines = lines ≡ []
  AreAnswers (q ∷ questions) lines =
      (first : List ℕ) × (rest : List (List ℕ)) × IsAnswer q first × AreAnswers questions rest × (lines ≡ first ∷ rest)

  -- The header, and a line for each question, in their order.
  pub record IsText (questions : List Question) (lines : List (List ℕ)) : Type 0 where
    pub rest : List (List ℕ)
    pub each : AreAnswers questions rest
    pub whole : lines ≡ header_line ∷ rest
