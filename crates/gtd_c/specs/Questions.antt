-- Questions of whether some record closes an element.
use Rattle.std.specs.Prelude.{List, false, pos}
use Rattle.gtd_core.specs.Seconds.{IsHorizonSecond}
use Rattle.gtd_records.specs.Closing.{IsClosed, Restriction}
use Rattle.gtd_report.specs.Run.{IsVehicleType}
use Rattle.gtd_handles.specs.Answers.{direction_of}
use Rattle.gtd_c.specs.declared.questions.Question.{Question}

-- The numbers of the question are in their ranges.
pub record IsQuestion (question : Question) : Type 0 where
  pub vehicle : IsVehicleType question.vehicle
  pub second : IsHorizonSecond question.second

-- Some record closes the element of the question.
abbrev pub IsQuestionClosed : List Restriction → Question → Type 0
IsQuestionClosed found question =
    IsClosed found question.element (direction_of question.negative) question.vehicle question.second

-- the question past the end, which is never asked
abbrev pub no_question : Question
no_question = record { element = 0; second = pos 0; vehicle = 0; negative = false }
