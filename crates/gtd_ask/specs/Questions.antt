-- What a file of questions is: its questions, or its first fault.
use Rattle.std.specs.Prelude.{◌≡◌, ◌<◌, ◌≤◌, ◌⊎◌, ◌&&◌, ◌+◌, ◌++◌, ℕ, List, [], ◌∷◌, length, codes, nat_le}
use Rattle.std.specs.Prelude.{if◌then◌else◌, Option, Some, None, Result, Ok, Err, ⊤}
use Rattle.csv.specs.Reading.{default_config, records, strip_bom}
use Rattle.gtd_calendar.specs.declared.stamp.StampFault.{StampFault}
use Rattle.gtd_core.specs.declared.second.Sec.{Sec}
use Rattle.gtd_devices.specs.declared.whole.InputFault.{InputFault}
use Rattle.gtd_devices.specs.declared.whole.InputFault.TheVariants as input
use Rattle.gtd_moments.specs.Moments.{moment_in}
use Rattle.gtd_rows.specs.Columns.{Fields, direction_of, number_of}
use Rattle.gtd_rows.specs.declared.direction.Direction.{Direction}
use Rattle.gtd_ask.specs.declared.fault.QuestionFault.{QuestionFault}
use Rattle.gtd_ask.specs.declared.fault.QuestionFault.TheVariants as fault
use Rattle.gtd_ask.specs.declared.question.Question.{Question}

-- The vehicle type that a text names, from 1 to 99.
abbrev pub type_within : Option ℕ → Option ℕ
type_within None = None
type_within (Some code) = if nat_le 1 code && nat_le code 99 then Some code else None

abbrev pub vehicle_of : List ℕ → Option ℕ
vehicle_of text = type_within (number_of text)

-- The question of a row with this number, from what its columns stand for, or the first that stands for nothing.
abbrev pub at_second : ℕ → ℕ → Direction → ℕ → Result Sec StampFault → Result Question QuestionFault
at_second row element direction vehicle (Ok second) =
    Ok (record { element = element; direction = direction; vehicle = vehicle; second = second })
at_second row element direction vehicle (Err why) = Err (fault.Moment row why)

abbrev pub for_vehicle : ℕ → ℕ → Direction → Option ℕ → List ℕ → Result Question QuestionFault
for_vehicle row element direction (Some vehicle) moment = at_second row element direction vehicle (moment_in moment)
for_vehicle row element direction None moment = Err (fault.Vehicle row)

abbrev pub in_direction : ℕ → ℕ → Option Direction → List ℕ → List ℕ → Result Question QuestionFault
in_direction row element (Some direction) vehicle moment = for_vehicle row element direction (vehicle_of vehicle) moment
in_direction row element None vehicle moment = Err (fault.Direction row)

abbrev pub of_element : ℕ → Option ℕ → List ℕ → List ℕ → List ℕ → Result Question QuestionFault
of_element row (Some element) direction vehicle moment = in_direction row element (direction_of direction) vehicle moment
of_element row None direction vehicle moment = Err (fault.Element row)

-- The question that the fields of a row with this number stand for, or its first fault from the left.
abbrev pub question_of : ℕ → Fields → Result Question QuestionFault
question_of row (element ∷ direction ∷ vehicle ∷ moment ∷ []) =
    of_element row (number_of element) direction vehicle moment
question_of row other = Err (fault.FieldCount row)

-- the most rows of a file, and its most bytes
abbrev pub most_questions : ℕ
most_questions = 2_000_000

abbrev pub most_question_bytes : ℕ
most_question_bytes = 134_217_728

-- The rows, of which the first has this number, stand for these questions, one for one.
abbrev pub AreQuestions : ℕ → List Fields → List Question → Type 0
AreQuestions number [] questions = questions ≡ []
AreQuestions number (row ∷ rows) questions =
    (first : Question) × (rest : List Question)
    × (question_of number row ≡ Ok first) × AreQuestions (number + 1) rows rest × (questions ≡ first ∷ rest)

-- The first row that is one too many, or that has a fault; each row before it stands for its question.
pub record IsFirstFault (rows : List Fields) (why : QuestionFault) : Type 0 where
  pub before : List Fields
  pub row : Fields
  pub after : List Fields
  pub split : rows ≡ before ++ row ∷ after
  pub questions : List Question
  pub sound : AreQuestions 1 before questions
  pub few : length before ≤ most_questions
  pub fault : ((length before ≡ most_questions) × (why ≡ fault.TooManyRows))
      ⊎ ((length before < most_questions) × (question_of (length before + 1) row ≡ Err why))

-- The rows after the header stand for these questions, or have this first fault.
abbrev pub AreRows : List Fields → Result (List Question) QuestionFault → Type 0
AreRows rows (Ok questions) = (length rows ≤ most_questions) × AreQuestions 1 rows questions
AreRows rows (Err why) = IsFirstFault rows why

-- the fields of the header
abbrev pub header : Fields
header = codes "element" ∷ codes "direction" ∷ codes "vehicle" ∷ codes "moment" ∷ []

-- The records of comma-separated text (RFC 4180): the first is the header, and the others are rows.
abbrev pub IsTable : List Fields → Result (List Question) QuestionFault → Type 0
IsTable text answer =
    ((rows : List Fields) × (text ≡ header ∷ rows) × AreRows rows answer)
    ⊎ (((rows : List Fields) → text ≡ header ∷ rows → ⊥) × (answer ≡ Err fault.Header))

-- The bytes are a file of these questions, or have this first fault. A byte order mark at the front is not part of the text.
abbrev pub IsFile : List ℕ → Result (List Question) QuestionFault → Type 0
IsFile bytes answer =
    ((length bytes ≤ most_question_bytes) × IsTable (records default_config (strip_bom bytes)) answer)
    ⊎ ((most_question_bytes < length bytes) × (answer ≡ Err fault.TooLarge))

-- the fault is of the file, and not of the device or of memory
abbrev pub IsOfFile : QuestionFault → Type 0
IsOfFile fault.ReadFault = ⊥
IsOfFile fault.Endless = ⊥
IsOfFile fault.NoMemory = ⊥
IsOfFile _ = ⊤

-- why a file is not read, for a fault of the input
abbrev pub as_question_fault : InputFault → QuestionFault
as_question_fault input.ReadFault = fault.ReadFault
as_question_fault input.TooLarge = fault.TooLarge
as_question_fault input.Endless = fault.Endless
as_question_fault input.NoMemory = fault.NoMemory
