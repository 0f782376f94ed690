-- The words of a fault of questions: its row, if it has one; its kind; and what is accepted there.
use Rattle.std.specs.Prelude.{◌++◌, List, ℕ, codes, decimal}
use Rattle.gtd_calendar.specs.declared.stamp.StampFault.{StampFault}
use Rattle.gtd_calendar.specs.declared.stamp.StampFault.TheVariants as stamp
use Rattle.gtd_ask.specs.declared.fault.QuestionFault.{QuestionFault}
use Rattle.gtd_ask.specs.declared.fault.QuestionFault.TheVariants as fault

abbrev pub moment_text : StampFault → List ℕ
moment_text stamp.Shape = codes "expected YYYY-MM-DDThh:mm:ss"
moment_text stamp.NoSuchDate = codes "no such date or clock time"
moment_text stamp.Range = codes "expected 1901-01-01T00:00:00 to 2199-12-31T23:59:59"

abbrev pub question_fault_text : QuestionFault → List ℕ
question_fault_text fault.ReadFault = codes "ReadFault"
question_fault_text fault.Endless = codes "Endless"
question_fault_text fault.NoMemory = codes "NoMemory"
question_fault_text fault.TooLarge = codes "TooLarge: expected at most 134217728 bytes"
question_fault_text fault.Header = codes "Header: expected element,direction,vehicle,moment"
question_fault_text (fault.FieldCount row) =
    codes "row " ++ decimal row ++ codes ": FieldCount: expected 4 fields, with commas between them"
question_fault_text (fault.Element row) = codes "row " ++ decimal row ++ codes ": Element: expected 1 to 10 digits"
question_fault_text (fault.Direction row) = codes "row " ++ decimal row ++ codes ": Direction: expected positive or negative"
question_fault_text (fault.Vehicle row) = codes "row " ++ decimal row ++ codes ": Vehicle: expected 1 to 99"
question_fault_text (fault.Moment row why) = codes "row " ++ decimal row ++ codes ": Moment: " ++ moment_text why
question_fault_text fault.TooManyRows = codes "row 2000001: TooManyRows: expected at most 2000000 rows"
