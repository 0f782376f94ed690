-- Why a command line is refused, the status of each refusal and its line.
use Rattle.std.specs.Prelude.{◌≡◌, ◌≢◌, ◌⊎◌, ◌++◌, ℕ, ℤ, List, [], ◌∷◌, Option, Some, None, Ok, Err, codes, decimal}
use Rattle.gtd_core.specs.Names.{fault_name, horizon_fault_name}
use Rattle.gtd_core.specs.Horizons.{IsHorizonFault}
use Rattle.gtd_core.specs.declared.fault.Fault.TheVariants.{NoMemory}
use Rattle.gtd_core.specs.declared.fault.TextFault.{TextFault}
use Rattle.gtd_core.specs.declared.horizon.HorizonFault.{HorizonFault}
use Rattle.gtd_core.specs.declared.second.Sec.{Sec}
use Rattle.gtd_text.specs.Reading.{IsFault}
use Rattle.gtd_core.specs.Seconds.{day_of_second}
use Rattle.gtd_calendar.specs.Names.{stamp_fault_name}
use Rattle.gtd_calendar.specs.Read.{date_in, stamp_in}
use Rattle.gtd_calendar.specs.declared.stamp.StampFault.{StampFault}
use Rattle.gtd_roads.specs.Columns.{direction_of, number_of}
use Rattle.gtd_roads.specs.RecordFaultNames.{record_fault_name}
use Rattle.gtd_roads.specs.RecordFault.{RecordFault}
use Rattle.gtd_roads.specs.RecordFault.TheVariants as records
use Rattle.gtd_tool.specs.CommandLines.{reading_in}
use Rattle.gtd_tool.specs.Readings.{Part, NumberPart, NumberUpToPart, DirectionPart, DomainPart, MomentPart, DatePart}
use Rattle.gtd_tool.specs.Readings.{HorizonPart, DaysPart, Reading}
use Rattle.gtd_tool.specs.Asked.{Text}
use Rattle.gtd_tool.specs.declared.refusal.Refusal.{Refusal}
use Rattle.gtd_tool.specs.declared.refusal.Refusal.TheVariants as refusal

-- The days from one up to another are not a horizon, and this is why.
abbrev pub AreNoHorizon : ℤ → ℤ → Refusal → Type 0
AreNoHorizon from to r = (fault : HorizonFault) × IsHorizonFault fault from to × (r ≡ refusal.Horizon fault)

-- The days from that of the moment up to this one are not a horizon, and this is why.
abbrev pub IsNoHorizon : Sec → ℤ → Refusal → Type 0
IsNoHorizon moment to r = AreNoHorizon (day_of_second moment.0) to r

-- The refusal for the fault of a part.
abbrev pub IsFaultOf : Part → Refusal → Type 0
IsFaultOf (NumberPart text) r = (number_of text ≡ None) × (r ≡ refusal.Usage)
IsFaultOf (NumberUpToPart limit text) r = (number_of text ≡ None) × (r ≡ refusal.Usage)
IsFaultOf (DirectionPart text) r = (direction_of text ≡ None) × (r ≡ refusal.Usage)
IsFaultOf (DomainPart text) r = (fault : TextFault) × IsFault text fault × (r ≡ refusal.Text fault)
IsFaultOf (MomentPart text) r = (fault : StampFault) × (stamp_in text ≡ Err fault) × (r ≡ refusal.Moment fault)
IsFaultOf (DatePart text) r = (fault : StampFault) × (date_in text ≡ Err fault) × (r ≡ refusal.Date fault)
IsFaultOf (HorizonPart first second) r =
    (moment : Sec) × (to : ℤ) × (stamp_in first ≡ Ok moment) × (date_in second ≡ Ok to) × IsNoHorizon moment to r
IsFaultOf (DaysPart first second) r =
    (from : ℤ) × (to : ℤ) × (date_in first ≡ Ok from) × (date_in second ≡ Ok to) × AreNoHorizon from to r

-- The part has no fault.
abbrev pub IsFaultless : Part → Type 0
IsFaultless part = (r : Refusal) → IsFaultOf part r → ⊥

-- The refusal for the first fault of the parts.
abbrev pub IsFirstRefusal : List Part → Refusal → Type 0
IsFirstRefusal [] r = ⊥
IsFirstRefusal (part ∷ rest) r = IsFaultOf part r ⊎ (IsFaultless part × IsFirstRefusal rest r)

-- The first refusal of a command by its reading: usage if there is none.
abbrev pub IsRefused : Option Reading → Refusal → Type 0
IsRefused None r = r ≡ refusal.Usage
IsRefused (Some reading) r = IsFirstRefusal reading.parts r

-- The first refusal of a command line, other than for refused memory: whether the words give a command comes before
-- what its words say.
abbrev pub IsRefusalOf : List Text → Refusal → Type 0
IsRefusalOf words r = IsRefused (reading_in words) r

-- The refusal is not for a text whose fault would be refused memory.
abbrev pub IsNoWant : Refusal → Type 0
IsNoWant r = (fault : TextFault) → r ≡ refusal.Text fault → fault.kind ≢ NoMemory

-- Memory was refused, or this is the refusal for the first fault of the parts.
abbrev pub IsStopped : List Part → Refusal → Type 0
IsStopped parts r = (r ≡ refusal.Memory) ⊎ (IsFirstRefusal parts r × IsNoWant r)

-- Memory was refused, or this is the first refusal of a command by its reading.
abbrev pub IsStoppedBy : Option Reading → Refusal → Type 0
IsStoppedBy reading r = (r ≡ refusal.Memory) ⊎ (IsRefused reading r × IsNoWant r)

-- The status for a record file that is not read: 1 for a fault of the file, 3 if the input or memory failed.
abbrev pub records_status : RecordFault → ℕ
records_status records.ReadFault = 3
records_status records.Endless = 3
records_status records.NoMemory = 3
records_status fault = 1

-- The exit status: 1 if the input is refused, 2 for usage, 3 if opening, reading, writing or memory failed.
abbrev pub status_of : Refusal → ℕ
status_of refusal.Usage = 2
status_of (refusal.Text fault) = 1
status_of (refusal.Moment fault) = 1
status_of (refusal.Date fault) = 1
status_of (refusal.Horizon fault) = 1
status_of refusal.HasYear = 1
status_of refusal.VehicleRange = 1
status_of refusal.YearRange = 1
status_of refusal.NoElement = 1
status_of (refusal.Records fault) = records_status fault
status_of refusal.Open = 3
status_of refusal.Write = 3
status_of refusal.Memory = 3

-- The fault of a record file as its line names it: a fault of a row by the number of the row and its name. The first row
-- too many has the number 65,537.
abbrev pub records_words : RecordFault → List ℕ
records_words (records.FieldCount row) = codes "row " ++ decimal row ++ codes " FieldCount"
records_words (records.Element row) = codes "row " ++ decimal row ++ codes " Element"
records_words (records.Direction row) = codes "row " ++ decimal row ++ codes " Direction"
records_words (records.Vehicle row) = codes "row " ++ decimal row ++ codes " Vehicle"
records_words (records.Domain row fault) =
    codes "row " ++ decimal row ++ codes " Domain " ++ fault_name fault.kind ++ codes " at " ++ decimal fault.place
records_words records.TooManyRows = codes "row 65537 TooManyRows"
records_words fault = record_fault_name fault

-- The line for standard error, with its line end.
abbrev pub refusal_line : Refusal → List ℕ
refusal_line refusal.Usage = codes "usage: gtd COMMAND ARGUMENTS\n"
refusal_line (refusal.Text fault) =
    codes "fault " ++ fault_name fault.kind ++ codes " at " ++ decimal fault.place ++ codes "\n"
refusal_line (refusal.Moment fault) = codes "fault moment " ++ stamp_fault_name fault ++ codes "\n"
refusal_line (refusal.Date fault) = codes "fault date " ++ stamp_fault_name fault ++ codes "\n"
refusal_line (refusal.Horizon fault) = codes "fault horizon " ++ horizon_fault_name fault ++ codes "\n"
refusal_line refusal.HasYear = codes "fault HasYear\n"
refusal_line refusal.VehicleRange = codes "fault VehicleRange\n"
refusal_line refusal.YearRange = codes "fault YearRange\n"
refusal_line refusal.NoElement = codes "fault NoElement\n"
refusal_line (refusal.Records fault) = codes "fault " ++ records_words fault ++ codes "\n"
refusal_line refusal.Open = codes "fault Open\n"
refusal_line refusal.Write = codes "fault WriteFault\n"
refusal_line refusal.Memory = codes "fault NoMemory\n"
