-- What a plan prints, and how it ends.
use Rattle.std.specs.Prelude.{◌≡◌, ◌≢◌, ◌↔◌, ◌⊎◌, ⊤, ℕ, ◌+◌, zero, suc, Bool, List, Option, None, Result, Ok}
use Rattle.std.specs.Prelude.{Err, IsErrOf, IsTrue, Any, IfErr, IfOk, IfSome, OnOk, string_bytes, if◌then◌else◌}
use Rattle.std.specs.Io.KnownBytes.{Appends, Keeps}
use Rattle.gtd_core.specs.Parts.{domain_tree}
use Rattle.gtd_words.specs.Words.{words_in}
use Rattle.gtd_records.specs.declared.fault.RecordFault.TheVariants as records
use Rattle.gtd_core.specs.declared.domain.Domain.{Domain}
use Rattle.gtd_records.specs.Closing.{Restriction}
use Rattle.gtd_report.specs.Run.{AcceptedFilesArePut, CountsNone, HasRun, IsTableYear, IsVehicleType}
use Rattle.gtd_report.specs.Run.{RefusedFilesPutNothing, UnacceptedFilesPutNothing}
use Rattle.gtd_report.specs.Run as report
use Rattle.gtd_picture.specs.Domain.{HasPut, IsDomainSeen}
use Rattle.gtd_picture.specs.Open.{IsOpenSeen}
use Rattle.gtdesk_tool.specs.Hours.{IsHoursLine}
use Rattle.gtdesk_tool.specs.TextHours.{RanHoursPlan, manner_in}
use Rattle.gtdesk_tool.specs.MendedHours.{IsMendedLine, IsUnmended}
use Rattle.gtdesk_tool.specs.Mended.{RanMended}
use Rattle.gtdesk_tool.specs.Noted.{IsNoted, vehicle_note}
use Rattle.gtdesk_tool.specs.Telling.{IsUntold, Telling, Told, ToldIfSome}
use Rattle.gtd_warnings.specs.declared.file.Asked.{Asked}
use Rattle.gtdesk_tool.specs.Comparing.{HasCompared}
use Rattle.gtdesk_plans.specs.declared.commands.picture.PictureSubject.{PictureSubject}
use Rattle.gtdesk_words.specs.declared.refusal.Reason.TheVariants as reason
use Rattle.gtdesk_words.specs.declared.refusal.WordName.TheVariants as name
use Rattle.gtd_report.specs.declared.fault.RunFault.{RunFault}
use Rattle.gtd_report.specs.declared.fault.RunFault.TheVariants as run
use Rattle.gtd_faults.specs.declared.list_fault.ListFault.{ListFault}
use Rattle.gtd_faults.specs.declared.list_fault.ListFault.TheVariants as list
use Rattle.gtd_faults.specs.Run.{HasListed, TookSome}
use Rattle.gtd_hours_options.specs.Readings.{HowRead}
use Rattle.gtd_hours_file.specs.Run.{HasTranslated}
use Rattle.gtd_hours_file.specs.Warnings.{IsWarned, lines_of}
use Rattle.gtd_hours_file.specs.declared.translated.Translated.{Translated}
use Rattle.gtd_hours_file.specs.declared.untranslated.Untranslated.{Untranslated}
use Rattle.gtd_hours_file.specs.declared.untranslated.Untranslated.TheVariants as hours
use Rattle.gtd_hours_options.specs.declared.options.Options.{Options}
use Rattle.gtd_now.specs.Now.{IsNowOf}
use Rattle.gtd_now.specs.Query.{Query}
use Rattle.gtd_now.specs.Run.{TellsVehicle, entries_of}
use Rattle.gtd_now.specs.declared.shown.Shown.{Shown}
use Rattle.gtd_now.specs.declared.asked.Form.{Form}
use Rattle.gtd_now.specs.declared.asked.Form.TheVariants as form
use Rattle.gtd_repeats.specs.Run as repeats
use Rattle.gtdesk_tool.specs.declared.ending.Ending.{Ending}
use Rattle.gtdesk_tool.specs.declared.ending.Ending.TheVariants as ending
use Rattle.gtdesk_plans.specs.declared.commands.now.NowView.{NowView}
use Rattle.gtdesk_plans.specs.declared.plans.OnePlan.{OnePlan}
use Rattle.gtdesk_plans.specs.declared.plans.OnePlan.TheVariants as plan
use Rattle.gtdesk_tool.specs.declared.refusal.RunRefusal.{RunRefusal}
use Rattle.gtdesk_tool.specs.declared.refusal.RunRefusal.TheVariants as refusal

-- Some restriction names the element.
abbrev pub IsNamed : ℕ → List Restriction → Type 0
IsNamed element found = Any (λ (r : Restriction). r.element ≡ element) found

-- The refusal for a fault of a run.
abbrev pub refusal_for : RunFault → RunRefusal
refusal_for (run.Records records.NoMemory) = refusal.Memory
refusal_for (run.Records why) = refusal.Records why
refusal_for (run.WriteFault written) = refusal.Write
refusal_for (run.NoMemory written) = refusal.Memory
refusal_for run.VehicleRange = refusal.Word (record { word = name.Vehicle; why = reason.Vehicle })
refusal_for run.YearRange = refusal.Word (record { word = name.Year; why = reason.Year })
refusal_for run.NoElement = refusal.NoElement

-- The answer of a command, from that of its run.
abbrev pub outcome_of : Result ℕ RunFault → Result Ending RunRefusal
outcome_of (Ok count) = Ok ending.Done
outcome_of (Err why) = Err (refusal_for why)

-- The form in which the state is printed.
abbrev pub form_of : NowView → Form
form_of view = if view.json then form.Json else if view.table then form.Table else form.Lines

-- The run of `now` had an answer, and all that the run promises for this answer holds.
pub record RanNow (query : Query) (path : List ℕ) (file old new : Option (List ℕ)) (silent ended : Bool) (errors : Telling)
    (result : Result Ending RunRefusal) : Type 0 where
  pub answer : Result Shown RunFault
  pub outcome : result ≡ outcome_of (entries_of answer)
  pub accepted : IsVehicleType query.vehicle
      → CountsNone (report.failures_after_read answer) → CountsNone (report.failures_after_write answer)
      → AcceptedFilesArePut (λ found. ⊤) (λ found. IsNowOf file found query) file old new (entries_of answer)
  pub refused : IsVehicleType query.vehicle
      → CountsNone (report.failures_after_read answer) → CountsNone (report.failures_after_write answer)
      → RefusedFilesPutNothing file old new (entries_of answer)
  pub stands : HasRun (λ found. ⊤) (λ found. IsNowOf file found query) file old new (entries_of answer)
  pub vehicle_known : TellsVehicle query.vehicle file answer
  pub noted : IsNoted (vehicle_note path query.vehicle) errors answer
  pub whole : OnOk answer (IsTrue ended)
  pub vehicle_range : IsErrOf answer run.VehicleRange ↔ (IsVehicleType query.vehicle → ⊥)
  pub year : IsErrOf answer run.YearRange → ⊥
  pub element : IsErrOf answer run.NoElement → ⊥
  pub endless : IsErrOf answer (run.Records records.Endless) → IsTrue silent

-- The answer of a command for pictures, from that of its run: no line where the picture is crowded.
abbrev pub picture_outcome : Result ℕ RunFault → Result Ending RunRefusal
picture_outcome (Ok zero) = Err refusal.Crowded
picture_outcome (Ok (suc lines)) = Ok ending.Done
picture_outcome (Err why) = Err (refusal_for why)

-- The run of `picture` had an answer, and all that the run promises for this answer holds.
pub record RanPicture (subject : PictureSubject) (title : List ℕ) (file old new : Option (List ℕ)) (silent ended : Bool)
    (result : Result Ending RunRefusal) : Type 0 where
  pub answer : Result ℕ RunFault
  pub outcome : result ≡ picture_outcome answer
  pub accepted : IsVehicleType subject.vehicle → IsTableYear subject.year
      → CountsNone (report.failures_after_read answer) → CountsNone (report.failures_after_write answer)
      → AcceptedFilesArePut (IsNamed subject.element)
      (λ found lines. IsOpenSeen found subject.element subject.direction subject.vehicle title subject.year lines)
      file old new answer
  pub refused : IsVehicleType subject.vehicle → IsTableYear subject.year
      → CountsNone (report.failures_after_read answer) → CountsNone (report.failures_after_write answer)
      → RefusedFilesPutNothing file old new answer
  pub unnamed : IsVehicleType subject.vehicle → IsTableYear subject.year
      → CountsNone (report.failures_after_read answer) → CountsNone (report.failures_after_write answer)
      → UnacceptedFilesPutNothing (IsNamed subject.element) file old new answer
  pub stands : HasRun (IsNamed subject.element)
      (λ found lines. IsOpenSeen found subject.element subject.direction subject.vehicle title subject.year lines)
      file old new answer
  pub whole : OnOk answer (IsTrue ended)
  pub vehicle_range : IsErrOf answer run.VehicleRange ↔ (IsVehicleType subject.vehicle → ⊥)
  pub year_range : IsErrOf answer run.YearRange ↔ (IsVehicleType subject.vehicle × (IsTableYear subject.year → ⊥))
  pub endless : IsErrOf answer (run.Records records.Endless) → IsTrue silent

-- The run of `picture-domain` had an answer, and all that the run promises for this answer holds.
pub record RanDomainPicture (domain : Domain) (title : List ℕ) (year : ℕ) (old new : Option (List ℕ)) (ended : Bool)
    (result : Result Ending RunRefusal) : Type 0 where
  pub answer : Result ℕ RunFault
  pub outcome : result ≡ picture_outcome answer
  pub stands : HasPut (IsDomainSeen domain title year) old new answer
  pub whole : OnOk answer (IsTrue ended)
  pub year_range : IsErrOf answer run.YearRange ↔ (IsTableYear year → ⊥)

-- The answer of a command, from that of its list of faults.
abbrev pub listing_outcome : Result ℕ ListFault → Result Ending RunRefusal
listing_outcome (Ok zero) = Ok ending.Done
listing_outcome (Ok (suc count)) = Ok ending.FaultsListed
listing_outcome (Err list.ReadFault) = Err (refusal.Records records.ReadFault)
listing_outcome (Err list.Endless) = Err (refusal.Records records.Endless)
listing_outcome (Err list.WriteFault) = Err refusal.Write
listing_outcome (Err list.NoMemory) = Err refusal.Memory

-- The run of `faults` had an answer, and all that the run promises for this answer holds.
pub record RanFaults (path : List ℕ) (asked : Option Asked) (file old new : Option (List ℕ)) (silent ended : Bool)
    (result : Result Ending RunRefusal) : Type 0 where
  pub answer : Result ℕ ListFault
  pub outcome : result ≡ listing_outcome answer
  pub listed : IfSome file (λ bytes. HasListed path asked bytes old new answer)
  pub kept : IfErr answer (λ why. why ≢ list.WriteFault → Keeps old new)
  pub whole : OnOk answer (IsTrue ended)
  pub endless : IsErrOf answer list.Endless → IsTrue silent

-- The answer of `same --file`, from that of its run: no line, or some.
abbrev pub repeats_outcome : Result ℕ RunFault → Result Ending RunRefusal
repeats_outcome (Ok zero) = Ok ending.Done
repeats_outcome (Ok (suc lines)) = Ok ending.Differ
repeats_outcome (Err why) = Err (refusal_for why)

-- The run of `same --file` had an answer, and all that the run promises for this answer holds.
pub record RanRepeats (path : List ℕ) (file old new : Option (List ℕ)) (silent ended : Bool) (result : Result Ending RunRefusal)
    : Type 0 where
  pub answer : Result ℕ RunFault
  pub outcome : result ≡ repeats_outcome answer
  pub listed : IfSome file (λ bytes. repeats.HasListed path bytes old new answer)
  pub kept : repeats.KeepsRefused old new answer
  pub vehicle : IsErrOf answer run.VehicleRange → ⊥
  pub year : IsErrOf answer run.YearRange → ⊥
  pub element : IsErrOf answer run.NoElement → ⊥
  pub whole : OnOk answer (IsTrue ended)
  pub endless : IsErrOf answer (run.Records records.Endless) → IsTrue silent

-- A text of this kind was put whole, and then the output was ended. If the output failed, it had taken a first part of such a
-- text, which may be none or all of it. Any other refusal has its cause, and nothing was put.
pub record PutText (IsText : List ℕ → Type 0) (IsCause : RunRefusal → Type 0) (old new : Option (List ℕ)) (ended : Bool)
    (result : Result Ending RunRefusal) : Type 0 where
  pub whole : IfOk result (λ e. (e ≡ ending.Done) × ((text : List ℕ) × IsText text × Appends old new text) × IsTrue ended)
  pub refused : IfErr result (λ r. ((r ≡ refusal.Write) × ((text : List ℕ) × IsText text × TookSome old new text))
      ⊎ (IsCause r × Keeps old new))

-- The refusal is of memory, or says that no hours are found.
abbrev pub IsHoursRefusal : RunRefusal → Type 0
IsHoursRefusal r = (r ≡ refusal.NoHours) ⊎ (r ≡ refusal.Memory)

-- What the output for errors took for the answer of a run that translates a file of hours: the warnings, if there are any; or the
-- list of the faults.
abbrev pub IsToldOf : Telling → Result Translated Untranslated → Type 0
IsToldOf errors (Ok done) = ToldIfSome errors done.warnings.items
IsToldOf errors (Err (hours.Faults list)) = Told errors (string_bytes list)
IsToldOf errors other = IsUntold errors

-- The answer of `records`, from that of its run.
abbrev pub records_outcome : Result ℕ Untranslated → Result Ending RunRefusal
records_outcome (Ok count) = Ok ending.Done
records_outcome (Err (hours.Faults list)) = Ok ending.FaultsListed
records_outcome (Err hours.ReadFault) = Err (refusal.Records records.ReadFault)
records_outcome (Err hours.Endless) = Err (refusal.Records records.Endless)
records_outcome (Err (hours.WriteFault written)) = Err refusal.Write
records_outcome (Err (hours.NoMemory written)) = Err refusal.Memory

-- The run of `records` of a file whose texts are read so had an answer, and all that the run promises for this answer holds.
pub record RanRecords (how : HowRead) (path : List ℕ) (file old new : Option (List ℕ)) (silent ended : Bool) (errors : Telling)
    (result : Result Ending RunRefusal) : Type 0 where
  pub answer : Result Translated Untranslated
  pub outcome : result ≡ records_outcome (lines_of answer)
  pub translated : HasTranslated how path file old new (lines_of answer)
  pub warned : IsWarned how path file answer
  pub told : IsToldOf errors answer
  pub whole : OnOk answer (IsTrue ended)
  pub endless : IsErrOf answer hours.Endless → IsTrue silent

-- The plan puts nothing to the output for errors.
abbrev pub IsQuiet : OnePlan → Type 0
IsQuiet (plan.Now p) = ⊥
IsQuiet (plan.Records p) = ⊥
IsQuiet (plan.Mend file) = ⊥
IsQuiet (plan.DomainOf p) = ⊥
IsQuiet other = ⊤

-- The plan reads no file: of a text of hours, no table of holidays is given.
abbrev pub ReadsNone : OnePlan → Type 0
ReadsNone (plan.Now p) = ⊥
ReadsNone (plan.Faults p) = ⊥
ReadsNone (plan.Picture p) = ⊥
ReadsNone (plan.SameRows files) = ⊥
ReadsNone (plan.Records p) = ⊥
ReadsNone (plan.Mend file) = ⊥
ReadsNone (plan.DomainOf p) = p.options.holidays ≡ None
ReadsNone other = ⊤

-- What a plan did to the output for the file of this path, by its answer; of a file of hours, whose texts are read with these
-- options.
abbrev pub HasRunPlan : OnePlan → Options → List ℕ → Option (List ℕ) → Option (List ℕ) → Option (List ℕ) → Bool → Bool → Telling
    → Result Ending RunRefusal → Type 0
HasRunPlan (plan.Now p) options path file old new silent ended errors result =
    RanNow (record {
      vehicle = p.view.vehicle;
      second = p.moment.second.0;
      closed = p.view.closed;
      wanted = p.view.elements.items;
      form = form_of p.view;
      why = p.view.why;
    }) path file old new silent ended errors result
HasRunPlan (plan.Faults p) options path file old new silent ended errors result =
    RanFaults path p.asked file old new silent ended result
HasRunPlan (plan.Picture p) options path file old new silent ended errors result =
    RanPicture p.subject (string_bytes p.title) file old new silent ended result
HasRunPlan (plan.DomainPicture p) options path file old new silent ended errors result =
    RanDomainPicture p.domain (string_bytes p.title) p.year old new ended result
HasRunPlan (plan.Words p) options path file old new silent ended errors result =
    PutText (λ text. text ≡ words_in p.language (domain_tree p.domain)) (λ r. r ≡ refusal.Memory) old new ended result
HasRunPlan (plan.HoursOf domain) options path file old new silent ended errors result =
    PutText (IsHoursLine domain) IsHoursRefusal old new ended result
HasRunPlan (plan.DomainOf p) options path file old new silent ended errors result =
    RanHoursPlan p path file old new silent ended errors result
HasRunPlan (plan.Same p) options path file old new silent ended errors result =
    HasCompared p.first p.second p.from.second.0 old new ended result
HasRunPlan (plan.SameRows files) options path file old new silent ended errors result =
    RanRepeats path file old new silent ended result
HasRunPlan (plan.Records p) options path file old new silent ended errors result =
    RanRecords (record { manner = manner_in p.options; options = options }) path file old new silent ended errors result
HasRunPlan (plan.Mend name) options path file old new silent ended errors result =
    RanMended path file old new silent ended errors result
HasRunPlan (plan.MendHours p) options path file old new silent ended errors result =
    PutText (IsMendedLine p.names (string_bytes p.text)) (IsUnmended p.names (string_bytes p.text)) old new ended result
HasRunPlan (plan.Show text) options path file old new silent ended errors result =
    PutText (λ t. t ≡ string_bytes text) (λ r. ⊥) old new ended result

-- one more failure of the input exactly if the refusal is that it failed
abbrev pub failures_after_read : Result Ending RunRefusal → ℕ → ℕ
failures_after_read (Err (refusal.Records records.ReadFault)) count = count + 1
failures_after_read result count = count

-- one more failure of the output exactly if the refusal is that it failed
abbrev pub failures_after_write : Result Ending RunRefusal → ℕ → ℕ
failures_after_write (Err refusal.Write) count = count + 1
failures_after_write result count = count

-- The exit status of a plan that was carried out: 1 if faults were listed, 4 if there is a difference.
abbrev pub ending_status : Ending → ℕ
ending_status ending.Done = 0
ending_status ending.FaultsListed = 1
ending_status ending.Differ = 4

-- How a plan ended for several files, from how it ended for the first of them and for those that come next: the first refusal; or
-- else the first ending that is not that nothing is to be told.
abbrev pub joined_endings : Ending → Ending → Ending
joined_endings ending.Done next = next
joined_endings first next = first

abbrev pub joined_next : Ending → Result Ending RunRefusal → Result Ending RunRefusal
joined_next first (Ok next) = Ok (joined_endings first next)
joined_next first (Err why) = Err why

abbrev pub joined : Result Ending RunRefusal → Result Ending RunRefusal → Result Ending RunRefusal
joined (Ok first) next = joined_next first next
joined (Err why) next = Err why
