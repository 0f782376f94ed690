-- What a plan did, from what its parts did.
use Rattle.std.proofs.Common.{◌≡◌, ◌⊎◌, ◌<◌, ◌∙◌, inl, inr, refl, sym, ap, subst, arith, ℕ, List, length, take, Bool, Option}
use Rattle.std.specs.Prelude.{Result, Ok, Err, IfErr, OnOk, zero, suc}
use Rattle.std.specs.Io.KnownBytes.{Appends, Keeps}
use Rattle.gtd_core.specs.declared.domain.Domain.{Domain}
use Rattle.gtd_records.specs.declared.fault.RecordFault.TheVariants as records
use Rattle.gtd_report.specs.Putting.{failures_after_line}
use Rattle.gtd_report.specs.Run as runs
use Rattle.gtd_report.specs.declared.fault.RunFault.{RunFault}
use Rattle.gtd_report.specs.declared.fault.RunFault.TheVariants as run
use Rattle.gtd_report.specs.declared.output.ShortPut.{ShortPut}
use Rattle.gtd_faults.specs.Run as faults
use Rattle.gtd_faults.specs.declared.list_fault.ListFault.{ListFault}
use Rattle.gtd_faults.specs.declared.list_fault.ListFault.TheVariants as list
use Rattle.gtd_hours_file.specs.Run as translated
use Rattle.gtd_hours_file.specs.Warnings.{lines_of}
use Rattle.gtd_hours_file.specs.declared.translated.Translated.{Translated}
use Rattle.gtd_hours_file.specs.declared.untranslated.Untranslated.{Untranslated}
use Rattle.gtd_hours_file.specs.declared.untranslated.Untranslated.TheVariants as hours
use Rattle.gtd_picture.specs.Domain.{HasPut}
use Rattle.gtdesk_tool.specs.declared.refusal.RunRefusal.{RunRefusal}
use Rattle.gtdesk_tool.specs.declared.refusal.RunRefusal.TheVariants as refusal
use Rattle.gtdesk_tool.specs.declared.ending.Ending.{Ending}
use Rattle.gtdesk_tool.specs.Running.{IsHoursRefusal, PutText, RanDomainPicture, failures_after_read}
use Rattle.gtdesk_tool.specs.Telling.{Telling, Told}
use Rattle.gtdesk_tool.specs.Running.{failures_after_write, listing_outcome, outcome_of, picture_outcome, records_outcome}

-- ---- a failure of a device is told by the run, and by the command

pub run_reads : (answer : Result ℕ RunFault) (n : ℕ)
    → runs.failures_after_read answer n ≡ failures_after_read (outcome_of answer) n
run_reads (Ok count) n = refl
run_reads (Err run.VehicleRange) n = refl
run_reads (Err run.YearRange) n = refl
run_reads (Err run.NoElement) n = refl
run_reads (Err (run.WriteFault m)) n = refl
run_reads (Err (run.NoMemory m)) n = refl
run_reads (Err (run.Records records.ReadFault)) n = refl
run_reads (Err (run.Records records.Endless)) n = refl
run_reads (Err (run.Records records.NoMemory)) n = refl
run_reads (Err (run.Records records.TooLarge)) n = refl
run_reads (Err (run.Records records.Header)) n = refl
run_reads (Err (run.Records (records.FieldCount row))) n = refl
run_reads (Err (run.Records (records.Element row))) n = refl
run_reads (Err (run.Records (records.Direction row))) n = refl
run_reads (Err (run.Records (records.Vehicle row))) n = refl
run_reads (Err (run.Records (records.Domain row fault))) n = refl
run_reads (Err (run.Records records.TooManyRows)) n = refl

pub run_writes : (answer : Result ℕ RunFault) (n : ℕ)
    → runs.failures_after_write answer n ≡ failures_after_write (outcome_of answer) n
run_writes (Ok count) n = refl
run_writes (Err run.VehicleRange) n = refl
run_writes (Err run.YearRange) n = refl
run_writes (Err run.NoElement) n = refl
run_writes (Err (run.WriteFault m)) n = refl
run_writes (Err (run.NoMemory m)) n = refl
run_writes (Err (run.Records records.ReadFault)) n = refl
run_writes (Err (run.Records records.Endless)) n = refl
run_writes (Err (run.Records records.NoMemory)) n = refl
run_writes (Err (run.Records records.TooLarge)) n = refl
run_writes (Err (run.Records records.Header)) n = refl
run_writes (Err (run.Records (records.FieldCount row))) n = refl
run_writes (Err (run.Records (records.Element row))) n = refl
run_writes (Err (run.Records (records.Direction row))) n = refl
run_writes (Err (run.Records (records.Vehicle row))) n = refl
run_writes (Err (run.Records (records.Domain row fault))) n = refl
run_writes (Err (run.Records records.TooManyRows)) n = refl

pub listing_reads : (answer : Result ℕ ListFault) (n : ℕ)
    → faults.failures_after_reading answer n ≡ failures_after_read (listing_outcome answer) n
listing_reads (Ok zero) n = refl
listing_reads (Ok (suc count)) n = refl
listing_reads (Err list.ReadFault) n = refl
listing_reads (Err list.Endless) n = refl
listing_reads (Err list.WriteFault) n = refl
listing_reads (Err list.NoMemory) n = refl

pub listing_writes : (answer : Result ℕ ListFault) (n : ℕ)
    → faults.failures_after_listing answer n ≡ failures_after_write (listing_outcome answer) n
listing_writes (Ok zero) n = refl
listing_writes (Ok (suc count)) n = refl
listing_writes (Err list.ReadFault) n = refl
listing_writes (Err list.Endless) n = refl
listing_writes (Err list.WriteFault) n = refl
listing_writes (Err list.NoMemory) n = refl

pub records_reads : (answer : Result Translated Untranslated) (n : ℕ)
    → translated.failures_after_reading answer n ≡ failures_after_read (records_outcome (lines_of answer)) n
records_reads (Ok done) n = refl
records_reads (Err (hours.Faults text)) n = refl
records_reads (Err hours.ReadFault) n = refl
records_reads (Err hours.Endless) n = refl
records_reads (Err (hours.WriteFault m)) n = refl
records_reads (Err (hours.NoMemory m)) n = refl

pub records_writes : (answer : Result Translated Untranslated) (n : ℕ)
    → translated.failures_after_putting answer n ≡ failures_after_write (records_outcome (lines_of answer)) n
records_writes (Ok done) n = refl
records_writes (Err (hours.Faults text)) n = refl
records_writes (Err hours.ReadFault) n = refl
records_writes (Err hours.Endless) n = refl
records_writes (Err (hours.WriteFault m)) n = refl
records_writes (Err (hours.NoMemory m)) n = refl

-- the count that a run tells is the count that the command tells
pub picture_reads : (answer : Result ℕ RunFault) (n : ℕ)
    → runs.failures_after_read answer n ≡ failures_after_read (picture_outcome answer) n
picture_reads (Ok zero) n = refl
picture_reads (Ok (suc count)) n = refl
picture_reads (Err why) n = run_reads (Err why) n

pub picture_writes : (answer : Result ℕ RunFault) (n : ℕ)
    → runs.failures_after_write answer n ≡ failures_after_write (picture_outcome answer) n
picture_writes (Ok zero) n = refl
picture_writes (Ok (suc count)) n = refl
picture_writes (Err why) n = run_writes (Err why) n

pub handed_on : (count : Result Ending RunRefusal → ℕ → ℕ) (result outcome : Result Ending RunRefusal) (after told before : ℕ)
    → after ≡ told → told ≡ count outcome before → result ≡ outcome → after ≡ count result before
handed_on count result outcome after told before failed same is =
    failed ∙ same ∙ ap (λ (r : Result Ending RunRefusal). count r before) (sym is)

-- ---- the output for errors

pub told_of : (errors : Telling) (text : List ℕ) (put : Result (Unit {0}) ShortPut)
    → OnOk put (Appends errors.before errors.after text)
    → IfErr put (λ short. (short.taken < length text) × Appends errors.before errors.after (take short.taken text))
    → errors.failed_after ≡ failures_after_line put errors.failed_before → Told errors text
told_of errors text (Ok done) all some failed = inl (all, failed)
told_of errors text (Err short) all some failed =
    let less : short.taken < length text = some.0 in
    inr ((short.taken, omega arith, some.1), failed)

-- ---- a text that is made before it is put

module _ (P : List ℕ → Type 0) (C : RunRefusal → Type 0) (text : List ℕ) (old new : Option (List ℕ)) (ended : Bool) where
  as_part : (r : RunRefusal) → P text
      → ((r ≡ refusal.Write) × ((t : List ℕ) × (t ≡ text) × faults.TookSome old new t)) ⊎ (⊥ × Keeps old new)
      → ((r ≡ refusal.Write) × ((t : List ℕ) × P t × faults.TookSome old new t)) ⊎ (C r × Keeps old new)
  as_part r is (inl part) = inl (part.0, (part.1.0, subst P (sym part.1.1) is, part.1.2))
  as_part r is (inr none) = absurd none.0

  -- the text is of this kind
  pub put_as : (result : Result Ending RunRefusal) → P text → PutText (λ t. t ≡ text) (λ r. ⊥) old new ended result
      → PutText P C old new ended result
  put_as (Ok e) is put = record {
    whole = (put.whole.0, (put.whole.1.0, subst P (sym put.whole.1.1) is, put.whole.1.2), put.whole.2);
    refused = tt;
  }
  put_as (Err r) is put = record { whole = tt; refused = as_part r is put.refused }

-- ---- a refusal before anything is put

-- no failure of a device is told by this refusal
abbrev pub TellsNone : ℕ → RunRefusal → Type 0
TellsNone n r = (n ≡ failures_after_read (Err r) n) × (n ≡ failures_after_write (Err r) n)

pub of_memory : (n : ℕ) (r : RunRefusal) → r ≡ refusal.Memory → TellsNone n r
of_memory n r is = subst (λ (x : RunRefusal). TellsNone n x) (sym is) (refl, refl)

pub of_hours : (n : ℕ) (r : RunRefusal) → IsHoursRefusal r → TellsNone n r
of_hours n r (inl is) = subst (λ (x : RunRefusal). TellsNone n x) (sym is) (refl, refl)
of_hours n r (inr is) = of_memory n r is

pub of_none : (n : ℕ) (r : RunRefusal) → ⊥ → TellsNone n r
of_none n r none = absurd none

-- ---- what reads no file

module _ (P : List ℕ → Type 0) (C : RunRefusal → Type 0) (old new : Option (List ℕ)) (ended : Bool) (n : ℕ)
    (cause : (r : RunRefusal) → C r → TellsNone n r) where
  unread_part : (r : RunRefusal)
      → ((r ≡ refusal.Write) × ((t : List ℕ) × P t × faults.TookSome old new t)) ⊎ (C r × Keeps old new)
      → n ≡ failures_after_read (Err r) n
  unread_part r (inl part) = sym (ap (λ (x : RunRefusal). failures_after_read (Err x) n) part.0)
  unread_part r (inr is) = (cause r is.0).0

  pub unread_text : (result : Result Ending RunRefusal) → PutText P C old new ended result → n ≡ failures_after_read result n
  unread_text (Ok e) put = refl
  unread_text (Err r) put = unread_part r put.refused

unread_run : (Lines : List (List ℕ) → Type 0) (old new : Option (List ℕ)) (answer : Result ℕ RunFault) (n : ℕ)
    → HasPut Lines old new answer → n ≡ failures_after_read (picture_outcome answer) n
unread_run Lines old new (Ok zero) n put = refl
unread_run Lines old new (Ok (suc count)) n put = refl
unread_run Lines old new (Err run.VehicleRange) n put = refl
unread_run Lines old new (Err run.YearRange) n put = refl
unread_run Lines old new (Err run.NoElement) n put = refl
unread_run Lines old new (Err (run.WriteFault m)) n put = refl
unread_run Lines old new (Err (run.NoMemory m)) n put = refl
unread_run Lines old new (Err (run.Records why)) n put = absurd put

pub unread_picture : (domain : Domain) (title : List ℕ) (year : ℕ) (old new : Option (List ℕ)) (ended : Bool)
    (result : Result Ending RunRefusal) (n : ℕ) → RanDomainPicture domain title year old new ended result
    → n ≡ failures_after_read result n
unread_picture domain title year old new ended result n ran =
    unread_run _ old new ran.answer n ran.stands
    ∙ ap (λ (x : Result Ending RunRefusal). failures_after_read x n) (sym ran.outcome)
