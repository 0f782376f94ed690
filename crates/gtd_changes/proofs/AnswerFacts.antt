-- What holds of the answer of a run over two files, by that of the run over the new one.
use Rattle.std.proofs.Common.{◌≡◌, ap, refl, subst, ℕ, List, Option, Some, None, Bool}
use Rattle.std.specs.Prelude.{IfSome, IsErrOf, IsTrue, OnOk, Result, Ok, Err, ⊤}
use Rattle.std.proofs.KnownBytes.{Keeps-refl}
use Rattle.gtd_core.specs.declared.horizon.Horizon.{Horizon}
use Rattle.gtd_records.specs.File.{IsFile, IsOfFile}
use Rattle.gtd_records.specs.Closing.{Restriction}
use Rattle.gtd_records.specs.Reading.{failures_after_records}
use Rattle.gtd_records.specs.declared.fault.RecordFault.{RecordFault}
use Rattle.gtd_records.specs.declared.fault.RecordFault.TheVariants as records
use Rattle.gtd_records.specs.facts.OneAnswer.{one_file}
use Rattle.gtd_report.specs.Run.{AcceptedFilesArePut, HasRun, PutsWhole, RefusedFilesPutNothing}
use Rattle.gtd_report.specs.Run as report
use Rattle.gtd_report.specs.declared.fault.RunFault.{RunFault}
use Rattle.gtd_report.specs.declared.fault.RunFault.TheVariants as run
use Rattle.gtd_report.specs.facts.RunFacts.{apart, risen, same_found}
use Rattle.gtd_changes.specs.Forms.{IsTextIn}
use Rattle.gtd_changes.specs.declared.form.Form.{Form}
use Rattle.gtd_changes.specs.Run.{HadMemoryAndInput, HasComparedIn, HasRunAfter, HeadlineIn, KeepsRefused, PutsChanges, answer_for}
use Rattle.gtd_changes.specs.Run.{failures_after_new, failures_after_old, failures_after_write}
use Rattle.gtd_changes.specs.declared.fault.ChangesFault.TheVariants as fault

had_run : (r : Result ℕ RunFault) → HadMemoryAndInput (answer_for r) → report.HadMemoryAndInput r
had_run (Ok count) had = tt
had_run (Err why) had = had

-- a fault of the old file for which no device failed, and for which there was memory and input, is of the file
of_file : (T : Type 0) (why : RecordFault) (n : ℕ) → failures_after_records {T = T} (Err why) n ≡ n
    → HadMemoryAndInput (Err (fault.Old why)) → IsOfFile why
of_file T records.ReadFault n read had = absurd (risen n read)
of_file T records.Endless n read had = absurd had
of_file T records.NoMemory n read had = absurd had
of_file T records.TooLarge n read had = tt
of_file T records.Header n read had = tt
of_file T (records.FieldCount row) n read had = tt
of_file T (records.Element row) n read had = tt
of_file T (records.Direction row) n read had = tt
of_file T (records.Vehicle row) n read had = tt
of_file T (records.Domain row why) n read had = tt
of_file T records.TooManyRows n read had = tt

module _ (form : Form) (vehicle : ℕ) (horizon : Horizon) (was : List Restriction) where
  abbrev IsText : List Restriction → List (List ℕ) → Type 0
  IsText found lines = IsTextIn form was found vehicle horizon lines

  whole : (found : List Restriction) (before after : Option (List ℕ)) (r : Result ℕ RunFault)
      → PutsWhole (IsText found) before after r
      → PutsChanges form vehicle horizon was found before after (answer_for r)
  whole found before after r puts =
      record { lines = puts.lines; is_text = puts.is_text; taken = puts.taken; count = ap answer_for puts.count }

  -- the headline, of an old file that is read
  pub headline_run : (old new before after : Option (List ℕ)) (r : Result ℕ RunFault)
      → IfSome old (λ bytes. IsFile bytes (Ok was))
      → AcceptedFilesArePut (λ found. ⊤) IsText new before after r → RefusedFilesPutNothing new before after r
      → HeadlineIn form vehicle horizon old new before after (answer_for r)
  headline_run None new before after r file accepted refused = tt
  headline_run (Some a) None before after r file accepted refused = tt
  headline_run (Some a) (Some b) before after r file accepted refused = record {
    accepted = λ had other found fa fb.
        subst (λ (x : List Restriction). PutsChanges form vehicle horizon x found before after (answer_for r))
        (same_found a was other file fa) (whole found before after r (accepted (had_run r had) found fb tt));
    old_refused = λ had why fa. absurd (apart a was why file fa);
    new_refused = λ had other why fa fb.
        let x = refused (had_run r had) why fb in (ap answer_for x.0, x.1);
  }

  after_run : (old new before after : Option (List ℕ)) (r : Result ℕ RunFault) → IfSome old (λ bytes. IsFile bytes (Ok was))
      → HasRun (λ found. ⊤) IsText new before after r
      → IfSome old (λ bytes. HasRunAfter form vehicle horizon bytes new before after r)
  after_run None new before after r file ran = tt
  after_run (Some a) new before after r file ran = record { was = was; file = file; ran = ran }

  -- what the output took
  pub compared_run : (old new before after : Option (List ℕ)) (r : Result ℕ RunFault)
      → IfSome old (λ bytes. IsFile bytes (Ok was)) → HasRun (λ found. ⊤) IsText new before after r
      → HasComparedIn form vehicle horizon old new before after (answer_for r)
  compared_run old new before after (Ok count) file ran = after_run old new before after (Ok count) file ran
  compared_run old new before after (Err run.VehicleRange) file ran = ran
  compared_run old new before after (Err run.YearRange) file ran = after_run old new before after (Err run.YearRange) file ran
  compared_run old new before after (Err (run.Records why)) file ran =
      after_run old new before after (Err (run.Records why)) file ran
  compared_run old new before after (Err run.NoElement) file ran = after_run old new before after (Err run.NoElement) file ran
  compared_run old new before after (Err (run.WriteFault n)) file ran =
      after_run old new before after (Err (run.WriteFault n)) file ran
  compared_run old new before after (Err (run.NoMemory n)) file ran =
      after_run old new before after (Err (run.NoMemory n)) file ran

  -- nothing is put for a vehicle type or a new file that is refused
  pub kept_run : (new before after : Option (List ℕ)) (r : Result ℕ RunFault) → HasRun (λ found. ⊤) IsText new before after r
      → KeepsRefused before after (answer_for r)
  kept_run new before after (Ok count) ran = tt
  kept_run new before after (Err run.VehicleRange) ran = ran
  kept_run new before after (Err run.YearRange) ran = tt
  kept_run new before after (Err (run.Records why)) ran = ran.0
  kept_run new before after (Err run.NoElement) ran = tt
  kept_run new before after (Err (run.WriteFault n)) ran = tt
  kept_run new before after (Err (run.NoMemory n)) ran = tt

-- the headline, of an old file that is not read
pub headline_old : (T : Type 0) (form : Form) (vehicle : ℕ) (horizon : Horizon) (old new taken : Option (List ℕ))
    (why : RecordFault) (n : ℕ) → failures_after_records {T = T} (Err why) n ≡ n
    → IfSome old (λ bytes. IsOfFile why → IsFile bytes (Err why))
    → HeadlineIn form vehicle horizon old new taken taken (Err (fault.Old why))
headline_old T form vehicle horizon None new taken why n read file = tt
headline_old T form vehicle horizon (Some a) None taken why n read file = tt
headline_old T form vehicle horizon (Some a) (Some b) taken why n read file = record {
  accepted = λ had was found fa fb. absurd (apart a was why fa (file (of_file T why n read had)));
  old_refused = λ had other fa. (
    ap (λ (w : RecordFault). Err (fault.Old w))
        (same_fault why other (one_file a (Err why) (Err other) (file (of_file T why n read had)) fa)),
    Keeps-refl taken,
  );
  new_refused = λ had was other fa fb. absurd (apart a was why fa (file (of_file T why n read had)));
}
  where
    same_fault : (x y : RecordFault) → ◌≡◌ {A = Result (List Restriction) RecordFault} (Err x) (Err y) → x ≡ y
    same_fault x y e = cc

pub compared_old : (form : Form) (vehicle : ℕ) (horizon : Horizon) (old new taken : Option (List ℕ)) (why : RecordFault)
    → IfSome old (λ bytes. IsOfFile why → IsFile bytes (Err why))
    → HasComparedIn form vehicle horizon old new taken taken (Err (fault.Old why))
compared_old form vehicle horizon None new taken why file = (Keeps-refl taken, λ free. tt)
compared_old form vehicle horizon (Some a) new taken why file = (Keeps-refl taken, file)

-- ---- the answer

pub is_err : (r : Result ℕ RunFault) (why : RunFault) → IsErrOf (answer_for r) (fault.Run why) → IsErrOf r why
is_err (Ok count) why e = cc
is_err (Err other) why e = cc

pub err_of : (r : Result ℕ RunFault) (why : RunFault) → IsErrOf r why → IsErrOf (answer_for r) (fault.Run why)
err_of (Ok count) why e = cc
err_of (Err other) why e = cc

pub not_old : (r : Result ℕ RunFault) (why : RecordFault) → IsErrOf (answer_for r) (fault.Old why) → ⊥
not_old (Ok count) why e = cc
not_old (Err other) why e = cc

pub ended_run : (r : Result ℕ RunFault) (ended : Bool) → OnOk r (IsTrue ended) → OnOk (answer_for r) (IsTrue ended)
ended_run (Ok count) ended h = h
ended_run (Err why) ended h = tt

pub old_run : (r : Result ℕ RunFault) (n : ℕ) → failures_after_old (answer_for r) n ≡ n
old_run (Ok count) n = refl
old_run (Err why) n = refl

pub new_run : (r : Result ℕ RunFault) (n : ℕ) → failures_after_new (answer_for r) n ≡ report.failures_after_read r n
new_run (Ok count) n = refl
new_run (Err why) n = refl

pub write_run : (r : Result ℕ RunFault) (n : ℕ) → failures_after_write (answer_for r) n ≡ report.failures_after_write r n
write_run (Ok count) n = refl
write_run (Err why) n = refl
