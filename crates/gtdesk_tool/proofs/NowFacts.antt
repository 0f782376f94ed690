-- What the command `now` did, from what its run did.
use Rattle.std.proofs.Common.{◌≡◌, refl, ℕ, Bool, List, Option}
use Rattle.std.proofs.KnownBytes.{Keeps-refl}
use Rattle.std.specs.Prelude.{Result, Ok, Err}
use Rattle.gtd_now.specs.Query.{Query}
use Rattle.gtd_now.specs.Run.{entries_of}
use Rattle.gtd_now.specs.declared.shown.Shown.{Shown}
use Rattle.gtd_records.specs.declared.fault.RecordFault.TheVariants as records
use Rattle.gtd_report.specs.Run as runs
use Rattle.gtd_report.specs.Run.{IsVehicleType}
use Rattle.gtd_report.specs.declared.fault.RunFault.{RunFault}
use Rattle.gtd_report.specs.declared.fault.RunFault.TheVariants as run
use Rattle.gtdesk_tool.specs.Running.{RanNow, failures_after_read, failures_after_write, outcome_of, refusal_for}
use Rattle.gtdesk_tool.specs.Telling.{telling}
use Rattle.gtdesk_tool.specs.declared.ending.Ending.{Ending}
use Rattle.gtdesk_tool.specs.declared.refusal.RunRefusal.{RunRefusal}
use Rattle.gtdesk_tool.specs.declared.refusal.RunRefusal.TheVariants as refusal

-- ---- a failure of a device is told by the run, and by the command

pub now_reads : (answer : Result Shown RunFault) (n : ℕ)
    → runs.failures_after_read answer n ≡ failures_after_read (outcome_of (entries_of answer)) n
now_reads (Ok shown) n = refl
now_reads (Err run.VehicleRange) n = refl
now_reads (Err run.YearRange) n = refl
now_reads (Err run.NoElement) n = refl
now_reads (Err (run.WriteFault m)) n = refl
now_reads (Err (run.NoMemory m)) n = refl
now_reads (Err (run.Records records.ReadFault)) n = refl
now_reads (Err (run.Records records.Endless)) n = refl
now_reads (Err (run.Records records.NoMemory)) n = refl
now_reads (Err (run.Records records.TooLarge)) n = refl
now_reads (Err (run.Records records.Header)) n = refl
now_reads (Err (run.Records (records.FieldCount row))) n = refl
now_reads (Err (run.Records (records.Element row))) n = refl
now_reads (Err (run.Records (records.Direction row))) n = refl
now_reads (Err (run.Records (records.Vehicle row))) n = refl
now_reads (Err (run.Records (records.Domain row fault))) n = refl
now_reads (Err (run.Records records.TooManyRows)) n = refl

pub now_writes : (answer : Result Shown RunFault) (n : ℕ)
    → runs.failures_after_write answer n ≡ failures_after_write (outcome_of (entries_of answer)) n
now_writes (Ok shown) n = refl
now_writes (Err run.VehicleRange) n = refl
now_writes (Err run.YearRange) n = refl
now_writes (Err run.NoElement) n = refl
now_writes (Err (run.WriteFault m)) n = refl
now_writes (Err (run.NoMemory m)) n = refl
now_writes (Err (run.Records records.ReadFault)) n = refl
now_writes (Err (run.Records records.Endless)) n = refl
now_writes (Err (run.Records records.NoMemory)) n = refl
now_writes (Err (run.Records records.TooLarge)) n = refl
now_writes (Err (run.Records records.Header)) n = refl
now_writes (Err (run.Records (records.FieldCount row))) n = refl
now_writes (Err (run.Records (records.Element row))) n = refl
now_writes (Err (run.Records (records.Direction row))) n = refl
now_writes (Err (run.Records (records.Vehicle row))) n = refl
now_writes (Err (run.Records (records.Domain row fault))) n = refl
now_writes (Err (run.Records records.TooManyRows)) n = refl

-- ---- a refusal before the file is read

module _ (query : Query) (path : List ℕ) (file taken : Option (List ℕ)) (silent ended : Bool)
    (told : Option (List ℕ)) (failed : ℕ)
    (result : Result Ending RunRefusal) where
  pub not_vehicle : (IsVehicleType query.vehicle → ⊥) → result ≡ Err (refusal_for run.VehicleRange)
      → RanNow query path file taken taken silent ended (telling told told failed failed) result
  not_vehicle never is = record {
    answer = Err run.VehicleRange;
    outcome = is;
    accepted = λ type. absurd (never type);
    refused = λ type. absurd (never type);
    stands = Keeps-refl taken;
    vehicle_known = tt;
    noted = (Keeps-refl told, refl);
    whole = tt;
    vehicle_range = ((λ e. never), (λ none. refl));
    year = λ e. absurd cc;
    element = λ e. absurd cc;
    endless = λ e. absurd cc;
  }

  pub no_memory : IsVehicleType query.vehicle → result ≡ Err refusal.Memory
      → RanNow query path file taken taken silent ended (telling told told failed failed) result
  no_memory type is = record {
    answer = Err (run.Records records.NoMemory);
    outcome = is;
    accepted = λ asked read wrote had. absurd had;
    refused = λ asked read wrote had. absurd had;
    stands = (Keeps-refl taken, (λ free. absurd free));
    vehicle_known = tt;
    noted = (Keeps-refl told, refl);
    whole = tt;
    vehicle_range = ((λ e. absurd cc), (λ never. absurd (never type)));
    year = λ e. absurd cc;
    element = λ e. absurd cc;
    endless = λ e. absurd cc;
  }
