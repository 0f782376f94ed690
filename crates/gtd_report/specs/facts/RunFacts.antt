-- What holds when a run has ended, and the claims that follow.
use Rattle.std.proofs.Common.{◌≡◌, ◌∙◌, ◌+◌, ap, refl, arith, subst, length, Bool, ℕ, List, Option, Some, None}
use Rattle.std.specs.Prelude.{◌≢◌, ◌↔◌, ⊤, IsTrue, OnOk, Result, Ok, Err, IfOk, IfSome}
use Rattle.std.proofs.KnownBytes.{Keeps-refl}
use Rattle.gtd_records.specs.facts.OneAnswer.{one_file}
use Rattle.gtd_records.specs.File.{IsFile, IsOfFile}
use Rattle.gtd_records.specs.Closing.{Restriction}
use Rattle.gtd_records.specs.declared.fault.RecordFault.{RecordFault}
use Rattle.gtd_records.specs.declared.fault.RecordFault.TheVariants as records
use Rattle.gtd_report.specs.Putting.{Puts, PutsText, answer_of, nothing_put, text_of}
use Rattle.gtd_report.specs.Run.{AcceptedFilesArePut, CountsNone, HadMemoryAndInput, HasRun, IsLineCount, PutsWhole}
use Rattle.gtd_report.specs.Run.{RefusedFilesPutNothing, TookFirst, TookFirstOf, UnacceptedFilesPutNothing, failures_after_read, failures_after_write}
use Rattle.gtd_report.specs.declared.fault.RunFault.{RunFault}
use Rattle.gtd_report.specs.declared.fault.RunFault.TheVariants as fault
use Rattle.gtd_report.specs.declared.output.Progress.{Progress}
use Rattle.gtd_report.specs.declared.output.Stop.{Stop}
use Rattle.gtd_report.specs.declared.output.Stop.TheVariants.{Output, Memory}

-- the first bytes, counted from nothing
took_first : (x : Stop) (a b : Option (List ℕ)) (q : Progress) (lines : List (List ℕ)) → Puts (Err x) a b nothing_put q lines
    → TookFirst a b q.written (text_of lines)
took_first x a b q lines puts =
    let is : puts.0 ≡ q.written = (let e = puts.3 in omega arith) in
    let few = puts.1 in
    (omega arith, rw is at puts.2)

-- counted from nothing
none_before : (n : ℕ) → 0 + n ≡ n
none_before n = omega arith

module _ (IsAccepted : List Restriction → Type 0) (IsText : List Restriction → List (List ℕ) → Type 0) where
  stopped : (x : Stop) (file old new : Option (List ℕ)) (found : List Restriction) (q : Progress)
      → IfSome file (λ bytes. IsFile bytes (Ok found)) → IsAccepted found → PutsText (IsText found) (Err x) old new nothing_put q
      → IfSome file (λ bytes. TookFirstOf IsAccepted IsText bytes old new q.written)
  stopped x None old new found q file accepted puts = tt
  stopped x (Some bytes) old new found q file accepted puts = record {
    found = found;
    file = file;
    accepted = accepted;
    first = λ lines text. took_first x old new q lines (puts lines text);
  }

  -- what a run did with an accepted file, by its answer
  pub has_run : (r : Result (Unit {0}) Stop) (file old new : Option (List ℕ)) (found : List Restriction) (q : Progress)
      → IfSome file (λ bytes. IsFile bytes (Ok found)) → IsAccepted found → PutsText (IsText found) r old new nothing_put q
      → HasRun IsAccepted IsText file old new (answer_of r q)
  has_run (Ok x) None old new found q file accepted puts = tt
  has_run (Ok x) (Some bytes) old new found q file accepted puts = record {
    found = found;
    file = file;
    accepted = accepted;
    puts = record {
      lines = puts.0;
      is_text = puts.1;
      taken = puts.2.0;
      count = ap (λ (t : Progress). Ok t.lines) puts.2.1 ∙ ap (λ (n : ℕ). Ok n) (none_before (length puts.0));
    };
  }
  has_run (Err Output) file old new found q of_file accepted puts = stopped Output file old new found q of_file accepted puts
  has_run (Err Memory) file old new found q of_file accepted puts = stopped Memory file old new found q of_file accepted puts

  -- what a run did with a file that is not read
  pub not_read : (why : RecordFault) (file taken : Option (List ℕ)) → IfSome file (λ bytes. IsOfFile why → IsFile bytes (Err why))
      → HasRun IsAccepted IsText file taken taken (Err (fault.Records why))
  not_read why None taken h = (Keeps-refl taken, λ free. tt)
  not_read why (Some bytes) taken h = (Keeps-refl taken, h)

  -- what a run did with a file that does not name the element
  pub not_named : (file taken : Option (List ℕ)) (found : List Restriction) → IfSome file (λ bytes. IsFile bytes (Ok found))
      → (IsAccepted found → ⊥) → HasRun IsAccepted IsText file taken taken (Err fault.NoElement)
  not_named None taken found h never = (Keeps-refl taken, tt)
  not_named (Some bytes) taken found h never = (Keeps-refl taken, (found, h, never))

-- the answer of a run whose text was put is the number of lines of a text
pub answer_lines : (IsText : List Restriction → List (List ℕ) → Type 0) (r : Result (Unit {0}) Stop) (old new : Option (List ℕ))
    (found : List Restriction) (q : Progress) → PutsText (IsText found) r old new nothing_put q
    → IfOk (answer_of r q) (IsLineCount IsText)
answer_lines IsText (Ok x) old new found q puts =
    (found, puts.0, puts.1, ap (λ (t : Progress). t.lines) puts.2.1 ∙ none_before (length puts.0))
answer_lines IsText (Err Output) old new found q puts = tt
answer_lines IsText (Err Memory) old new found q puts = tt

-- the answer of a run that put its text, or that stopped, is not about its arguments
pub not_vehicle : (put : Result (Unit {0}) Stop) (progress : Progress) → answer_of put progress ≢ Err fault.VehicleRange
not_vehicle (Ok done) progress e = cc
not_vehicle (Err Output) progress e = cc
not_vehicle (Err Memory) progress e = cc

pub not_year : (put : Result (Unit {0}) Stop) (progress : Progress) → answer_of put progress ≢ Err fault.YearRange
not_year (Ok done) progress e = cc
not_year (Err Output) progress e = cc
not_year (Err Memory) progress e = cc

-- a run whose text was put has ended its output
pub answer_ended : (put : Result (Unit {0}) Stop) (progress : Progress) (ended : Bool) → OnOk put (IsTrue ended)
    → OnOk (answer_of put progress) (IsTrue ended)
answer_ended (Ok done) progress ended h = h
answer_ended (Err Output) progress ended h = tt
answer_ended (Err Memory) progress ended h = tt

-- two lists of restrictions of one file are one
pub same_found : (bytes : List ℕ) (a b : List Restriction) → IsFile bytes (Ok a) → IsFile bytes (Ok b) → a ≡ b
same_found bytes a b p q = ok_same (one_file bytes (Ok a) (Ok b) p q)
  where
    ok_same : {x y : List Restriction} → ◌≡◌ {A = Result (List Restriction) RecordFault} (Ok x) (Ok y) → x ≡ y
    ok_same e = cc

-- a file has no fault
pub apart : (bytes : List ℕ) (found : List Restriction) (why : RecordFault) → IsFile bytes (Ok found) → IsFile bytes (Err why) → ⊥
apart bytes found why p q = let e = one_file bytes (Ok found) (Err why) p q in cc

-- Nothing hindered the run: the answer is of the file, or of what was asked for.
abbrev pub IsUnhindered : Result ℕ RunFault → Type 0
IsUnhindered (Err (fault.Records why)) = IsOfFile why
IsUnhindered (Err (fault.WriteFault written)) = ⊥
IsUnhindered (Err (fault.NoMemory written)) = ⊥
IsUnhindered answer = ⊤

-- a count that rose did not stay
pub risen : (n : ℕ) → n + 1 ≡ n → ⊥
risen n e = omega arith

-- devices whose counts of failures stayed did not hinder the run
pub unhindered : (answer : Result ℕ RunFault) (reads writes : ℕ) → failures_after_read answer reads ≡ reads
    → failures_after_write answer writes ≡ writes → HadMemoryAndInput answer → IsUnhindered answer
unhindered (Ok count) reads writes read wrote had = tt
unhindered (Err fault.VehicleRange) reads writes read wrote had = tt
unhindered (Err fault.YearRange) reads writes read wrote had = tt
unhindered (Err fault.NoElement) reads writes read wrote had = tt
unhindered (Err (fault.WriteFault n)) reads writes read wrote had = absurd (risen writes wrote)
unhindered (Err (fault.NoMemory n)) reads writes read wrote had = absurd had
unhindered (Err (fault.Records records.ReadFault)) reads writes read wrote had = absurd (risen reads read)
unhindered (Err (fault.Records records.Endless)) reads writes read wrote had = absurd had
unhindered (Err (fault.Records records.NoMemory)) reads writes read wrote had = absurd had
unhindered (Err (fault.Records records.TooLarge)) reads writes read wrote had = tt
unhindered (Err (fault.Records records.Header)) reads writes read wrote had = tt
unhindered (Err (fault.Records (records.FieldCount row))) reads writes read wrote had = tt
unhindered (Err (fault.Records (records.Element row))) reads writes read wrote had = tt
unhindered (Err (fault.Records (records.Direction row))) reads writes read wrote had = tt
unhindered (Err (fault.Records (records.Vehicle row))) reads writes read wrote had = tt
unhindered (Err (fault.Records (records.Domain row why))) reads writes read wrote had = tt
unhindered (Err (fault.Records records.TooManyRows)) reads writes read wrote had = tt

-- and a run that nothing hindered had memory and input, and counts no failure
pub had_all : (answer : Result ℕ RunFault) → IsUnhindered answer → HadMemoryAndInput answer
had_all (Ok count) free = tt
had_all (Err fault.VehicleRange) free = tt
had_all (Err fault.YearRange) free = tt
had_all (Err fault.NoElement) free = tt
had_all (Err (fault.WriteFault n)) free = tt
had_all (Err (fault.NoMemory n)) free = absurd free
had_all (Err (fault.Records records.ReadFault)) free = absurd free
had_all (Err (fault.Records records.Endless)) free = absurd free
had_all (Err (fault.Records records.NoMemory)) free = absurd free
had_all (Err (fault.Records records.TooLarge)) free = tt
had_all (Err (fault.Records records.Header)) free = tt
had_all (Err (fault.Records (records.FieldCount row))) free = tt
had_all (Err (fault.Records (records.Element row))) free = tt
had_all (Err (fault.Records (records.Direction row))) free = tt
had_all (Err (fault.Records (records.Vehicle row))) free = tt
had_all (Err (fault.Records (records.Domain row why))) free = tt
had_all (Err (fault.Records records.TooManyRows)) free = tt

pub none_read : (answer : Result ℕ RunFault) → IsUnhindered answer → CountsNone (failures_after_read answer)
none_read (Ok count) free = λ n. refl
none_read (Err fault.VehicleRange) free = λ n. refl
none_read (Err fault.YearRange) free = λ n. refl
none_read (Err fault.NoElement) free = λ n. refl
none_read (Err (fault.WriteFault m)) free = λ n. refl
none_read (Err (fault.NoMemory m)) free = λ n. refl
none_read (Err (fault.Records records.ReadFault)) free = λ n. absurd free
none_read (Err (fault.Records records.Endless)) free = λ n. refl
none_read (Err (fault.Records records.NoMemory)) free = λ n. refl
none_read (Err (fault.Records records.TooLarge)) free = λ n. refl
none_read (Err (fault.Records records.Header)) free = λ n. refl
none_read (Err (fault.Records (records.FieldCount row))) free = λ n. refl
none_read (Err (fault.Records (records.Element row))) free = λ n. refl
none_read (Err (fault.Records (records.Direction row))) free = λ n. refl
none_read (Err (fault.Records (records.Vehicle row))) free = λ n. refl
none_read (Err (fault.Records (records.Domain row why))) free = λ n. refl
none_read (Err (fault.Records records.TooManyRows)) free = λ n. refl

pub none_written : (answer : Result ℕ RunFault) → IsUnhindered answer → CountsNone (failures_after_write answer)
none_written (Ok count) free = λ n. refl
none_written (Err fault.VehicleRange) free = λ n. refl
none_written (Err fault.YearRange) free = λ n. refl
none_written (Err fault.NoElement) free = λ n. refl
none_written (Err (fault.WriteFault m)) free = λ n. absurd free
none_written (Err (fault.NoMemory m)) free = λ n. refl
none_written (Err (fault.Records why)) free = λ n. refl

module _ (IsAccepted : List Restriction → Type 0) (IsText : List Restriction → List (List ℕ) → Type 0) where
  -- the first claim, of what a run did
  pub accepted_are_put : (answer : Result ℕ RunFault) (file old new : Option (List ℕ)) → answer ≢ Err fault.VehicleRange
      → answer ≢ Err fault.YearRange
      → (HadMemoryAndInput answer → IsUnhindered answer) → HasRun IsAccepted IsText file old new answer
      → AcceptedFilesArePut IsAccepted IsText file old new answer
  accepted_are_put answer None old new vehicle year free run = λ had. tt
  accepted_are_put (Ok count) (Some bytes) old new vehicle year free run = λ had found file accepted.
      subst (λ (f : List Restriction). PutsWhole (IsText f) old new (Ok count))
      (same_found bytes run.found found run.file file) run.puts
  accepted_are_put (Err fault.VehicleRange) (Some bytes) old new vehicle year free run = absurd (vehicle refl)
  accepted_are_put (Err fault.YearRange) (Some bytes) old new vehicle year free run = absurd (year refl)
  accepted_are_put (Err (fault.Records why)) (Some bytes) old new vehicle year free run = λ had found file accepted.
      absurd (apart bytes found why file (run.1 (free had)))
  accepted_are_put (Err fault.NoElement) (Some bytes) old new vehicle year free run = λ had found file accepted.
      absurd (run.1.2 (subst IsAccepted (same_found bytes found run.1.0 file run.1.1) accepted))
  accepted_are_put (Err (fault.WriteFault n)) (Some bytes) old new vehicle year free run = λ had. absurd (free had)
  accepted_are_put (Err (fault.NoMemory n)) (Some bytes) old new vehicle year free run = λ had. absurd (free had)

  -- the second claim, of what a run did
  pub refused_put_nothing : (answer : Result ℕ RunFault) (file old new : Option (List ℕ)) → answer ≢ Err fault.VehicleRange
      → answer ≢ Err fault.YearRange
      → (HadMemoryAndInput answer → IsUnhindered answer) → HasRun IsAccepted IsText file old new answer
      → RefusedFilesPutNothing file old new answer
  refused_put_nothing answer None old new vehicle year free run = λ had. tt
  refused_put_nothing (Ok count) (Some bytes) old new vehicle year free run =
      λ had why file. absurd (apart bytes run.found why run.file file)
  refused_put_nothing (Err fault.VehicleRange) (Some bytes) old new vehicle year free run = absurd (vehicle refl)
  refused_put_nothing (Err fault.YearRange) (Some bytes) old new vehicle year free run = absurd (year refl)
  refused_put_nothing (Err (fault.Records why)) (Some bytes) old new vehicle year free run = λ had other file. (
    ap (λ (w : RecordFault). Err (fault.Records w)) (same_fault why other
        (one_file bytes (Err why) (Err other) (run.1 (free had)) file)),
    run.0,
  )
    where
      same_fault : (x y : RecordFault) → ◌≡◌ {A = Result (List Restriction) RecordFault} (Err x) (Err y) → x ≡ y
      same_fault x y e = cc
  refused_put_nothing (Err fault.NoElement) (Some bytes) old new vehicle year free run = λ had why file.
      absurd (apart bytes run.1.0 why run.1.1 file)
  refused_put_nothing (Err (fault.WriteFault n)) (Some bytes) old new vehicle year free run = λ had. absurd (free had)
  refused_put_nothing (Err (fault.NoMemory n)) (Some bytes) old new vehicle year free run = λ had. absurd (free had)

  -- the third claim, of what a run did
  pub unaccepted_put_nothing : (answer : Result ℕ RunFault) (file old new : Option (List ℕ))
      → answer ≢ Err fault.VehicleRange → answer ≢ Err fault.YearRange
      → (HadMemoryAndInput answer → IsUnhindered answer) → HasRun IsAccepted IsText file old new answer
      → UnacceptedFilesPutNothing IsAccepted file old new answer
  unaccepted_put_nothing answer None old new vehicle year free run = λ had. tt
  unaccepted_put_nothing (Ok count) (Some bytes) old new vehicle year free run = λ had found file never.
      absurd (never (subst IsAccepted (same_found bytes run.found found run.file file) run.accepted))
  unaccepted_put_nothing (Err fault.VehicleRange) (Some bytes) old new vehicle year free run = absurd (vehicle refl)
  unaccepted_put_nothing (Err fault.YearRange) (Some bytes) old new vehicle year free run = absurd (year refl)
  unaccepted_put_nothing (Err (fault.Records why)) (Some bytes) old new vehicle year free run = λ had found file never.
      absurd (apart bytes found why file (run.1 (free had)))
  unaccepted_put_nothing (Err fault.NoElement) (Some bytes) old new vehicle year free run = λ had found file never. (refl, run.0)
  unaccepted_put_nothing (Err (fault.WriteFault n)) (Some bytes) old new vehicle year free run = λ had. absurd (free had)
  unaccepted_put_nothing (Err (fault.NoMemory n)) (Some bytes) old new vehicle year free run = λ had. absurd (free had)

-- ---- the same text, said in another way

module _ (IsAccepted : List Restriction → Type 0) (One Other : List Restriction → List (List ℕ) → Type 0)
    (same : (found : List Restriction) (lines : List (List ℕ)) → One found lines ↔ Other found lines) where
  took_as : (bytes : List ℕ) (old new : Option (List ℕ)) (n : ℕ) → TookFirstOf IsAccepted One bytes old new n
      → TookFirstOf IsAccepted Other bytes old new n
  took_as bytes old new n took = record {
    found = took.found;
    file = took.file;
    accepted = took.accepted;
    first = λ lines text. took.first lines ((same took.found lines).1 text);
  }

  -- what a run did with a text, of the other way to say it
  pub run_as : (file old new : Option (List ℕ)) (answer : Result ℕ RunFault) → HasRun IsAccepted One file old new answer
      → HasRun IsAccepted Other file old new answer
  run_as None old new (Ok count) ran = tt
  run_as (Some bytes) old new (Ok count) ran = record {
    found = ran.found;
    file = ran.file;
    accepted = ran.accepted;
    puts = record {
      lines = ran.puts.lines;
      is_text = (same ran.found ran.puts.lines).0 ran.puts.is_text;
      taken = ran.puts.taken;
      count = ran.puts.count;
    };
  }
  run_as file old new (Err fault.VehicleRange) ran = ran
  run_as file old new (Err fault.YearRange) ran = ran
  run_as file old new (Err (fault.Records why)) ran = ran
  run_as file old new (Err fault.NoElement) ran = ran
  run_as None old new (Err (fault.WriteFault n)) ran = tt
  run_as (Some bytes) old new (Err (fault.WriteFault n)) ran = took_as bytes old new n ran
  run_as None old new (Err (fault.NoMemory n)) ran = tt
  run_as (Some bytes) old new (Err (fault.NoMemory n)) ran = took_as bytes old new n ran
