-- What a run over a file of hours did, by its answer.
use Rattle.std.proofs.Common.{◌≡◌, ◌∙◌, ◌<◌, ◌+◌, ap, refl, subst, arith, inl, inr, ℕ, List, [], ◌∷◌, length, Option, Some, None}
use Rattle.std.specs.Prelude.{IfSome, Result, Ok, Err, string_bytes}
use Rattle.std.proofs.KnownBytes.{Keeps-refl}
use Rattle.gtd_core.specs.Limits.{most_file_bytes}
use Rattle.gtd_migrate.specs.Migrated.{migrated}
use Rattle.gtd_report.specs.Putting.{Puts, nothing_put, text_of}
use Rattle.gtd_report.specs.Run.{TookFirst}
use Rattle.gtd_report.specs.declared.output.Progress.{Progress}
use Rattle.gtd_report.specs.declared.output.Stop.{Stop}
use Rattle.gtd_report.specs.declared.output.Stop.TheVariants.{Output, Memory}
use Rattle.gtd_hours_options.specs.Readings.{HowRead}
use Rattle.gtd_hours_file.specs.HoursFile.{AreOfFile}
use Rattle.gtd_hours_file.specs.Listing.{AreLines}
use Rattle.gtd_hours_file.specs.PuttingRows.{PutsRows, answer_of}
use Rattle.gtd_hours_file.specs.Run.{HasTranslated, IsFaultList, IsRefusal, TookFirstRecords}
use Rattle.gtd_hours_file.specs.declared.fault.HoursFileFault.{HoursFileFault}
use Rattle.gtd_hours_file.specs.declared.fault.HoursFileFault.TheVariants as fault
use Rattle.gtd_hours_file.specs.declared.row.HoursRow.{HoursRow}
use Rattle.gtd_hours_file.specs.declared.untranslated.Untranslated.{Untranslated}
use Rattle.gtd_hours_file.specs.declared.untranslated.Untranslated.TheVariants as why

-- counted from nothing
none_before : (n : ℕ) → 0 + n ≡ n
none_before n = omega arith

took_first : (x : Stop) (a b : Option (List ℕ)) (q : Progress) (lines : List (List ℕ)) → Puts (Err x) a b nothing_put q lines
    → TookFirst a b q.written (text_of lines)
took_first x a b q lines puts =
    let is : puts.0 ≡ q.written = (let e = puts.3 in omega arith) in
    let few = puts.1 in
    (omega arith, rw is at puts.2)

stopped : (how : HowRead) (x : Stop) (bytes : List ℕ) (old new : Option (List ℕ)) (q : Progress) (rows : List HoursRow)
    → AreOfFile how bytes rows [] → PutsRows migrated (Err x) old new nothing_put q rows
    → TookFirstRecords how bytes old new q.written
stopped how x bytes old new q rows file put = record {
  first = put.0;
  rest = put.1;
  found = put.2;
  file = subst (λ (l : List HoursRow). AreOfFile how bytes l []) put.3 file;
  translation = put.4;
  took = took_first x old new q (migrated put.2) put.5;
}

-- what a run did with a file of hours
pub has_translated : (how : HowRead) (r : Result (Unit {0}) Stop) (path bytes : List ℕ) (old new : Option (List ℕ)) (q : Progress)
    (rows : List HoursRow)
    → AreOfFile how bytes rows [] → PutsRows migrated r old new nothing_put q rows
    → HasTranslated how path (Some bytes) old new (answer_of r q)
has_translated how (Ok x) path bytes old new q rows file put = record {
  rows = rows;
  found = put.0;
  file = file;
  translation = put.1;
  taken = put.2.0;
  counted = ap (λ (t : Progress). t.lines) put.2.1 ∙ none_before (length (migrated put.0));
}
has_translated how (Err Output) path bytes old new q rows file put = stopped how Output bytes old new q rows file put
has_translated how (Err Memory) path bytes old new q rows file put = inr (stopped how Memory bytes old new q rows file put)

-- ---- a file that is too large

some_fault : (x : HoursFileFault) → x ∷ [] ≡ [] → ⊥
some_fault x e = cc

-- neither the line nor what is shown below it is taken from the bytes
large_list : (how : HowRead) (path text : List ℕ) (file : Option (List ℕ)) → IfSome file (λ all. most_file_bytes < length all)
    → AreLines path [] (fault.TooLarge ∷ []) text → IfSome file (λ bytes. IsFaultList how path bytes text)
large_list how path text None more lines = tt
large_list how path text (Some bytes) more lines = record {
  faults = fault.TooLarge ∷ [];
  all = ([], inr (more, refl, refl), some_fault fault.TooLarge);
  lines = lines;
}

pub large_refused : (how : HowRead) (path : List ℕ) (file taken : Option (List ℕ)) (answer : Untranslated)
    → IfSome file (λ all. most_file_bytes < length all) → IsRefusal path [] (fault.TooLarge ∷ []) answer
    → HasTranslated how path file taken taken (Err answer)
large_refused how path file taken (why.Faults text) more list =
    (Keeps-refl taken, large_list how path (string_bytes text) file more list)
large_refused how path file taken why.ReadFault more list = absurd list
large_refused how path file taken why.Endless more list = absurd list
large_refused how path file taken (why.WriteFault n) more list = absurd list
large_refused how path file taken (why.NoMemory n) more list = inl (list, Keeps-refl taken)
