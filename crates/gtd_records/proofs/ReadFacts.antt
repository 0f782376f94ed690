-- From the text of a file to its bytes.
use Rattle.std.proofs.Common.{◌≡◌, ◌≢◌, ◌≤◌, inl, subst, ℕ, List, length}
use Rattle.std.specs.Prelude.{Option, Some, None, IfSome, Result, Ok, Err, MatchResult}
use Rattle.csv.specs.Reading.{default_config, records, strip_bom}
use Rattle.gtd_records.specs.ComputedFile.{IsTable}
use Rattle.gtd_records.specs.File.{IsFile, IsOfFile}
use Rattle.gtd_records.specs.facts.FileForms.{table_of}
use Rattle.gtd_records.specs.Closing.{Restriction}
use Rattle.gtd_records.specs.declared.fault.RecordFault.{RecordFault}
use Rattle.gtd_records.specs.declared.fault.RecordFault.TheVariants as fault

not_memory : (why : RecordFault) → IsOfFile why → why ≢ fault.NoMemory
not_memory why of = λ e. subst IsOfFile e of

pub of_table : {T : Type 0} (f : T → List Restriction) (bytes : List ℕ) (told : Option (List ℕ)) (r : Result T RecordFault)
    → length bytes ≤ 16777216 → IfSome told (λ all. bytes ≡ all)
    → MatchResult r (λ found. IsTable (records default_config (strip_bom bytes)) (Ok (f found)))
    (λ why. why ≢ fault.NoMemory → IsTable (records default_config (strip_bom bytes)) (Err why))
    → IfSome told (λ all. MatchResult r (λ found. IsFile all (Ok (f found))) (λ why. IsOfFile why → IsFile all (Err why)))
of_table f bytes None r few is t = tt
of_table f bytes (Some all) (Ok found) few is t = subst (λ b. IsFile b (Ok (f found))) is (inl (few, table_of _ _ t))
of_table f bytes (Some all) (Err why) few is t = λ of.
    subst (λ b. IsFile b (Err why)) is (inl (few, table_of _ _ (t (not_memory why of))))
