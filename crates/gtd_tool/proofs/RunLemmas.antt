-- What a command that reads a record file did, from what its run did.
use Rattle.std.proofs.Common.{◌≡◌, ◌∙◌, inl, inr, ℕ, List, [], Bool, Option, Some, None, refl, sym, ap, subst, take, drop}
use Rattle.std.proofs.Common.{take-append-drop}
use Rattle.std.specs.Prelude.{⊤, IfSome, IfErr, IsOk, MatchOption, OnErr, Result, Ok, Err}
use Rattle.std.specs.Io.KnownBytes.{Keeps}
use Rattle.std.proofs.KnownBytes.{Appends-kept, Appends-nil}
use Rattle.gtd_roads.specs.File.{IsFile}
use Rattle.gtd_roads.specs.File.{IsOfFile}
use Rattle.gtd_roads.specs.Closing.{Restriction}
use Rattle.gtd_roads.specs.RecordFault.{RecordFault}
use Rattle.gtd_roads.specs.RecordFault.TheVariants as records
use Rattle.gtd_roads.specs.facts.RunFacts.{IsUnhindered as IsRunUnhindered, apart, had_all, none_read, none_written, same_found}
use Rattle.gtd_roads.specs.Putting.{text_of}
use Rattle.gtd_roads.specs.Run.{CountsNone, HadMemoryAndInput, HasRun, TookFirst, failures_after_read, failures_after_write}
use Rattle.gtd_roads.specs.RunFault.{RunFault}
use Rattle.gtd_roads.specs.RunFault.TheVariants as run
use Rattle.gtd_tool.specs.Asked.{Asked}
use Rattle.gtd_tool.specs.Running.{AppendsTextOf, IsAccepted, IsLacking, IsPartOfText, IsRefusedFile, IsText, IsUnhindered}
use Rattle.gtd_tool.specs.Running.{IsVehicleInRange, IsYearInRange, Ran, failures_after, outcome_of, refusal_for}
use Rattle.gtd_tool.specs.CutShort.{IsCutShort}
use Rattle.gtd_tool.specs.Writing.{AppendsPart}
use Rattle.gtd_tool.specs.declared.refusal.Refusal.{Refusal}
use Rattle.gtd_tool.specs.declared.refusal.Refusal.TheVariants as refusal
use Rattle.gtd_tool.proofs.LoanLemmas.{if_some, if_some_all}

-- ---- a first part

kept_part : (old new : Option (List ℕ)) (text : List ℕ) → Keeps old new → AppendsPart old new text
kept_part old new text kept = record {
  rest = text;
  takes = record { part = []; before = refl; taken = Appends-kept old old new [] (Appends-nil old) kept };
}

first_part : (old new : Option (List ℕ)) (n : ℕ) (text : List ℕ) → TookFirst old new n text → AppendsPart old new text
first_part old new n text took = record {
  rest = drop n text;
  takes = record { part = take n text; before = sym (take-append-drop n text); taken = took.1 };
}

module _ (asked : Asked) (file old new : Option (List ℕ)) where
  kept_text : Keeps old new → IfSome file (λ bytes. IsPartOfText asked bytes old new)
  kept_text kept = if_some_all file _ (λ bytes found is lines text. kept_part old new (text_of lines) kept)

  -- whatever the run answered, a first part of the text was taken where it was not put whole
  part_at : (answer : Result ℕ RunFault) → HasRun (IsAccepted asked) (IsText asked) file old new answer
      → OnErr (outcome_of answer) (IfSome file (λ bytes. IsPartOfText asked bytes old new))
  part_at (Ok count) h = tt
  part_at (Err run.VehicleRange) h = kept_text h
  part_at (Err run.YearRange) h = kept_text h
  part_at (Err (run.Records why)) h = kept_text h.0
  part_at (Err run.NoElement) h = kept_text h.0
  part_at (Err (run.WriteFault n)) h = if_some file _ _ (λ bytes took found is lines text.
      first_part old new n (text_of lines) (took.first lines
      (subst (λ (f : List Restriction). IsText asked f lines) (same_found bytes found took.found is took.file) text))) h
  part_at (Err (run.NoMemory n)) h = if_some file _ _ (λ bytes took found is lines text.
      first_part old new n (text_of lines) (took.first lines
      (subst (λ (f : List Restriction). IsText asked f lines) (same_found bytes found took.found is took.file) text))) h

-- ---- nothing in the way

-- a run that nothing hindered is a command that nothing hindered
unhindered_run : (answer : Result ℕ RunFault) → IsUnhindered (outcome_of answer) → IsRunUnhindered answer
unhindered_run (Ok count) h = tt
unhindered_run (Err run.VehicleRange) h = tt
unhindered_run (Err run.YearRange) h = tt
unhindered_run (Err run.NoElement) h = tt
unhindered_run (Err (run.WriteFault n)) h = h
unhindered_run (Err (run.NoMemory n)) h = h
unhindered_run (Err (run.Records why)) h = of_file why h
  where
    of_file : (why : RecordFault) → IsUnhindered (Err (refusal_for (run.Records why))) → IsOfFile why
    of_file records.ReadFault h = h
    of_file records.Endless h = h
    of_file records.NoMemory h = h
    of_file records.TooLarge h = tt
    of_file records.Header h = tt
    of_file (records.FieldCount row) h = tt
    of_file (records.Element row) h = tt
    of_file (records.Direction row) h = tt
    of_file (records.Vehicle row) h = tt
    of_file (records.Domain row fault) h = tt
    of_file records.TooManyRows h = tt

-- the refusal for a fault of the file is the fault
refusal_of_file : (why : RecordFault) → IsOfFile why → refusal_for (run.Records why) ≡ refusal.Records why
refusal_of_file records.ReadFault h = absurd h
refusal_of_file records.Endless h = absurd h
refusal_of_file records.NoMemory h = absurd h
refusal_of_file records.TooLarge h = refl
refusal_of_file records.Header h = refl
refusal_of_file (records.FieldCount row) h = refl
refusal_of_file (records.Element row) h = refl
refusal_of_file (records.Direction row) h = refl
refusal_of_file (records.Vehicle row) h = refl
refusal_of_file (records.Domain row fault) h = refl
refusal_of_file records.TooManyRows h = refl

-- ---- the input's failures

read_failures : (answer : Result ℕ RunFault) (n : ℕ) → failures_after_read answer n ≡ failures_after (outcome_of answer) n
read_failures (Ok count) n = refl
read_failures (Err run.VehicleRange) n = refl
read_failures (Err run.YearRange) n = refl
read_failures (Err run.NoElement) n = refl
read_failures (Err (run.WriteFault m)) n = refl
read_failures (Err (run.NoMemory m)) n = refl
read_failures (Err (run.Records records.ReadFault)) n = refl
read_failures (Err (run.Records records.Endless)) n = refl
read_failures (Err (run.Records records.NoMemory)) n = refl
read_failures (Err (run.Records records.TooLarge)) n = refl
read_failures (Err (run.Records records.Header)) n = refl
read_failures (Err (run.Records (records.FieldCount row))) n = refl
read_failures (Err (run.Records (records.Element row))) n = refl
read_failures (Err (run.Records (records.Direction row))) n = refl
read_failures (Err (run.Records (records.Vehicle row))) n = refl
read_failures (Err (run.Records (records.Domain row fault))) n = refl
read_failures (Err (run.Records records.TooManyRows)) n = refl

-- ---- the claims

module _ (asked : Asked) (file old new : Option (List ℕ)) (silent : Bool) (before after : ℕ)
    (result : Result (Unit {0}) Refusal) where
  pub ran_part : Ran asked file old new silent before after result
      → OnErr result (IfSome file (λ bytes. IsPartOfText asked bytes old new))
  ran_part ran = subst (λ (r : Result (Unit {0}) Refusal). OnErr r (IfSome file (λ bytes. IsPartOfText asked bytes old new)))
      (sym ran.outcome)
      (part_at asked file old new ran.answer ran.stands)

  pub ran_failures : Ran asked file old new silent before after result → after ≡ failures_after result before
  ran_failures ran = ran.failures ∙ read_failures ran.answer before
      ∙ ap (λ (r : Result (Unit {0}) Refusal). failures_after r before) (sym ran.outcome)

  free : (ran : Ran asked file old new silent before after result) → IsUnhindered result → IsRunUnhindered ran.answer
  free ran h = unhindered_run ran.answer (subst IsUnhindered ran.outcome h)

  had : (ran : Ran asked file old new silent before after result) → IsUnhindered result → HadMemoryAndInput ran.answer
  had ran h = had_all ran.answer (free ran h)

  read : (ran : Ran asked file old new silent before after result) → IsUnhindered result
      → CountsNone (failures_after_read ran.answer)
  read ran h = none_read ran.answer (free ran h)

  wrote : (ran : Ran asked file old new silent before after result) → IsUnhindered result
      → CountsNone (failures_after_write ran.answer)
  wrote ran h = none_written ran.answer (free ran h)

  pub ran_accepted : Ran asked file old new silent before after result → IsVehicleInRange asked → IsYearInRange asked
      → IsUnhindered result
      → IfSome file (λ bytes. (found : List Restriction) → IsFile bytes (Ok found) → IsAccepted asked found → IsOk result
      × AppendsTextOf asked found old new)
  ran_accepted ran vehicle year h = if_some file _ _ (λ bytes put found is accepted.
      let whole = put found is accepted in
      let done : result ≡ Ok tt = ran.outcome ∙ ap outcome_of whole.count in
      (rw done refl, record { lines = whole.lines; is_text = whole.is_text; grown = whole.taken }))
      (ran.accepted vehicle year (read ran h) (wrote ran h) (had ran h))

  pub ran_refused : Ran asked file old new silent before after result → IsVehicleInRange asked → IsYearInRange asked
      → IsUnhindered result
      → IfSome file (λ bytes. (why : RecordFault) → IsFile bytes (Err why) → result ≡ Err (refusal.Records why))
  ran_refused ran vehicle year h = if_some file _ _ (λ bytes put why is.
      let answer = (put why is).0 in
      let of_file : IsOfFile why = subst IsRunUnhindered answer (free ran h) in
      ran.outcome ∙ ap outcome_of answer ∙ ap (λ (r : Refusal). Err r) (refusal_of_file why of_file))
      (ran.refused vehicle year (read ran h) (wrote ran h) (had ran h))

  pub ran_lacking : Ran asked file old new silent before after result → IsVehicleInRange asked → IsYearInRange asked
      → IsUnhindered result → IfSome file (λ bytes. IsLacking asked bytes → result ≡ Err refusal.NoElement)
  ran_lacking ran vehicle year h = if_some file _ _ (λ bytes put lack.
      ran.outcome ∙ ap outcome_of (put lack.0 lack.1 lack.2).0) (ran.unnamed vehicle year (read ran h) (wrote ran h) (had ran h))

module _ (asked : Asked) (old new : Option (List ℕ)) (bytes : List ℕ) where
  no_text : (found : List Restriction) → IsFile bytes (Ok found) → IsAccepted asked found → IsRefusedFile asked bytes → ⊥
  no_text found is accepted (inl (why, not)) = apart bytes found why is not
  no_text found is accepted (inr lack) = lack.2 (subst (IsAccepted asked) (same_found bytes found lack.0 is lack.1) accepted)

  refused_keeps : (answer : Result ℕ RunFault) → HasRun (IsAccepted asked) (IsText asked) (Some bytes) old new answer
      → IsRefusedFile asked bytes → Keeps old new
  refused_keeps (Ok count) so h = absurd (no_text so.found so.file so.accepted h)
  refused_keeps (Err run.VehicleRange) so h = so
  refused_keeps (Err run.YearRange) so h = so
  refused_keeps (Err (run.Records why)) so h = so.0
  refused_keeps (Err run.NoElement) so h = so.0
  refused_keeps (Err (run.WriteFault n)) so h = absurd (no_text so.found so.file so.accepted h)
  refused_keeps (Err (run.NoMemory n)) so h = absurd (no_text so.found so.file so.accepted h)

pub ran_nothing : (asked : Asked) (file old new : Option (List ℕ)) (silent : Bool) (before after : ℕ)
    (result : Result (Unit {0}) Refusal)
    → Ran asked file old new silent before after result → IfSome file (λ bytes. IsRefusedFile asked bytes → Keeps old new)
ran_nothing asked None old new silent before after result ran = tt
ran_nothing asked (Some bytes) old new silent before after result ran = refused_keeps asked old new bytes ran.answer ran.stands

-- ---- with a file or without

pub if_file : (o : Option (List ℕ)) (P Q : Type 0) → (P → Q) → MatchOption o ⊤ (λ path. P) → MatchOption o ⊤ (λ path. Q)
if_file None P Q f h = tt
if_file (Some path) P Q f h = f h

-- a claim of what reads a file, of what may read one
pub with_file : (o : Option (List ℕ)) (P Q : Type 0) → (P → Q) → MatchOption o ⊤ (λ path. P) → MatchOption o ⊥ (λ path. ⊤) → Q
with_file None P Q f h reads = absurd reads
with_file (Some path) P Q f h reads = f h

-- a claim of what reads no file
pub alone : (o : Option (List ℕ)) (P Q : Type 0) → (P → Q) → MatchOption o P (λ path. ⊤) → MatchOption o Q (λ path. ⊤)
alone None P Q f h = f h
alone (Some path) P Q f h = tt

-- what reads no file, and is stopped, saw no failure of the input
no_failure : (asked : Asked) (old new : Option (List ℕ)) (unwritten : Type 0) (r : Result (Unit {0}) Refusal) (n : ℕ)
    → IfErr r (IsCutShort asked old new unwritten)
    → n ≡ failures_after r n
no_failure asked old new unwritten (Ok x) n h = refl
no_failure asked old new unwritten (Err refusal.Write) n h = refl
no_failure asked old new unwritten (Err refusal.Memory) n h = refl
no_failure asked old new unwritten (Err refusal.HasYear) n h = refl
no_failure asked old new unwritten (Err refusal.Usage) n h = refl
no_failure asked old new unwritten (Err (refusal.Text f)) n h = refl
no_failure asked old new unwritten (Err (refusal.Moment f)) n h = refl
no_failure asked old new unwritten (Err (refusal.Date f)) n h = refl
no_failure asked old new unwritten (Err (refusal.Horizon f)) n h = refl
no_failure asked old new unwritten (Err refusal.VehicleRange) n h = refl
no_failure asked old new unwritten (Err refusal.YearRange) n h = refl
no_failure asked old new unwritten (Err refusal.NoElement) n h = refl
no_failure asked old new unwritten (Err (refusal.Records f)) n h = absurd h
no_failure asked old new unwritten (Err refusal.Open) n h = refl

pub input_failures : {X : Type 0} (count : X → ℕ) (o : Option (List ℕ)) (asked : Asked) (old new : Option (List ℕ))
    (unwritten : Type 0)
    (r : Result (Unit {0}) Refusal) (x y : X) (P : Type 0) → MatchOption o (y ≡ x) (λ path. ⊤)
    → MatchOption o (IfErr r (IsCutShort asked old new unwritten)) (λ path. ⊤)
    → (P → count y ≡ failures_after r (count x)) → MatchOption o ⊤ (λ path. P) → count y ≡ failures_after r (count x)
input_failures count None asked old new unwritten r x y P same stop f h =
    ap count same ∙ no_failure asked old new unwritten r (count x) stop
input_failures count (Some path) asked old new unwritten r x y P same stop f h = f h

pub on_err_either : {E : Type 0} (o : Option (List ℕ)) (r : Result (Unit {0}) E) (A B P : Type 0)
    → MatchOption o (OnErr r A) (λ path. ⊤) → (P → OnErr r B)
    → MatchOption o ⊤ (λ path. P) → OnErr r (MatchOption o A (λ path. B))
on_err_either None r A B P alone f h = alone
on_err_either (Some path) r A B P alone f h = f h
