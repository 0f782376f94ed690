-- What a run did to a writer that was lent to its device, where the last bytes that the device took are still gathered.
use Rattle.std.proofs.Common.{◌≡◌, ◌∙◌, ◌≤◌, ◌<◌, inl, inr, ◌+◌, ◌-◌, ℕ, zero, suc, Bool, true, false, List, [], ◌∷◌, ◌++◌, Option, Some, None, refl, sym, ap, subst, arith}
use Rattle.std.proofs.Common.{append-nil, length, take, length-take, length-append}
use Rattle.std.proofs.Math.Seq.{take-append-add, take-take}
use Rattle.std.proofs.lemmas.List.{take_at}
use Rattle.std.specs.Prelude.{⊤, ◌⊎◌, IfSome, IsTrue, OnOk, Result, Ok, Err}
use Rattle.std.specs.Io.KnownBytes.{Appends, Keeps, append_known}
use Rattle.std.proofs.KnownBytes.{Keeps-refl}
use Rattle.gtd_roads.specs.Gathering.{ended_after}
use Rattle.gtd_roads.specs.Closing.{Restriction}
use Rattle.gtd_roads.specs.Putting.{text_of}
use Rattle.gtd_roads.specs.RecordFault.TheVariants as records
use Rattle.gtd_roads.specs.Run.{CountsNone, HasRun, TookFirst, failures_after_read, failures_after_write}
use Rattle.gtd_roads.specs.Run as subjects
use Rattle.gtd_roads.specs.RunFault.TheVariants as run
use Rattle.gtd_roads.specs.RunFault.{RunFault}
use Rattle.gtd_roads.specs.Subject.{Subject}
use Rattle.gtd_tool.specs.Lending.{marked}
use Rattle.gtd_tool.specs.Running.{RanReport, outcome_of}
use Rattle.gtd_tool.specs.declared.refusal.Refusal.{Refusal}
use Rattle.gtd_tool.specs.declared.refusal.Refusal.TheVariants as refusal
use Rattle.gtd_tool.proofs.ClaimLemmas.{accepted_passed, refused_passed, unnamed_passed}
use Rattle.gtd_tool.proofs.LoanLemmas.{Passes, if_some, loan_passes, passed_run, same_mark}

-- ---- the writer's bytes

-- by how many bytes the known bytes grew
abbrev pub grown_by : Option (List ℕ) → Option (List ℕ) → ℕ
grown_by None new = 0
grown_by (Some x) None = 0
grown_by (Some x) (Some y) = length y - length x

-- The writer took the first of the bytes that the device took. If the device's bytes are not known, nor are the writer's.
pub record PassesFirst (a b c d : Option (List ℕ)) : Type 0 where
  pub first : (bytes : List ℕ) → Appends a b bytes
      → (grown_by c d ≤ length bytes) × Appends c d (take (grown_by c d) bytes)
  pub unknown : a ≡ None → c ≡ None

-- what is before the gathered bytes, and at least as long as what there was at first, begins with it
front_of : (x y rest bytes : List ℕ) → length x ≤ length y → y ++ rest ≡ x ++ bytes
    → (length y - length x ≤ length bytes) × (y ≡ x ++ take (length y - length x) bytes)
front_of x y rest bytes long e =
    let k = length y - length x in
    let whole : length y + length rest ≡ length x + length bytes =
    sym (length-append y rest) ∙ ap length e ∙ length-append x bytes in
    let both : length x + k ≡ length y = omega (arith, long) in (
      omega (arith, whole, long),
      sym (take_at y rest (length y) refl) ∙ ap (take (length y)) e ∙ ap (λ (m : ℕ). take m (x ++ bytes)) (sym both)
          ∙ take-append-add x bytes k,
    )

module _ {X : Type 0} (contents : X → Option (List ℕ)) (n m t : ℕ) (gathered : List ℕ) where
  marked_first : (a b : Option (List ℕ)) (v w : X) (bytes : List ℕ) → contents w ≡ b → (n ≡ m → v ≡ w)
      → Appends (marked n 0 a) (append_known (marked m t b) gathered) bytes
      → (grown_by a (contents v) ≤ length bytes) × Appends a (contents v) (take (grown_by a (contents v)) bytes)
  marked_first None b v w bytes is same h = (omega arith, tt)
  marked_first (Some x) None v w bytes is same h = absurd h
  marked_first (Some x) (Some y) v w bytes is same h =
      let kept = same_mark n m (length x - 0) (length y - t) x (y ++ gathered) bytes h in
      let value : contents v ≡ Some y = ap contents (same kept.0) ∙ is in
      let number = kept.1 in
      rw value (front_of x y gathered bytes (omega (arith, number)) kept.2)

  unmarked : (a : Option (List ℕ)) → marked n 0 a ≡ None → a ≡ None
  unmarked None is = refl
  unmarked (Some x) is = absurd (subst known is tt)
    where
      known : Option (List ℕ) → Type 0
      known None = ⊥
      known (Some y) = ⊤

  -- the lender's bytes grew by the first bytes that the device took
  pub gathered_first : (began ended : Option (List ℕ)) (old v w : X) → began ≡ marked n 0 (contents old) → (n ≡ m → v ≡ w)
      → ended ≡ append_known (marked m t (contents w)) gathered → PassesFirst began ended (contents old) (contents v)
  gathered_first began ended old v w is same end = record {
    first = λ bytes h.
        marked_first (contents old) (contents w) v w bytes refl same
        (subst (λ (b : Option (List ℕ)). Appends (marked n 0 (contents old)) b bytes) end (rw is at h));
    unknown = λ none. unmarked (contents old) (sym is ∙ none);
  }

  -- by all of them, if none is still gathered
  pub gathered_whole : (began ended : Option (List ℕ)) (old v w : X) → began ≡ marked n 0 (contents old) → (n ≡ m → v ≡ w)
      → ended ≡ append_known (marked m t (contents w)) gathered → gathered ≡ [] → Passes began ended (contents old) (contents v)
  gathered_whole began ended old v w is same end none bytes h =
      loan_passes contents n m t began old v w is same bytes
      (subst (λ (d : Option (List ℕ)). Appends began d bytes) (end ∙ nothing (marked m t (contents w))) h)
    where
      nothing : (a : Option (List ℕ)) → append_known a gathered ≡ a
      nothing None = refl
      nothing (Some x) = ap (λ (l : List ℕ). Some (x ++ l)) none ∙ ap (λ (l : List ℕ). Some l) (append-nil x)

-- none is still gathered at the end
pub ended_empty : (gathered : List ℕ) (ended inner : Bool) → ended ≡ ended_after gathered inner → IsTrue ended → gathered ≡ []
ended_empty [] ended inner is h = refl
ended_empty (byte ∷ bytes) ended inner is h = absurd (subst IsNot (sym is ∙ h) tt)
  where
    IsNot : Bool → Type 0
    IsNot true = ⊥
    IsNot false = ⊤

pub on_ok : (answer : Result ℕ RunFault) (P Q : Type 0) → (P → Q) → OnOk answer P → OnOk answer Q
on_ok (Ok count) P Q f h = f h
on_ok (Err fault) P Q f h = tt

-- where the device took nothing, the writer took nothing
kept_passes : (a b c d : Option (List ℕ)) → PassesFirst a b c d → Keeps a b → Passes a b c d
kept_passes None b c d pass kept bytes h = rw (pass.unknown refl) tt
kept_passes (Some x) None c d pass kept bytes h = absurd kept
kept_passes (Some x) (Some y) c d pass kept bytes h =
    let none : bytes ≡ [] = empty bytes (length-append x bytes ∙ refl) (ap length (sym kept ∙ h)) in
    subst (λ (l : List ℕ). Appends c d l) (take_none (grown_by c d) ∙ sym none)
    (subst (λ (l : List ℕ). Appends c d (take (grown_by c d) l)) none (pass.first bytes h).1)
  where
    empty : (l : List ℕ) → length (x ++ l) ≡ length x + length l → length x ≡ length (x ++ l) → l ≡ []
    empty [] e f = refl
    empty (z ∷ zs) e f = absurd (omega (arith, e, f))

    take_none : (k : ℕ) → take {A = ℕ} k [] ≡ []
    take_none zero = refl
    take_none (suc k) = refl

-- ---- the run

-- the run stopped while it put its text
abbrev IsStopped : Result ℕ RunFault → Type 0
IsStopped (Err (run.WriteFault n)) = ⊤
IsStopped (Err (run.NoMemory n)) = ⊤
IsStopped answer = ⊥

module _ (subject : Subject) (Text : List Restriction → List (List ℕ) → Type 0) (file a b c d : Option (List ℕ)) (silent : Bool)
    (before after : ℕ) (result : Result (Unit {0}) Refusal) where
  -- what the device took, the writer took
  pub ran_passed : Passes a b c d → RanReport subject Text file a b silent before after result
      → RanReport subject Text file c d silent before after result
  ran_passed pass ran = record {
    answer = ran.answer;
    outcome = ran.outcome;
    accepted = λ vehicle year read wrote.
        accepted_passed a b c d pass file ran.answer (subjects.IsAccepted subject) Text (ran.accepted vehicle year read wrote);
    refused = λ vehicle year read wrote. refused_passed a b c d pass file ran.answer (ran.refused vehicle year read wrote);
    unnamed = λ vehicle year read wrote.
        unnamed_passed a b c d pass file ran.answer (subjects.IsAccepted subject) (ran.unnamed vehicle year read wrote);
    stands = passed_run (subjects.IsAccepted subject) Text a b c d pass ran.answer file ran.stands;
    vehicle = ran.vehicle;
    year = ran.year;
    element = ran.element;
    endless = ran.endless;
    failures = ran.failures;
  }

  module _ (pass : PassesFirst a b c d) (ran : RanReport subject Text file a b silent before after result) where
    -- the first bytes of the first bytes of a text
    cut : (n : ℕ) (text : List ℕ) → TookFirst a b n text → TookFirst c d (grown_by c d) text
    cut n text took =
        let h = pass.first (take n text) took.1 in
        let first = h.0 in
        let part : length (take n text) ≤ n = simp length-take (omega arith) in
        let all : length (take n text) ≤ length text = simp length-take (omega arith) in (
          omega (arith, first, all),
          subst (λ (l : List ℕ). Appends c d l) (take-take (grown_by c d) n text (omega (arith, first, part))) h.1,
        )

    first_of : (n : ℕ) → IfSome file (λ bytes. subjects.TookFirstOf (subjects.IsAccepted subject) Text bytes a b n)
        → IfSome file (λ bytes. subjects.TookFirstOf (subjects.IsAccepted subject) Text bytes c d (grown_by c d))
    first_of n = if_some file _ _ (λ bytes took. record {
      found = took.found;
      file = took.file;
      accepted = took.accepted;
      first = λ lines text. cut n (text_of lines) (took.first lines text);
    })

    stood : (answer : Result ℕ RunFault) → ran.answer ≡ answer → HasRun (subjects.IsAccepted subject) Text file a b answer
    stood answer is = subst (HasRun (subjects.IsAccepted subject) Text file a b) is ran.stands

    -- a run that was stopped had no answer that comes before its text
    other : (answer : Result ℕ RunFault) → IsStopped ran.answer → (IsStopped answer → ⊥) → ran.answer ≡ answer → ⊥
    other answer stopped not is = not (subst IsStopped is stopped)

    module _ (answer : Result ℕ RunFault) (stops : IsStopped answer) (stopped : IsStopped ran.answer)
        (same : outcome_of answer ≡ outcome_of ran.answer)
        (read : failures_after_read ran.answer before ≡ failures_after_read answer before)
        (never : CountsNone (failures_after_write answer) → subjects.HadMemoryAndInput answer → ⊥)
        (stands : HasRun (subjects.IsAccepted subject) Text file c d answer) where
      apart : (fault : RunFault) → (IsStopped (Err fault) → ⊥) → answer ≡ Err fault → ⊥
      apart fault not is = not (subst IsStopped is stops)

      stopped_ran : RanReport subject Text file c d silent before after result
      stopped_ran = record {
        answer = answer;
        outcome = ran.outcome ∙ sym same;
        accepted = λ vehicle year read wrote had. absurd (never wrote had);
        refused = λ vehicle year read wrote had. absurd (never wrote had);
        unnamed = λ vehicle year read wrote had. absurd (never wrote had);
        stands = stands;
        vehicle = (
          (λ is. absurd (apart run.VehicleRange (λ x. x) is)),
          (λ out. absurd (other (Err run.VehicleRange) stopped (λ x. x) (ran.vehicle.1 out))),
        );
        year = (
          (λ is. absurd (apart run.YearRange (λ x. x) is)),
          (λ out. absurd (other (Err run.YearRange) stopped (λ x. x) (ran.year.1 out))),
        );
        element = λ is. absurd (apart run.NoElement (λ x. x) is);
        endless = λ is. absurd (apart (run.Records records.Endless) (λ x. x) is);
        failures = ran.failures ∙ read;
      }

    by_answer : (answer : Result ℕ RunFault) → ran.answer ≡ answer → OnOk answer (Passes a b c d)
        → RanReport subject Text file c d silent before after result
    by_answer (Ok count) is whole = ran_passed whole ran
    by_answer (Err run.VehicleRange) is whole = ran_passed (kept_passes a b c d pass (stood _ is)) ran
    by_answer (Err run.YearRange) is whole = ran_passed (kept_passes a b c d pass (stood _ is)) ran
    by_answer (Err (run.Records why)) is whole = ran_passed (kept_passes a b c d pass (stood _ is).0) ran
    by_answer (Err run.NoElement) is whole = ran_passed (kept_passes a b c d pass (stood _ is).0) ran
    by_answer (Err (run.WriteFault n)) is whole =
        stopped_ran (Err (run.WriteFault (grown_by c d))) tt (subst IsStopped (sym is) tt) (sym (ap outcome_of is))
        (ap (λ (r : Result ℕ RunFault). failures_after_read r before) is)
        (λ wrote had. let h = wrote 0 in absurd (omega (arith, h))) (first_of n (stood _ is))
    by_answer (Err (run.NoMemory n)) is whole =
        stopped_ran (Err (run.NoMemory (grown_by c d))) tt (subst IsStopped (sym is) tt) (sym (ap outcome_of is))
        (ap (λ (r : Result ℕ RunFault). failures_after_read r before) is)
        (λ wrote had. had) (first_of n (stood _ is))

    -- what the run did to the device, it did to the writer: of a text that was put whole all is written, of any other a first part
    pub ran_gathered : OnOk ran.answer (Passes a b c d) → RanReport subject Text file c d silent before after result
    ran_gathered whole = by_answer ran.answer refl whole

-- ---- before the run

-- a number below 1 or above 99 is no vehicle type
pub no_vehicle_type : (vehicle : ℕ) → (vehicle < 1) ⊎ ((1 ≤ vehicle) × (99 < vehicle)) → subjects.IsVehicleType vehicle → ⊥
no_vehicle_type vehicle (inl few) is = let least = is.0 in omega (arith, few, least)
no_vehicle_type vehicle (inr many) is = let above = many.1 in let most = is.1 in omega (arith, above, most)

module _ (subject : Subject) (Text : List Restriction → List (List ℕ) → Type 0) (file a : Option (List ℕ)) (silent : Bool)
    (before : ℕ) where
  -- The vehicle type is not one.
  pub ran_out_of_range : (subjects.IsVehicleInRange subject → ⊥)
      → RanReport subject Text file a a silent before before (Err refusal.VehicleRange)
  ran_out_of_range not = record {
    answer = Err run.VehicleRange;
    outcome = refl;
    accepted = λ vehicle year read wrote. absurd (not vehicle);
    refused = λ vehicle year read wrote. absurd (not vehicle);
    unnamed = λ vehicle year read wrote. absurd (not vehicle);
    stands = Keeps-refl a;
    vehicle = ((λ is. not), (λ out. refl));
    year = ((λ is. absurd (subst year_range is tt)), (λ out. absurd (not out.0)));
    element = λ is. absurd (subst no_element is tt);
    endless = λ is. absurd (subst unread is tt);
    failures = refl;
  }
    where
      year_range : Result ℕ RunFault → Type 0
      year_range (Err run.YearRange) = ⊥
      year_range answer = ⊤

      no_element : Result ℕ RunFault → Type 0
      no_element (Err run.NoElement) = ⊥
      no_element answer = ⊤

      unread : Result ℕ RunFault → Type 0
      unread (Err (run.Records why)) = ⊥
      unread answer = ⊤

  -- Memory is refused before the file is read.
  pub ran_without_memory : subjects.IsVehicleInRange subject → subjects.IsYearInRange subject
      → RanReport subject Text file a a silent before before (Err refusal.Memory)
  ran_without_memory vehicle_in year_in = record {
    answer = Err (run.Records records.NoMemory);
    outcome = refl;
    accepted = λ vehicle year read wrote had. absurd had;
    refused = λ vehicle year read wrote had. absurd had;
    unnamed = λ vehicle year read wrote had. absurd had;
    stands = (Keeps-refl a, λ lost. absurd lost);
    vehicle = ((λ is. absurd (subst unread is tt)), (λ out. absurd (out vehicle_in)));
    year = ((λ is. absurd (subst unread is tt)), (λ out. absurd (out.1 year_in)));
    element = λ is. absurd (subst unread is tt);
    endless = λ is. absurd (subst not_endless is tt);
    failures = refl;
  }
    where
      unread : Result ℕ RunFault → Type 0
      unread (Err (run.Records why)) = ⊤
      unread answer = ⊥

      not_endless : Result ℕ RunFault → Type 0
      not_endless (Err (run.Records records.Endless)) = ⊥
      not_endless answer = ⊤
