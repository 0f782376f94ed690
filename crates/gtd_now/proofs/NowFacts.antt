-- A query has one text.
use Rattle.std.proofs.Common.{◌≡◌, ◌∙◌, sym, ap, refl, subst, ℕ, Bool, true, false, true≢false, List, [], ◌∷◌, inl, inr, Option}
use Rattle.std.proofs.Common.{Some, None}
use Rattle.std.specs.Prelude.{◌↔◌, IfOk, IfSome, IsTrue, Result, Ok, Err, ⊤}
use Rattle.gtd_core.specs.Seconds.{IsHorizonSecond}
use Rattle.gtd_core.specs.facts.Deciding.{Decided}
use Rattle.gtd_records.specs.Closing.{Restriction}
use Rattle.gtd_rows.specs.declared.direction.Direction.{Direction}
use Rattle.gtd_records.specs.facts.OpenDecisions.{open_or_not}
use Rattle.gtd_lines.specs.facts.OneLine.{one_lines}
use Rattle.gtd_lines.specs.facts.SomeLines.{some_lines}
use Rattle.gtd_report.specs.Putting.{IsOne, PutsText}
use Rattle.gtd_report.specs.Run.{HasRun}
use Rattle.gtd_report.specs.declared.fault.RunFault.{RunFault}
use Rattle.gtd_report.specs.declared.fault.RunFault.TheVariants as fault
use Rattle.gtd_report.specs.declared.output.Progress.{Progress}
use Rattle.gtd_report.specs.declared.output.Stop.{Stop}
use Rattle.gtd_report.specs.facts.ElementFacts.{one_by_element}
use Rattle.gtd_report.specs.facts.SomeElements.{some_by_element}
use Rattle.gtd_states.specs.States.{State}
use Rattle.gtd_states.specs.facts.OneState.{one_state}
use Rattle.gtd_states.specs.facts.SomeState.{some_state}
use Rattle.gtd_now.specs.Now.{AreEntries, AreToldLines, IsEntry, IsNow, IsNowOf, IsShown, IsShownNow, entry_in}
use Rattle.gtd_now.specs.Now.{header_of, is_wanted}
use Rattle.gtd_now.specs.Query.{Query}
use Rattle.gtd_now.specs.Run.{TellsVehicle, entries_of}
use Rattle.gtd_now.specs.declared.shown.Shown.{Shown}
use Rattle.gtd_records.specs.File.{IsFile}
use Rattle.gtd_report.specs.facts.RunFacts.{same_found}
use Rattle.gtd_warnings.specs.Vehicles.{IsForSome}

module _ (lines : List ℕ) (found : List Restriction) (query : Query) where
  one_entry : (element : ℕ) (direction : Direction) (a b : List ℕ) → IsEntry lines found query element direction a
      → IsEntry lines found query element direction b → a ≡ b
  one_entry element direction a b p q =
      p.whole
      ∙ ap (λ (s : State). entry_in query.form query.why lines found element direction query.vehicle s)
      (one_state found element direction query.vehicle query.second p.state q.state p.is q.is)
      ∙ sym q.whole

  -- an element has one list of entries in a direction
  pub one_entries : (element : ℕ) (direction : Direction) → IsOne (AreEntries lines found query element direction)
  one_entries element direction a b (AreEntries.shown s x p e) (AreEntries.shown t y q f) =
      e ∙ ap (λ (l : List ℕ). l ∷ []) (one_entry element direction x y p q) ∙ sym f
  one_entries element direction a b (AreEntries.shown s x p e) (AreEntries.hidden none f) = absurd (none s)
  one_entries element direction a b (AreEntries.hidden none e) (AreEntries.shown t y q f) = absurd (none t)
  one_entries element direction a b (AreEntries.hidden none e) (AreEntries.hidden never f) = e ∙ sym f

  -- there is one text at most
  one_shown : IsOne (IsShownNow lines found query)
  one_shown = one_by_element (AreEntries lines found query) one_entries found (header_of query.form)

  -- and one at least
  some_entry : IsHorizonSecond query.second → (element : ℕ) (direction : Direction)
      → (entry : List ℕ) × IsEntry lines found query element direction entry
  some_entry range element direction =
      let s = some_state found element direction query.vehicle query.second range in (
        entry_in query.form query.why lines found element direction query.vehicle s.0,
        record { state = s.0; is = s.1; whole = refl },
      )

  shown_or_not : {A : Type 0} (closed wanted : Bool) → Decided A → Decided (IsTrue wanted × (IsTrue closed → A → ⊥))
  shown_or_not closed false d = inr (λ h. true≢false (sym h.0))
  shown_or_not false true d = inl (refl, (λ h. absurd (true≢false (sym h))))
  shown_or_not true true (inl is) = inr (λ h. h.1 refl is)
  shown_or_not true true (inr never) = inl (refl, (λ h. never))

  -- the entry of an element whose entry is put, or is not
  by_choice : IsHorizonSecond query.second → (element : ℕ) (direction : Direction)
      → Decided (IsShown found query element direction)
      → (entries : List (List ℕ)) × AreEntries lines found query element direction entries
  by_choice range element direction (inl shows) =
      let entry = some_entry range element direction in (entry.0 ∷ [], AreEntries.shown shows entry.0 entry.1 refl)
  by_choice range element direction (inr hides) = ([], AreEntries.hidden hides refl)

  some_shown : IsHorizonSecond query.second → (text : List (List ℕ)) × IsShownNow lines found query text
  some_shown range =
      some_by_element (AreEntries lines found query)
      (λ element direction. by_choice range element direction (shown_or_not query.closed (is_wanted query.wanted element)
      (open_or_not found element direction query.vehicle query.second)))
      found (header_of query.form)

-- ---- the lines that are told

one_told : (why : Bool) (bytes a b : List ℕ) → AreToldLines why bytes a → AreToldLines why bytes b → a ≡ b
one_told false bytes a b p q = p ∙ sym q
one_told true bytes a b p q = one_lines bytes a b p q

some_told : (why : Bool) (bytes : List ℕ) → (lines : List ℕ) × AreToldLines why bytes lines
some_told false bytes = ([], refl)
some_told true bytes = some_lines bytes

pub one_now : (bytes : List ℕ) (found : List Restriction) (query : Query) (a b : List (List ℕ)) → IsNow bytes found query a
    → IsNow bytes found query b → a ≡ b
one_now bytes found query a b p q =
    let same : p.lines ≡ q.lines = one_told query.why bytes p.lines q.lines p.of_file q.of_file in
    one_shown q.lines found query a b (subst (λ (l : List ℕ). IsShownNow l found query a) same p.shown) q.shown

pub some_now : (bytes : List ℕ) (found : List Restriction) (query : Query) → IsHorizonSecond query.second
    → (text : List (List ℕ)) × IsNow bytes found query text
some_now bytes found query range =
    let lines = some_told query.why bytes in
    let shown = some_shown lines.0 found query range in
    (shown.0, record { lines = lines.0; of_file = lines.1; shown = shown.1 })

-- ---- what a run put

module _ (bytes lines : List ℕ) (found : List Restriction) (query : Query) (told : AreToldLines query.why bytes lines) where
  pub puts_now : (put : Result (Unit {0}) Stop) (old new : Option (List ℕ)) (before after : Progress)
      → PutsText (IsShownNow lines found query) put old new before after
      → PutsText (IsNow bytes found query) put old new before after
  puts_now (Ok done) old new before after puts =
      (puts.0, record { lines = lines; of_file = told; shown = puts.1 }, puts.2)
  puts_now (Err stop) old new before after puts = λ text is.
      let same : is.lines ≡ lines = one_told query.why bytes is.lines lines is.of_file told in
      puts text (subst (λ (l : List ℕ). IsShownNow l found query text) same is.shown)

-- the same of an input that may tell its bytes
pub of_input : (bytes : List ℕ) (query : Query) (file old new : Option (List ℕ)) (answer : Result ℕ RunFault)
    → IfSome file (λ all. bytes ≡ all)
    → HasRun (λ found. ⊤) (λ found. IsNow bytes found query) (Some bytes) old new answer
    → HasRun (λ found. ⊤) (λ found. IsNowOf file found query) file old new answer
of_input bytes query None old new (Ok count) is ran = tt
of_input bytes query None old new (Err fault.VehicleRange) is ran = ran
of_input bytes query None old new (Err fault.YearRange) is ran = ran
of_input bytes query None old new (Err (fault.Records why)) is ran = (ran.0, λ free. tt)
of_input bytes query None old new (Err fault.NoElement) is ran = (ran.0, tt)
of_input bytes query None old new (Err (fault.WriteFault n)) is ran = tt
of_input bytes query None old new (Err (fault.NoMemory n)) is ran = tt
of_input bytes query (Some all) old new answer is ran =
    subst (λ (b : List ℕ). HasRun (λ found. ⊤) (λ found. IsNow b found query) (Some b) old new answer) is ran

pub vehicle_of_input : (bytes : List ℕ) (vehicle : ℕ) (file : Option (List ℕ)) (answer : Result Shown RunFault)
    → IfSome file (λ all. bytes ≡ all) → TellsVehicle vehicle (Some bytes) answer → TellsVehicle vehicle file answer
vehicle_of_input bytes vehicle file (Err why) is told = tt
vehicle_of_input bytes vehicle None (Ok shown) is told = tt
vehicle_of_input bytes vehicle (Some all) (Ok shown) is told =
    subst (λ (b : List ℕ). TellsVehicle vehicle (Some b) (Ok shown)) is told

-- the answer is this fault
pub fault_of : (answer : Result Shown RunFault) (why : RunFault) → entries_of answer ≡ Err why → answer ≡ Err why
fault_of (Ok shown) why e = cc
fault_of (Err other) why e = let same : other ≡ why = cc in ap (λ (w : RunFault). Err w) same

-- whether some row of the file is for the vehicle type
pub known : (bytes : List ℕ) (vehicle : ℕ) (found : List Restriction) (answer : Result Shown RunFault) (some : Bool)
    → IsFile bytes (Ok found) → IfOk answer (λ shown. shown.is_for_some ≡ some) → IsTrue some ↔ IsForSome found vehicle
    → TellsVehicle vehicle (Some bytes) answer
known bytes vehicle found (Err why) some file same is = tt
known bytes vehicle found (Ok shown) some file same is = λ other of_file.
    let one : found ≡ other = same_found bytes found other file of_file in
    rw (same, sym one) is
