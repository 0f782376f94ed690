-- What the claims of the runs say of the writer that was lent to their device.
use Rattle.std.proofs.Common.{◌≡◌, ℕ, List, Option}
use Rattle.std.specs.Prelude.{⊤, Result}
use Rattle.gtd_core.specs.declared.horizon.Horizon.{Horizon}
use Rattle.gtd_roads.specs.Closing.{Restriction}
use Rattle.gtd_roads.specs.Migrated.{migrated}
use Rattle.gtd_roads.specs.Run.{AcceptedFilesArePut, PutsWhole, RefusedFilesPutNothing, UnacceptedFilesPutNothing}
use Rattle.gtd_roads.specs.RunFault.{RunFault}
use Rattle.gtd_roads.specs.Schedule.{IsSchedule}
use Rattle.gtd_roads.specs.Theorem.{Headline, MigrationClaim}
use Rattle.gtd_roads.specs.facts.ShownFacts.{puts-schedule}
use Rattle.gtd_tool.proofs.LoanLemmas.{Passes, if_some, if_some_all, passes_kept}

module _ (a b c d : Option (List ℕ)) (pass : Passes a b c d) (file : Option (List ℕ)) (answer : Result ℕ RunFault) where
  whole : (IsText : List (List ℕ) → Type 0) → PutsWhole IsText a b answer → PutsWhole IsText c d answer
  whole IsText h = record { lines = h.lines; is_text = h.is_text; taken = pass _ h.taken; count = h.count }

  pub accepted_passed : (IsAccepted : List Restriction → Type 0) (IsText : List Restriction → List (List ℕ) → Type 0)
      → AcceptedFilesArePut IsAccepted IsText file a b answer → AcceptedFilesArePut IsAccepted IsText file c d answer
  accepted_passed IsAccepted IsText claim free =
      if_some file _ _ (λ bytes put found is accepted. whole (IsText found) (put found is accepted)) (claim free)

  pub refused_passed : RefusedFilesPutNothing file a b answer → RefusedFilesPutNothing file c d answer
  refused_passed claim free =
      if_some file _ _ (λ bytes put why is. ((put why is).0, passes_kept a b c d pass (put why is).1)) (claim free)

  pub unnamed_passed : (IsAccepted : List Restriction → Type 0) → UnacceptedFilesPutNothing IsAccepted file a b answer
      → UnacceptedFilesPutNothing IsAccepted file c d answer
  unnamed_passed IsAccepted claim free = if_some file _ _
      (λ bytes put found is never. ((put found is never).0, passes_kept a b c d pass (put found is never).1)) (claim free)

-- ---- reports for which each record file is accepted

module _ (file a b : Option (List ℕ)) (answer : Result ℕ RunFault) where
  pub none_unnamed : UnacceptedFilesPutNothing (λ found. ⊤) file a b answer
  none_unnamed free = if_some_all file _ (λ bytes found is never. absurd (never tt))

  pub of_headline : (vehicle : ℕ) (horizon : Horizon) → Headline vehicle horizon file a b answer
      → AcceptedFilesArePut (λ found. ⊤) (λ found. IsSchedule found vehicle horizon) file a b answer
  of_headline vehicle horizon claim free =
      if_some file _ _
      (λ bytes put found is accepted. (puts-schedule found vehicle horizon a b answer).0 (put found is)) (claim.accepted free)

  pub of_migration : MigrationClaim file a b answer
      → AcceptedFilesArePut (λ found. ⊤) (λ found lines. lines ≡ migrated found) file a b answer
  of_migration claim free = if_some file _ _ (λ bytes put found is accepted. put found is) (claim.accepted free)
