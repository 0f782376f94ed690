-- The two moments of a line, each by itself.
use Rattle.std.proofs.Common.{◌≡◌, ◌∙◌, ap, ℕ, ℤ, List, [], ◌∷◌, ◌++◌, take, drop}
use Rattle.gtd_calendar.specs.Stamp.{stamp_text}
use Rattle.gtd_schedule.specs.Moments.{AreMoments, IsShown}
use Rattle.gtd_schedule.specs.declared.line.ShownSpan.{ShownSpan}

module _ (shown : ShownSpan) (bytes : List ℕ) (are : AreMoments shown bytes) (part : List ℕ) where
  pub from_shown : part ≡ take 20 bytes → IsShown shown.from part
  from_shown is = record { second = are.from; rest = 44 ∷ []; kept = are.from_kept; is = is ∙ ap (take 20) are.is }

  pub until_shown : part ≡ drop 20 bytes → IsShown shown.until part
  until_shown is = record { second = are.until; rest = 10 ∷ []; kept = are.until_kept; is = is ∙ ap (drop 20) are.is }

  pub from_is : (second : ℤ) (new : List ℕ) → part ≡ take 20 bytes → new ≡ stamp_text second ++ drop 19 part
      → new ≡ stamp_text second ++ (44 ∷ [])
  from_is second new is written = written ∙ ap (λ (l : List ℕ). stamp_text second ++ drop 19 l) (is ∙ ap (take 20) are.is)

  pub until_is : (second : ℤ) (new : List ℕ) → part ≡ drop 20 bytes → new ≡ stamp_text second ++ drop 19 part
      → new ≡ stamp_text second ++ (10 ∷ [])
  until_is second new is written = written ∙ ap (λ (l : List ℕ). stamp_text second ++ drop 19 l) (is ∙ ap (drop 20) are.is)
