use Rattle.std.proofs.Common.{◌≡◌, ◌∙◌, sym, subst, List, ℕ, to_z-of_z}
use Rattle.std.specs.Prelude.{Option, Some, []}
use Rattle.std.specs.Io.KnownBytes.{Appends}
use Rattle.gtd_c.proofs.schedules.schedule_of.Goals as goal

-- what was appended to nothing is all that there is
all_of : (old new : Option (List ℕ)) (bytes text : List ℕ) → old ≡ Some [] → Some bytes ≡ new → Appends old new text
    → bytes ≡ text
all_of old new bytes text was is grown =
    subst (λ (o : Option (List ℕ)). Appends o (Some bytes) text) was
    (subst (λ (o : Option (List ℕ)). Appends old o text) (sym is) grown)

-- The output began empty, and took the lines of the schedule.
pub returns-in-Ok-put-clause-schedule : goal.returns-in-Ok-put-clause-schedule
returns-in-Ok-put-clause-schedule c =
    let put = c.in-Ok-put.ensures.puts in
    let days = c.in-Ok.ensures.horizon in
    record {
      horizon = c.in-Ok.horizon;
      begins = days.0 ∙ to_z-of_z c.ranges.from_day;
      ends = days.1 ∙ to_z-of_z c.ranges.until_day;
      lines = put.0;
      schedule = put.1;
      text = all_of _ _ _ _ c.new-output.ensures.bytes c.into_bytes.ensures.taken put.2.0;
    }
