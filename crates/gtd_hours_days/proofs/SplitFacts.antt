-- Runs that are split, one more at a time.
use Rattle.std.proofs.Common.{◌≡◌, refl, inl, inr, ◌++◌, List, [], ◌∷◌, Option, Some, None}
use Rattle.std.specs.Prelude.{MatchOption}
use Rattle.gtd_hours_holidays.specs.declared.days.Days.{Days}
use Rattle.gtd_hours_holidays.specs.declared.known_years.KnownYears.{KnownYears}
use Rattle.gtd_hours_holidays.specs.declared.run.Run.{Run}
use Rattle.gtd_hours_days.specs.Groups.{AreSplit, IsYearly}
use Rattle.gtd_hours_days.specs.declared.group.Group.{Group}
use Rattle.gtd_hours_days.specs.declared.split.Split.{Split}

pub yearly_more : (days : Days) (years : KnownYears) (runs : List Run) (found : List Group) (others : List Run) (run : Run)
    (group : Group) → IsYearly days years run group → AreSplit days years runs found others
    → AreSplit days years (runs ++ run ∷ []) (found ++ group ∷ []) others
yearly_more days years [] found others run group yearly split =
    inl (group, [], yearly, (refl, split.1), rw split.0 refl)
yearly_more days years (r ∷ runs) found others run group yearly (inl x) =
    inl (x.0, x.1 ++ group ∷ [], x.2, yearly_more days years runs x.1 others run group yearly x.3, rw x.4 refl)
yearly_more days years (r ∷ runs) found others run group yearly (inr x) =
    inr (x.0, x.1, yearly_more days years runs found x.0 run group yearly x.2, x.3)

pub other_more : (days : Days) (years : KnownYears) (runs : List Run) (found : List Group) (others : List Run) (run : Run)
    → ((group : Group) → IsYearly days years run group → ⊥) → AreSplit days years runs found others
    → AreSplit days years (runs ++ run ∷ []) found (others ++ run ∷ [])
other_more days years [] found others run never split = inr ([], never, (split.0, refl), rw split.1 refl)
other_more days years (r ∷ runs) found others run never (inl x) =
    inl (x.0, x.1, x.2, other_more days years runs x.1 others run never x.3, x.4)
other_more days years (r ∷ runs) found others run never (inr x) =
    inr (x.0 ++ run ∷ [], x.1, other_more days years runs found x.0 run never x.2, rw x.3 refl)

-- one more run, put where it belongs
pub put_more : (days : Days) (years : KnownYears) (runs : List Run) (old new : Split) (run : Run) (group : Option Group)
    → AreSplit days years runs old.found.items old.others.items
    → MatchOption group ((g : Group) → IsYearly days years run g → ⊥) (IsYearly days years run)
    → MatchOption group
    ((new.found.items ≡ old.found.items) × (new.others.items ≡ old.others.items ++ run ∷ []))
    (λ found. (new.found.items ≡ old.found.items ++ found ∷ []) × (new.others.items ≡ old.others.items))
    → AreSplit days years (runs ++ run ∷ []) new.found.items new.others.items
put_more days years runs old new run None split never put =
    rw (put.0, put.1) (other_more days years runs old.found.items old.others.items run never split)
put_more days years runs old new run (Some group) split yearly put =
    rw (put.0, put.1) (yearly_more days years runs old.found.items old.others.items run group yearly split)
