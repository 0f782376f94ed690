-- Weekdays as an offset moves them, one after another.
use Rattle.std.proofs.Common.{◌≡◌, List, [], ◌∷◌, Option, length, refl, sym, subst, arith}
use Rattle.std.proofs.lemmas.List.{append-nil}
use Rattle.gtd_hours.specs.declared.hours.Selector.{Selector}
use Rattle.gtd_hours_parts.specs.declared.days.Days.{Days}
use Rattle.gtd_hours_text.specs.Adding.{AddsMoved, AddsSome}
use Rattle.gtd_hours_text.specs.Standing.{AreMoved}

pub empty : (xs : List Selector) → length xs ≡ 0 → xs ≡ []
empty [] e = refl
empty (x ∷ xs) e = absurd (omega (arith, e))

-- where none are left, all are added
pub all_moved : (days : Option Days) (list unmoved rest after : List Selector) → rest ≡ []
    → AddsSome days list unmoved rest after → AddsMoved days list unmoved after
all_moved days list unmoved rest after e so_far = record {
  xs = so_far.xs;
  all = so_far.all;
  are = λ o is. subst (λ (l : List Selector). AreMoved o unmoved l) (append-nil so_far.xs)
      (so_far.are o is [] (subst (λ (l : List Selector). AreMoved o l []) (sym e) (record {})));
}
