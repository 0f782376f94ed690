-- A weekday at places of the month, one after another.
use Rattle.std.proofs.Common.{◌≡◌, ℕ, ◌+◌, ◌≤◌, ◌<◌, List, [], ◌∷◌, ◌++◌, refl, sym, ap, subst, ◌∙◌, append_assoc, arith}
use Rattle.std.proofs.lemmas.List.{append-nil}
use Rattle.gtd_hours.specs.declared.hours.Selector.{Selector}
use Rattle.gtd_hours.specs.declared.hours.Selector.TheVariants as selector
use Rattle.gtd_hours.specs.declared.hours.WeekdayPlace.{WeekdayPlace}
use Rattle.gtd_hours_text.specs.Adding.{AddsPlace, AddsPlaces, AddsUpTo}
use Rattle.gtd_hours_text.specs.Standing.{ArePlaces, IsPlace}

pub none_added : (list : List Selector) (weekday first last : ℕ) → AddsUpTo list weekday first first last list
none_added list weekday first last =
    record { xs = []; all = sym (append-nil list); inside = omega (arith); are = λ ys are. are }

pub one_added : (list before after : List Selector) (weekday first number last : ℕ) → number ≤ last
    → AddsUpTo list weekday first number last before → AddsPlace before weekday number after
    → AddsUpTo list weekday first (number + 1) last after
one_added list before after weekday first number last le so_far adds = record {
  xs = so_far.xs ++ adds.x ∷ [];
  all = adds.all ∙ ap (λ (l : List Selector). l ++ adds.x ∷ []) so_far.all ∙ append_assoc list so_far.xs (adds.x ∷ []);
  inside = let before = so_far.inside in omega (arith, before);
  are = λ ys are. subst (λ (l : List Selector). ArePlaces weekday first last l) (sym (append_assoc so_far.xs (adds.x ∷ []) ys))
      (so_far.are (adds.x ∷ ys) (ArePlaces.place number last adds.x ys (adds.x ∷ ys) le refl adds.is are));
}

pub all_added : (list after : List Selector) (weekday first number last : ℕ) → last < number
    → AddsUpTo list weekday first number last after → AddsPlaces list weekday first last after
all_added list after weekday first number last lt so_far = record {
  xs = so_far.xs;
  all = so_far.all;
  are = subst (λ (l : List Selector). ArePlaces weekday first last l) (append-nil so_far.xs)
      (so_far.are [] (ArePlaces.past number last [] lt refl));
}

pub is_place : (x : Selector) (weekday number : ℕ) (p : WeekdayPlace) → x ≡ selector.Nth p → p.weekday ≡ weekday
    → p.number ≡ number
    → IsPlace weekday number x
is_place x weekday number p e w n = subst (λ (y : Selector). IsPlace weekday number y) (sym e) (w, n)
