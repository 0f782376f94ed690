-- The classes that lead on, one class more.
use Rattle.std.proofs.Common.{◌≡◌, ◌∙◌, ℕ, ◌+◌, ◌<◌, ◌++◌, ◌∷◌, [], List, Bool, true, false, length, refl, ap, get_or, take}
use Rattle.std.proofs.lemmas.List.Elements.{filter-append}
use Rattle.std.proofs.lemmas.List.{take_more}
use Rattle.std.specs.List.{filter}
use Rattle.gtd_hours_grammar2.specs.declared.class.Class.{Class}
use Rattle.gtd_hours_grammar2.specs.declared.class.Class.TheVariants as class
use Rattle.gtd_hours_grammar2.specs.declared.state.State.{State}
use Rattle.gtd_hours_grammar2.specs.Machine.{leads_on, only_if}

one : (p : Class → Bool) (c : Class) (b : Bool) → p c ≡ b → filter p (c ∷ []) ≡ only_if b c
one p c true h = rw h refl
one p c false h = rw h refl

pub one_more : (s : State) (cs : List Class) (i : ℕ) → i < length cs
    → filter (leads_on s) (take (i + 1) cs)
    ≡ filter (leads_on s) (take i cs) ++ only_if (leads_on s (get_or cs i class.Year)) (get_or cs i class.Year)
one_more s cs i h =
    ap (filter (leads_on s)) (take_more cs i class.Year h)
    ∙ filter-append (leads_on s) (take i cs) (get_or cs i class.Year ∷ [])
    ∙ ap (λ (xs : List Class). filter (leads_on s) (take i cs) ++ xs)
    (one (leads_on s) (get_or cs i class.Year) (leads_on s (get_or cs i class.Year)) refl)
