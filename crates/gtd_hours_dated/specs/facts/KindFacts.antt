-- The selectors of kinds, and the days on which they hold.
use Rattle.std.proofs.Common.{◌≡◌, ap, refl, ◌⊎◌, inl, inr, ◌↔◌, List, [], ◌∷◌, ◌++◌, ℤ}
use Rattle.gtd_calendar.specs.declared.day.DayFields.{DayFields}
use Rattle.gtd_hours.specs.Opening.{EachHolds, SomeHolds}
use Rattle.gtd_hours.specs.Writable.{selectors}
use Rattle.gtd_hours.specs.declared.hours.Kind.{Kind}
use Rattle.gtd_hours.specs.declared.hours.Selector.{Selector}

-- one kind more
pub kind_more : (kinds : List Kind) (kind : Kind)
    → selectors (kinds ++ kind ∷ []) ≡ selectors kinds ++ kind.selectors.items ∷ []
kind_more [] kind = refl
kind_more (k ∷ kinds) kind = ap (λ (l : List (List Selector)). k.selectors.items ∷ l) (kind_more kinds kind)

-- some kinds more
pub kinds_more : (kinds others : List Kind) → selectors (kinds ++ others) ≡ selectors kinds ++ selectors others
kinds_more [] others = refl
kinds_more (k ∷ kinds) others = ap (λ (l : List (List Selector)). k.selectors.items ∷ l) (kinds_more kinds others)

-- of each kind of selectors one holds
abbrev pub EachOf : List (List Selector) → ℤ → DayFields → Type 0
EachOf [] n f = Unit {0}
EachOf (kind ∷ kinds) n f = SomeHolds kind n f × EachOf kinds n f

pub each_of : (kinds : List Kind) (n : ℤ) (f : DayFields) → EachHolds kinds n f → EachOf (selectors kinds) n f
each_of [] n f h = tt
each_of (kind ∷ kinds) n f h = (h.0, each_of kinds n f h.1)

pub each_holds : (kinds : List Kind) (n : ℤ) (f : DayFields) → EachOf (selectors kinds) n f → EachHolds kinds n f
each_holds [] n f h = tt
each_holds (kind ∷ kinds) n f h = (h.0, each_holds kinds n f h.1)

-- one of two lists of selectors holds
pub some_append : (xs ys : List Selector) (n : ℤ) (f : DayFields)
    → SomeHolds (xs ++ ys) n f ↔ (SomeHolds xs n f ⊎ SomeHolds ys n f)
some_append [] ys n f = ((λ h. inr h), (λ h. elim h [ inl a ↦ absurd a | inr a ↦ a ]))
some_append (x ∷ xs) ys n f =
    let more = some_append xs ys n f in (
      (λ h. elim h [
        | inl a ↦ inl (inl a)
        | inr a ↦ elim (more.0 a) [ inl b ↦ inl (inr b) | inr b ↦ inr b ]
      ]),
      (λ h. elim h [
        | inl a ↦ elim a [ inl b ↦ inl b | inr b ↦ inr (more.1 (inl b)) ]
        | inr a ↦ inr (more.1 (inr a))
      ]),
    )

-- of some kinds, and of those behind them
pub each_append : (kinds others : List (List Selector)) (n : ℤ) (f : DayFields)
    → EachOf (kinds ++ others) n f ↔ (EachOf kinds n f × EachOf others n f)
each_append [] others n f = ((λ h. (tt, h)), (λ h. h.1))
each_append (kind ∷ kinds) others n f =
    let more = each_append kinds others n f in (
      (λ h. let p = more.0 h.1 in ((h.0, p.0), p.1)),
      (λ h. (h.0.0, more.1 (h.0.1, h.1))),
    )
