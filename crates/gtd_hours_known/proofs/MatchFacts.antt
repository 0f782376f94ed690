-- The days that match a rule with days of holidays.
use Rattle.std.proofs.Common.{◌≡◌, ◌∙◌, ap, refl, sym, subst, if◌then◌else◌, ◌⊎◌, inl, inr, ◌↔◌, Bool, true, false}
use Rattle.std.proofs.Common.{List, [], ◌∷◌, ◌++◌, ℤ, drop, take}
use Rattle.std.proofs.lemmas.List.{take-append-drop}
use Rattle.gtd_calendar.specs.Calendar.{AreFieldsOf}
use Rattle.gtd_calendar.specs.declared.day.DayFields.{DayFields}
use Rattle.gtd_hours.specs.Opening.{EachHolds, Matches, SomeHolds}
use Rattle.gtd_hours.specs.Writable.{selectors}
use Rattle.gtd_hours.specs.declared.hours.Kind.{Kind}
use Rattle.gtd_hours.specs.declared.hours.Selector.{Selector}
use Rattle.gtd_hours_holiday_rules.specs.Rules.{before_holiday}
use Rattle.gtd_hours_known.specs.Joining.{among, has_weekdays, last_with, names_weekdays, with_days}
use Rattle.gtd_hours_known.specs.Said.{EachHoldsOr, MatchesBy}
use Rattle.gtd_hours_dated.specs.facts.KindFacts.{EachOf, each_append, each_holds, each_of, kind_more, some_append}
use Rattle.gtd_hours_known.proofs.JoiningLemmas.{days_last}

-- ---- days as a kind of their own

own_shape : (of_week led : Bool) (days kind both : List Selector) (n : ℤ) (f : DayFields)
    → ((led ≡ true) ⊎ (of_week ≡ false))
    → EachOf (if of_week then (if led then days ∷ kind ∷ [] else both ∷ []) else kind ∷ days ∷ []) n f
    ↔ (SomeHolds kind n f × SomeHolds days n f)
own_shape true true days kind both n f own = ((λ h. (h.1.0, h.0)), (λ h. (h.1, (h.0, tt))))
own_shape true false days kind both n f (inl e) = absurd cc
own_shape true false days kind both n f (inr e) = absurd cc
own_shape false led days kind both n f own = ((λ h. (h.0, h.1.0)), (λ h. (h.0, (h.1, tt))))

with_own : (led : Bool) (order : List Bool) (days : List Selector) (kinds : List (List Selector)) (n : ℤ) (f : DayFields)
    → ((led ≡ true) ⊎ (has_weekdays kinds ≡ false))
    → EachOf (with_days led order days kinds) n f ↔ (EachOf kinds n f × SomeHolds days n f)
with_own led order days [] n f own = ((λ h. (tt, h.0)), (λ h. (h.1, tt)))
with_own led order days (kind ∷ []) n f own =
    let last = own_shape (names_weekdays kind) led days kind (among order days kind) n f own in (
      (λ h. let both = last.0 h in ((both.0, tt), both.1)),
      (λ h. last.1 (h.0.0, h.1)),
    )
with_own led order days (kind ∷ more ∷ kinds) n f own =
    let rest = with_own led order days (more ∷ kinds) n f own in (
      (λ h. let both = rest.0 h.1 in ((h.0, both.0), both.1)),
      (λ h. (h.0.0, rest.1 (h.0.1, h.1))),
    )

pub own_matches : (IsDay : ℤ → Type 0) (led : Bool) (order : List Bool) (days : List Selector) (rule made : List Kind)
    → ((led ≡ true) ⊎ (has_weekdays (selectors rule) ≡ false)) → selectors made ≡ with_days led order days (selectors rule)
    → ((n : ℤ) (f : DayFields) → SomeHolds days n f ↔ IsDay n) → (n : ℤ) → Matches made n ↔ (Matches rule n × IsDay n)
own_matches IsDay led order days rule made own are is n = (
  (λ h.
      let all = subst (λ (l : List (List Selector)). EachOf l n h.0) are (each_of made n h.0 h.2) in
      let both = (with_own led order days (selectors rule) n h.0 own).0 all in
      ((h.0, h.1, each_holds rule n h.0 both.0), (is n h.0).0 both.1)),
  (λ h.
      let f = h.0.0 in
      let both = (with_own led order days (selectors rule) n f own).1 (each_of rule n f h.0.2, (is n f).1 h.1) in
      (f, h.0.1, each_holds made n f (subst (λ (l : List (List Selector)). EachOf l n f) (sym are) both))),
)

-- ---- days beside weekdays

-- Wherever days stand among weekdays, one of both holds.
some_among : (order : List Bool) (days kind : List Selector) (n : ℤ) (f : DayFields)
    → SomeHolds (among order days kind) n f ↔ (SomeHolds kind n f ⊎ SomeHolds days n f)
some_among order days kind n f =
    let front = take (before_holiday order) kind in
    let later = drop (before_holiday order) kind in
    let all = some_append (front ++ days) later n f in
    let first = some_append front days n f in
    let own = some_append front later n f in
    let split : front ++ later ≡ kind = take-append-drop (before_holiday order) kind in (
      (λ h. elim (all.0 h) [
        | inl a ↦ elim (first.0 a) [
          | inl b ↦ inl (subst (λ (l : List Selector). SomeHolds l n f) split (own.1 (inl b)))
          | inr b ↦ inr b
        ]
        | inr a ↦ inl (subst (λ (l : List Selector). SomeHolds l n f) split (own.1 (inr a)))
      ]),
      (λ h. elim h [
        | inl a ↦ elim (own.0 (subst (λ (l : List Selector). SomeHolds l n f) (sym split) a)) [
          | inl b ↦ all.1 (inl (first.1 (inl b)))
          | inr b ↦ all.1 (inr b)
        ]
        | inr a ↦ all.1 (inl (first.1 (inr a)))
      ]),
    )

joined_shape : (order : List Bool) (days kind : List Selector) → names_weekdays kind ≡ true
    → last_with false order days kind ≡ among order days kind ∷ []
joined_shape order days kind e = rw e refl

joined_kinds : (order : List Bool) (days : List Selector) (others : List Kind) (weekdays : Kind)
    → names_weekdays weekdays.selectors.items ≡ true
    → with_days false order days (selectors (others ++ weekdays ∷ []))
    ≡ selectors others ++ among order days weekdays.selectors.items ∷ []
joined_kinds order days others weekdays e =
    ap (λ (l : List (List Selector)). with_days false order days l) (kind_more others weekdays)
    ∙ days_last false order days (selectors others) weekdays.selectors.items
    ∙ ap (λ (l : List (List Selector)). selectors others ++ l) (joined_shape order days weekdays.selectors.items e)

-- of all other kinds one holds, and of the weekdays or the days
abbrev pub MatchesBeside : (ℤ → Type 0) → List Kind → Kind → ℤ → Type 0
MatchesBeside IsDay others weekdays n = (f : DayFields) × AreFieldsOf n f × EachHolds others n f
    × (SomeHolds weekdays.selectors.items n f ⊎ IsDay n)

pub joined_matches : (IsDay : ℤ → Type 0) (order : List Bool) (days : List Selector) (rule made others : List Kind)
    (weekdays : Kind) → rule ≡ others ++ weekdays ∷ [] → names_weekdays weekdays.selectors.items ≡ true
    → selectors made ≡ with_days false order days (selectors rule)
    → ((n : ℤ) (f : DayFields) → SomeHolds days n f ↔ IsDay n)
    → (n : ℤ) → Matches made n ↔ MatchesBeside IsDay others weekdays n
joined_matches IsDay order days rule made others weekdays split e are is n =
    let same = are ∙ ap (λ (l : List Kind). with_days false order days (selectors l)) split
    ∙ joined_kinds order days others weekdays e in
    let last = among order days weekdays.selectors.items ∷ [] in (
      (λ h.
          let f = h.0 in
          let all = subst (λ (l : List (List Selector)). EachOf l n f) same (each_of made n f h.2) in
          let both = (each_append (selectors others) last n f).0 all in
          let some = (some_among order days weekdays.selectors.items n f).0 both.1.0 in (
            f,
            h.1,
            each_holds others n f both.0,
            elim some [ inl a ↦ inl a | inr a ↦ inr ((is n f).0 a) ],
          )),
      (λ h.
          let f = h.0 in
          let some = (some_among order days weekdays.selectors.items n f).1
          (elim (h.3) [ inl a ↦ inl a | inr a ↦ inr ((is n f).1 a) ]) in
          let all = (each_append (selectors others) last n f).1 (each_of others n f h.2, (some, tt)) in
          (f, h.1, each_holds made n f (subst (λ (l : List (List Selector)). EachOf l n f) (sym same) all))),
    )

-- ---- the same by the last kind

joined_last : (IsDay : Type 0) (order : List Bool) (days kind : List Selector) (n : ℤ) (f : DayFields)
    → names_weekdays kind ≡ true → (SomeHolds days n f ↔ IsDay)
    → EachOf (last_with false order days kind) n f ↔ (SomeHolds kind n f ⊎ IsDay)
joined_last IsDay order days kind n f e is =
    let both = some_among order days kind n f in
    let same = joined_shape order days kind e in (
      (λ h. elim (both.0 (subst (λ (l : List (List Selector)). EachOf l n f) same h).0) [
        | inl a ↦ inl a
        | inr a ↦ inr (is.0 a)
      ]),
      (λ h. subst (λ (l : List (List Selector)). EachOf l n f) (sym same)
          (both.1 (elim h [ inl a ↦ inl a | inr a ↦ inr (is.1 a) ]), tt)),
    )

beside_kinds : (IsDay : Type 0) (order : List Bool) (days : List Selector) (kinds : List Kind) (n : ℤ) (f : DayFields)
    → has_weekdays (selectors kinds) ≡ true → (SomeHolds days n f ↔ IsDay)
    → EachOf (with_days false order days (selectors kinds)) n f ↔ EachHoldsOr IsDay kinds n f
beside_kinds IsDay order days [] n f e is = absurd cc
beside_kinds IsDay order days (kind ∷ []) n f e is = joined_last IsDay order days kind.selectors.items n f e is
beside_kinds IsDay order days (kind ∷ more ∷ kinds) n f e is =
    let rest = beside_kinds IsDay order days (more ∷ kinds) n f e is in
    ((λ h. (h.0, rest.0 h.1)), (λ h. (h.0, rest.1 h.1)))

pub beside_matches : (IsDay : ℤ → Type 0) (order : List Bool) (days : List Selector) (rule made : List Kind)
    → has_weekdays (selectors rule) ≡ true → selectors made ≡ with_days false order days (selectors rule)
    → ((n : ℤ) (f : DayFields) → SomeHolds days n f ↔ IsDay n) → (n : ℤ)
    → Matches made n ↔ MatchesBy false (IsDay n) rule n
beside_matches IsDay order days rule made e are is n = (
  (λ h.
      let all = subst (λ (l : List (List Selector)). EachOf l n h.0) are (each_of made n h.0 h.2) in
      (h.0, h.1, (beside_kinds (IsDay n) order days rule n h.0 e (is n h.0)).0 all)),
  (λ h.
      let all = (beside_kinds (IsDay n) order days rule n h.0 e (is n h.0)).1 h.2 in
      (h.0, h.1, each_holds made n h.0 (subst (λ (l : List (List Selector)). EachOf l n h.0) (sym are) all))),
)

-- ---- kinds of the same selectors

pub same_matches : (one other : List Kind) (n : ℤ) → selectors one ≡ selectors other → Matches one n → Matches other n
same_matches one other n e h =
    (h.0, h.1, each_holds other n h.0 (subst (λ (l : List (List Selector)). EachOf l n h.0) e (each_of one n h.0 h.2)))
