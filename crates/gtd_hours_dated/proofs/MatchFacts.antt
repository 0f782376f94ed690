-- The days that match a rule with more month days.
use Rattle.std.proofs.Common.{◌≡◌, ◌∙◌, ap, refl, sym, subst, if◌then◌else◌, ◌⊎◌, inl, inr, ◌↔◌, Bool, true, false}
use Rattle.std.proofs.Common.{List, [], ◌∷◌, ◌++◌, ℕ, ℤ, drop, take}
use Rattle.std.proofs.lemmas.List.{take-append-drop}
use Rattle.std.specs.List.{list_all}
use Rattle.std.specs.Prelude.{◌&&◌}
use Rattle.gtd_calendar.specs.Calendar.{AreFieldsOf}
use Rattle.gtd_calendar.specs.declared.day.DayFields.{DayFields}
use Rattle.gtd_hours.specs.Opening.{EachHolds, Matches, SomeHolds}
use Rattle.gtd_hours.specs.Writable.{selectors}
use Rattle.gtd_hours.specs.declared.hours.Kind.{Kind}
use Rattle.gtd_hours.specs.declared.hours.Selector.{Selector}
use Rattle.gtd_hours.specs.declared.hours.Selector.TheVariants as selector
use Rattle.gtd_hours_dated.specs.Dated.{More, SomeMore, all_days, has_month_days, in_order, names_month_days, names_years}
use Rattle.gtd_hours_dated.specs.Dated.{with_dates}
use Rattle.gtd_hours_dated.specs.declared.more.MonthItem.{MonthItem}
use Rattle.gtd_hours_dated.specs.declared.more.MonthItem.TheVariants as item
use Rattle.gtd_hours_dated.specs.facts.KindFacts.{EachOf, each_append, each_holds, each_of, kinds_more, some_append}

-- ---- month days in an order

-- Some selector of a list is one of the first of them, or one of the others.
some_split : (count : ℕ) (xs : List Selector) (n : ℤ) (f : DayFields)
    → SomeHolds xs n f ↔ (SomeHolds (take count xs) n f ⊎ SomeHolds (drop count xs) n f)
some_split count xs n f =
    let both = some_append (take count xs) (drop count xs) n f in
    let all : take count xs ++ drop count xs ≡ xs = take-append-drop count xs in (
      (λ h. both.0 (subst (λ (l : List Selector). SomeHolds l n f) (sym all) h)),
      (λ h. subst (λ (l : List Selector). SomeHolds l n f) all (both.1 h)),
    )

-- Whatever the order is, one of all of them holds.
some_in_order : (order : List MonthItem) (own dates easter : List Selector) (n : ℤ) (f : DayFields)
    → SomeHolds (in_order order own dates easter) n f
    ↔ (SomeHolds own n f ⊎ (SomeHolds dates n f ⊎ SomeHolds easter n f))
some_in_order [] own dates easter n f =
    let all = some_append (own ++ dates) easter n f in
    let first = some_append own dates n f in (
      (λ h. elim (all.0 h) [
        | inl a ↦ elim (first.0 a) [ inl b ↦ inl b | inr b ↦ inr (inl b) ]
        | inr a ↦ inr (inr a)
      ]),
      (λ h. elim h [
        | inl a ↦ all.1 (inl (first.1 (inl a)))
        | inr a ↦ elim a [ inl b ↦ all.1 (inl (first.1 (inr b))) | inr b ↦ all.1 (inr b) ]
      ]),
    )
some_in_order (item.Own ∷ order) own dates easter n f =
    let all = some_append (take 1 own) (in_order order (drop 1 own) dates easter) n f in
    let later = some_in_order order (drop 1 own) dates easter n f in
    let split = some_split 1 own n f in (
      (λ h. elim (all.0 h) [
        | inl a ↦ inl (split.1 (inl a))
        | inr a ↦ elim (later.0 a) [ inl b ↦ inl (split.1 (inr b)) | inr b ↦ inr b ]
      ]),
      (λ h. elim h [
        | inl a ↦ elim (split.0 a) [ inl b ↦ all.1 (inl b) | inr b ↦ all.1 (inr (later.1 (inl b))) ]
        | inr a ↦ all.1 (inr (later.1 (inr a)))
      ]),
    )
some_in_order (item.Moving ∷ order) own dates easter n f =
    let all = some_append (take 1 dates) (in_order order own (drop 1 dates) easter) n f in
    let later = some_in_order order own (drop 1 dates) easter n f in
    let split = some_split 1 dates n f in (
      (λ h. elim (all.0 h) [
        | inl a ↦ inr (inl (split.1 (inl a)))
        | inr a ↦ elim (later.0 a) [
          | inl b ↦ inl b
          | inr b ↦ elim b [ inl d ↦ inr (inl (split.1 (inr d))) | inr d ↦ inr (inr d) ]
        ]
      ]),
      (λ h. elim h [
        | inl a ↦ all.1 (inr (later.1 (inl a)))
        | inr a ↦ elim a [
          | inl b ↦ elim (split.0 b) [ inl d ↦ all.1 (inl d) | inr d ↦ all.1 (inr (later.1 (inr (inl d)))) ]
          | inr b ↦ all.1 (inr (later.1 (inr (inr b))))
        ]
      ]),
    )
some_in_order (item.Easter ∷ order) own dates easter n f =
    let all = some_append easter (in_order order own dates []) n f in
    let later = some_in_order order own dates [] n f in (
      (λ h. elim (all.0 h) [
        | inl a ↦ inr (inr a)
        | inr a ↦ elim (later.0 a) [
          | inl b ↦ inl b
          | inr b ↦ elim b [ inl d ↦ inr (inl d) | inr d ↦ absurd d ]
        ]
      ]),
      (λ h. elim h [
        | inl a ↦ all.1 (inr (later.1 (inl a)))
        | inr a ↦ elim a [ inl b ↦ all.1 (inr (later.1 (inr (inl b)))) | inr b ↦ all.1 (inl b) ]
      ]),
    )

some_all : (more : More) (own : List Selector) (n : ℤ) (f : DayFields)
    → SomeHolds (all_days more own) n f ↔ (SomeHolds own n f ⊎ SomeMore more n f)
some_all more own n f = some_in_order more.order own more.dates more.easter n f

-- without month days of a text
alone : (more : More) (n : ℤ) (f : DayFields) → SomeHolds (all_days more []) n f ↔ SomeMore more n f
alone more n f =
    let all = some_all more [] n f in ((λ h. elim (all.0 h) [ inl a ↦ absurd a | inr a ↦ a ]), (λ h. all.1 (inr h)))

-- ---- days as a kind of their own

own_shape : (years month_days : Bool) (more : More) (kind : List Selector) (kinds : List (List Selector)) (n : ℤ) (f : DayFields)
    → (if years then has_month_days kinds else month_days) ≡ false
    → (has_month_days kinds ≡ false → EachOf (with_dates more kinds) n f ↔ (EachOf kinds n f × SomeMore more n f))
    → EachOf (if years then kind ∷ with_dates more kinds else if month_days then all_days more kind ∷ kinds
    else all_days more [] ∷ kind ∷ kinds) n f ↔ (EachOf (kind ∷ kinds) n f × SomeMore more n f)
own_shape true month_days more kind kinds n f none later =
    let rest = later none in (
      (λ h. let both = rest.0 h.1 in ((h.0, both.0), both.1)),
      (λ h. (h.0.0, rest.1 (h.0.1, h.1))),
    )
own_shape false true more kind kinds n f none later = absurd cc
own_shape false false more kind kinds n f none later =
    let more_holds = alone more n f in ((λ h. (h.1, more_holds.0 h.0)), (λ h. (more_holds.1 h.1, h.0)))

own_kinds : (more : More) (kinds : List (List Selector)) (n : ℤ) (f : DayFields) → has_month_days kinds ≡ false
    → EachOf (with_dates more kinds) n f ↔ (EachOf kinds n f × SomeMore more n f)
own_kinds more [] n f none =
    let more_holds = alone more n f in ((λ h. (tt, more_holds.0 h.0)), (λ h. (more_holds.1 h.1, tt)))
own_kinds more (kind ∷ kinds) n f none =
    own_shape (names_years kind) (names_month_days kind) more kind kinds n f none (own_kinds more kinds n f)

-- of each kind one holds, and one of the month days
abbrev pub MatchesBoth : More → List Kind → ℤ → Type 0
MatchesBoth more kinds n = (f : DayFields) × AreFieldsOf n f × EachHolds kinds n f × SomeMore more n f

pub own_matches : (more : More) (rule made : List Kind) → has_month_days (selectors rule) ≡ false
    → selectors made ≡ with_dates more (selectors rule) → (n : ℤ) → Matches made n ↔ MatchesBoth more rule n
own_matches more rule made none are n = (
  (λ h.
      let all = subst (λ (l : List (List Selector)). EachOf l n h.0) are (each_of made n h.0 h.2) in
      let both = (own_kinds more (selectors rule) n h.0 none).0 all in
      (h.0, h.1, each_holds rule n h.0 both.0, both.1)),
  (λ h.
      let all = (own_kinds more (selectors rule) n h.0 none).1 (each_of rule n h.0 h.2, h.3) in
      (h.0, h.1, each_holds made n h.0 (subst (λ (l : List (List Selector)). EachOf l n h.0) (sym are) all))),
)

-- ---- days beside month days

no_years : (kind : List Selector) → names_month_days kind ≡ true → names_years kind ≡ false
no_years [] e = absurd cc
no_years (selector.Years x ∷ kind) e = absurd cc
no_years (selector.Months x ∷ kind) e = refl
no_years (selector.Dates x ∷ kind) e = refl
no_years (selector.Dated x ∷ kind) e = refl
no_years (selector.Weeks x ∷ kind) e = refl
no_years (selector.Weekdays x ∷ kind) e = refl
no_years (selector.Nth x ∷ kind) e = refl
no_years (selector.NthBack x ∷ kind) e = refl
no_years (selector.Moved x ∷ kind) e = refl
no_years (selector.Moving x ∷ kind) e = refl
no_years (selector.Yearly x ∷ kind) e = refl

both_true : (a b : Bool) → (a && b) ≡ true → (a ≡ true) × (b ≡ true)
both_true true true e = (refl, refl)
both_true true false e = absurd cc
both_true false b e = absurd cc

joined_kinds : (more : More) (years : List (List Selector)) (month_days : List Selector)
    (others : List (List Selector)) → list_all names_years years ≡ true → names_month_days month_days ≡ true
    → with_dates more (years ++ month_days ∷ others) ≡ years ++ all_days more month_days ∷ others
joined_kinds more [] month_days others all named =
    let none = no_years month_days named in rw (none, named) refl
joined_kinds more (kind ∷ years) month_days others all named =
    let both = both_true (names_years kind) (list_all names_years years) all in
    let rest = joined_kinds more years month_days others both.1 named in
    rw (both.0) (ap (λ (l : List (List Selector)). kind ∷ l) rest)

-- of all other kinds one holds, and of the month days one or one more
abbrev pub MatchesEither : More → List Kind → Kind → List Kind → ℤ → Type 0
MatchesEither more years month_days others n = (f : DayFields) × AreFieldsOf n f × EachHolds years n f
    × (SomeHolds month_days.selectors.items n f ⊎ SomeMore more n f) × EachHolds others n f

pub joined_matches : (more : More) (rule made years others : List Kind) (month_days : Kind)
    → rule ≡ years ++ month_days ∷ others → list_all names_years (selectors years) ≡ true
    → names_month_days month_days.selectors.items ≡ true → selectors made ≡ with_dates more (selectors rule)
    → (n : ℤ) → Matches made n ↔ MatchesEither more years month_days others n
joined_matches more rule made years others month_days split all named are n =
    let items = month_days.selectors.items in
    let last = all_days more items ∷ selectors others in
    let same = are ∙ ap (λ (l : List Kind). with_dates more (selectors l)) split
    ∙ ap (with_dates more) (kinds_more years (month_days ∷ others))
    ∙ joined_kinds more (selectors years) items (selectors others) all named in (
      (λ h.
          let f = h.0 in
          let each = subst (λ (l : List (List Selector)). EachOf l n f) same (each_of made n f h.2) in
          let both = (each_append (selectors years) last n f).0 each in (
            f,
            h.1,
            each_holds years n f both.0,
            (some_all more items n f).0 both.1.0,
            each_holds others n f both.1.1,
          )),
      (λ h.
          let f = h.0 in
          let each = (each_append (selectors years) last n f).1
          (each_of years n f h.2, ((some_all more items n f).1 h.3, each_of others n f h.4)) in
          (f, h.1, each_holds made n f (subst (λ (l : List (List Selector)). EachOf l n f) (sym same) each))),
    )
