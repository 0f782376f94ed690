-- A rule of hours has the days and the spans that the rule of the text says.
use Rattle.std.proofs.Common.{◌≡◌, ◌∙◌, ap, refl, sym, subst, ◌⊎◌, inl, inr, ◌↔◌, Bool, true, false}
use Rattle.std.proofs.Common.{List, [], ◌∷◌, ℤ}
use Rattle.std.specs.Prelude.{◌||◌, not, Some}
use Rattle.gtd_calendar.specs.declared.day.DayFields.{DayFields}
use Rattle.gtd_hours.specs.Opening.{InSpans, IsOnMatch, IsTimeOn, Matches, SomeHolds}
use Rattle.gtd_hours.specs.Writable.{selectors}
use Rattle.gtd_hours.specs.declared.hours.Kind.{Kind}
use Rattle.gtd_hours.specs.declared.hours.Link.{Link}
use Rattle.gtd_hours.specs.declared.hours.Rule.{Rule}
use Rattle.gtd_hours.specs.declared.hours.Selector.{Selector}
use Rattle.gtd_hours.specs.declared.hours.TimeRange.{TimeRange}
use Rattle.gtd_hours_text.specs.facts.SameRules.{SameRule}
use Rattle.gtd_hours_days.specs.Listed.{SomeListed}
use Rattle.gtd_hours_days.specs.declared.listed.Listed.{Listed}
use Rattle.gtd_hours_holidays.specs.declared.holidays.Holidays.{Holidays}
use Rattle.gtd_hours_holidays.specs.declared.known_years.KnownYears.{KnownYears}
use Rattle.gtd_hours_holiday_rules.specs.declared.rules.HolidayRule.{HolidayRule}
use Rattle.gtd_hours_known.specs.Joining.{has_weekdays, with_days}
use Rattle.gtd_hours_known.specs.Rules.{AreGivenDays, HasHolidays, IsGiven, WithAny}
use Rattle.gtd_hours_known.specs.Said.{EachHoldsOr, InSpansOf, IsHoliday, IsOnDayOf, MatchesBy, MatchesRule}
use Rattle.gtd_hours_known.specs.Said.{MatchesWith, restricts}
use Rattle.gtd_hours_known.specs.declared.known.Known.{Known}
use Rattle.gtd_hours_known.proofs.MatchFacts.{beside_matches, own_matches, same_matches}

-- ---- the table that is given is one

same_some : {A : Type 0} (a b : A) → Some a ≡ Some b → a ≡ b
same_some a b e = cc

holiday_given : (known : Known) (table : Holidays) (years : KnownYears) (listed : List Listed) (n : ℤ)
    → IsGiven known table years → SomeListed table.rows.items years listed n ↔ IsHoliday known listed n
holiday_given known table years listed n given = (
  (λ h. (table, years, given, h)),
  (λ h.
      let same_table = same_some h.0 table (sym h.2.has_table ∙ given.has_table) in
      let same_years = same_some h.1 years (sym h.2.has_years ∙ given.has_years) in
      subst (λ (y : KnownYears). SomeListed table.rows.items y listed n) same_years
      (subst (λ (t : Holidays). SomeListed t.rows.items h.1 listed n) same_table h.3)),
)

-- ---- days

restricting : (led weekdays : Bool) → (led || not weekdays) ≡ true → (led ≡ true) ⊎ (weekdays ≡ false)
restricting true weekdays e = inl refl
restricting false true e = absurd cc
restricting false false e = inr refl

beside : (led weekdays : Bool) → (led || not weekdays) ≡ false → (led ≡ false) × (weekdays ≡ true)
beside true weekdays e = absurd cc
beside false true e = (refl, refl)
beside false false e = absurd cc

by_restriction : (b : Bool) (known : Known) (listed : List Listed) (led : Bool) (order : List Bool) (days : List Selector)
    (rule made : List Kind) → b ≡ restricts led rule → selectors made ≡ with_days led order days (selectors rule)
    → ((n : ℤ) (f : DayFields) → SomeHolds days n f ↔ IsHoliday known listed n) → (n : ℤ)
    → Matches made n ↔ MatchesBy b (IsHoliday known listed n) rule n
by_restriction true known listed led order days rule made e are is n =
    own_matches (IsHoliday known listed) led order days rule made (restricting led (has_weekdays (selectors rule)) (sym e)) are
    is n
by_restriction false known listed led order days rule made e are is n =
    let both = beside led (has_weekdays (selectors rule)) (sym e) in
    beside_matches (IsHoliday known listed) order days rule made both.1
    (are ∙ ap (λ (b : Bool). with_days b order days (selectors rule)) both.0) is n

both_iff : (A B C : Type 0) → (A ↔ B) → (B ↔ C) → A ↔ C
both_iff A B C p q = ((λ a. q.0 (p.0 a)), (λ c. p.1 (q.1 c)))

-- What a rule of hours has of the rule of a text, without whose holidays it is this one.
pub record IsMadeOf (known : Known) (from : HolidayRule) (rule made : Rule) : Type 0 where
  pub days : (n : ℤ) → Matches made.kinds.items n ↔ MatchesRule known from rule n
  pub times : made.times ≡ rule.times
  pub modifier : made.modifier ≡ rule.modifier
  pub link : made.link ≡ from.link

-- by the holidays, which lead or not
abbrev Made : Known → List Listed → Bool → Link → Rule → Rule → Type 0
Made known listed led by rule made =
    ((n : ℤ) → Matches made.kinds.items n ↔ MatchesWith known led listed rule.kinds.items n)
    × (made.times ≡ rule.times) × (made.modifier ≡ rule.modifier) × (made.link ≡ by)

made_with : (known : Known) (listed : List Listed) (led : Bool) (order : List Bool) (by : Link) (days : List Selector)
    (rule made : Rule) → AreGivenDays known listed days → WithAny listed led order by days rule made
    → Made known listed led by rule made
made_with known [] led order by days rule made given is = (
  (λ n.
      let same = ap (λ (r : Rule). r.kinds) is in
      ((λ h. subst (λ (k : _). Matches k.items n) same h), (λ h. subst (λ (k : _). Matches k.items n) (sym same) h))),
  ap (λ (r : Rule). r.times) is,
  ap (λ (r : Rule). r.modifier) is,
  ap (λ (r : Rule). r.link) is,
)
made_with known (h ∷ listed) led order by days rule made given is = (
  (λ n. by_restriction (restricts led rule.kinds.items) known (h ∷ listed) led order days rule.kinds.items made.kinds.items refl
      is.kinds (λ m f. both_iff _ _ _ (given.3.1 m f) (holiday_given known given.0 given.1 (h ∷ listed) m given.2)) n),
  is.times,
  is.modifier,
  is.link,
)

pub made_of : (known : Known) (from : HolidayRule) (days : List Selector) (rule made : Rule)
    → AreGivenDays known from.holidays.items days → HasHolidays from days rule made → IsMadeOf known from rule made
made_of known from days rule made given is =
    let all = made_with known from.holidays.items from.is_led from.order.items from.link days rule made given is in record {
      days = all.0;
      times = all.1;
      modifier = all.2;
      link = all.3;
    }

-- ---- spans

pub same_spans : (known : Known) (from : HolidayRule) (rule made : Rule) (s : ℤ) → IsMadeOf known from rule made
    → InSpans made.kinds.items made.times.items s ↔ InSpansOf known from rule s
same_spans known from rule made s is =
    let times = ap (λ (t : _). t.items) is.times in (
      (λ h. (h.0, (is.days h.0).0 h.1, subst (λ (t : List TimeRange). IsTimeOn t h.0 s) times h.2)),
      (λ h. (h.0, (is.days h.0).1 h.1, subst (λ (t : List TimeRange). IsTimeOn t h.0 s) (sym times) h.2)),
    )

pub same_match : (known : Known) (from : HolidayRule) (rule made : Rule) (s : ℤ) → IsMadeOf known from rule made
    → IsOnMatch made.kinds.items s ↔ IsOnDayOf known from rule s
same_match known from rule made s is =
    ((λ h. (h.0, h.1, (is.days h.0).0 h.2)), (λ h. (h.0, h.1, (is.days h.0).1 h.2)))

-- ---- rules of the same selectors

heads : {A : Type 0} (x y : A) (xs ys : List A) → x ∷ xs ≡ y ∷ ys → x ≡ y
heads x y xs ys e = cc

tails : {A : Type 0} (x y : A) (xs ys : List A) → x ∷ xs ≡ y ∷ ys → xs ≡ ys
tails x y xs ys e = cc

holds_or : (Other : Type 0) (a b : List Kind) (n : ℤ) (f : DayFields) → selectors a ≡ selectors b
    → EachHoldsOr Other a n f → EachHoldsOr Other b n f
holds_or Other [] [] n f e h = h
holds_or Other [] (k ∷ ks) n f e h = absurd cc
holds_or Other (k ∷ []) [] n f e h = absurd cc
holds_or Other (k ∷ []) (j ∷ []) n f e h = elim h [
  | inl a ↦ inl (subst (λ (l : List Selector). SomeHolds l n f) (heads _ _ _ _ e) a)
  | inr a ↦ inr a
]
holds_or Other (k ∷ []) (j ∷ more ∷ js) n f e h = absurd cc
holds_or Other (k ∷ more ∷ ks) [] n f e h = absurd cc
holds_or Other (k ∷ more ∷ ks) (j ∷ []) n f e h = absurd cc
holds_or Other (k ∷ more ∷ ks) (j ∷ next ∷ js) n f e h = (
  subst (λ (l : List Selector). SomeHolds l n f) (heads _ _ _ _ e) h.0,
  holds_or Other (more ∷ ks) (next ∷ js) n f (tails _ _ _ _ e) h.1,
)

by_selectors : (b c : Bool) (Holiday : Type 0) (one other : List Kind) (n : ℤ) → b ≡ c → selectors one ≡ selectors other
    → MatchesBy b Holiday one n → MatchesBy c Holiday other n
by_selectors true true Holiday one other n s e h = (same_matches one other n e h.0, h.1)
by_selectors true false Holiday one other n s e h = absurd cc
by_selectors false true Holiday one other n s e h = absurd cc
by_selectors false false Holiday one other n s e h = (h.0, h.1, holds_or Holiday one other n h.0 e h.2)

matches_with : (known : Known) (led : Bool) (listed : List Listed) (one other : List Kind) (n : ℤ)
    → selectors one ≡ selectors other → MatchesWith known led listed one n → MatchesWith known led listed other n
matches_with known led [] one other n e h = same_matches one other n e h
matches_with known led (x ∷ listed) one other n e h =
    by_selectors (restricts led one) (restricts led other) (IsHoliday known (x ∷ listed) n) one other n
    (ap (λ (l : List (List Selector)). led || not (has_weekdays l)) e) e h

spans_to : (known : Known) (from : HolidayRule) (one other : Rule) (s : ℤ) → SameRule one other
    → InSpansOf known from one s → InSpansOf known from other s
spans_to known from one other s same h = (
  h.0,
  matches_with known from.is_led from.holidays.items one.kinds.items other.kinds.items h.0 same.kinds h.1,
  subst (λ (t : List TimeRange). IsTimeOn t h.0 s) same.times h.2,
)

match_to : (known : Known) (from : HolidayRule) (one other : Rule) (s : ℤ) → SameRule one other
    → IsOnDayOf known from one s → IsOnDayOf known from other s
match_to known from one other s same h = (
  h.0,
  h.1,
  matches_with known from.is_led from.holidays.items one.kinds.items other.kinds.items h.0 same.kinds h.2,
)

turned : (one other : Rule) → SameRule one other → SameRule other one
turned one other same = record {
  kinds = sym same.kinds;
  times = sym same.times;
  modifier = sym same.modifier;
  link = sym same.link;
}

pub spans_of_same : (known : Known) (from : HolidayRule) (one other : Rule) (s : ℤ) → SameRule one other
    → InSpansOf known from other s ↔ InSpansOf known from one s
spans_of_same known from one other s same =
    (spans_to known from other one s (turned one other same), spans_to known from one other s same)

pub match_of_same : (known : Known) (from : HolidayRule) (one other : Rule) (s : ℤ) → SameRule one other
    → IsOnDayOf known from other s ↔ IsOnDayOf known from one s
match_of_same known from one other s same =
    (match_to known from other one s (turned one other same), match_to known from one other s same)
