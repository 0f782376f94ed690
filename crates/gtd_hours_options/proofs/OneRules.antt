-- Rules of a text that say the same need the same, and stand for rules of hours that are alike.
use Rattle.std.proofs.Common.{◌≡◌, ◌∙◌, sym, ap, refl, subst, arith, inl, inr, ℕ, zero, suc, ℤ, ◌≤ℤ◌, Bool, true, false}
use Rattle.std.proofs.Common.{List, [], ◌∷◌, ◌++◌, map}
use Rattle.std.proofs.lemmas.Int.{by_lt_z}
use Rattle.std.specs.Prelude.{◌&&◌, ◌||◌, if◌then◌else◌, get_or, is_some, not, Option, Some, None}
use Rattle.gtd_calendar.specs.facts.Signed.{signed_arith}
use Rattle.gtd_hours.specs.Writable.{is_fallback}
use Rattle.gtd_hours.specs.declared.hours.Hours.{Hours}
use Rattle.gtd_hours.specs.declared.hours.Rule.{Rule}
use Rattle.gtd_hours.specs.declared.hours.Selector.{Selector}
use Rattle.gtd_hours_days.specs.Listed.{CoversAll, CoversYears, IsFirstUncovered, IsUncovered, kind_of}
use Rattle.gtd_hours_days.specs.declared.listed.Listed.{Listed}
use Rattle.gtd_hours_holidays.specs.Table.{IsCovered}
use Rattle.gtd_hours_holidays.specs.declared.holidays.Holidays.{Holidays}
use Rattle.gtd_hours_holidays.specs.declared.known_years.KnownYears.{KnownYears}
use Rattle.gtd_hours_holidays.specs.declared.row.HolidayKind.{HolidayKind}
use Rattle.gtd_hours_holidays.specs.declared.row.HolidayRow.{HolidayRow}
use Rattle.gtd_hours_holiday_rules.specs.Rules.{Said, said_by}
use Rattle.gtd_hours_holiday_rules.specs.declared.rules.HolidayRule.{HolidayRule}
use Rattle.gtd_hours_known.specs.Easter.{AreEasterDays, IsOwnHours, more_days}
use Rattle.gtd_hours_known.specs.Given.{no_easter_years, no_last_year, none_given, or_later}
use Rattle.gtd_hours_known.specs.Needs.{first_need, need_of, not_known, some_falls_back}
use Rattle.gtd_hours_known.specs.Rules.{AreAllSaid, AreGivenDays, AreHolidayRules, AreSpoken, AreWithHolidays, HasHolidays}
use Rattle.gtd_hours_known.specs.Rules.{IsHolidayRule, IsHolidayUncovered, IsUncoveredBy, IsUncoveredIn, WithAny}
use Rattle.gtd_hours_known.specs.Until.{AreHoursUntil}
use Rattle.gtd_hours_known.specs.declared.known.Known.{Known}
use Rattle.gtd_hours_dated.specs.Dated.{IsDatedHours}
use Rattle.gtd_hours_text.specs.facts.SameRules.{SameRules}
use Rattle.gtd_hours_known.proofs.OneDays.{one_own}
use Rattle.gtd_hours_options.proofs.Alike.{AreAllAlike, alike_append, alike_by}
use Rattle.gtd_hours_options.proofs.AlikeDays.{made_alike}

pub not_both : {A : Type 0} (o p : Option A) (x : A) → o ≡ p → o ≡ None → p ≡ Some x → ⊥
not_both o p x same e f = cc

pub the_one : {A : Type 0} (o p : Option A) (x y : A) → o ≡ p → o ≡ Some x → p ≡ Some y → x ≡ y
the_one o p x y same e f = cc

pub one_head : (x y : Said) (xs ys : List Said) → x ∷ xs ≡ y ∷ ys → x ≡ y
one_head x y xs ys e = cc

pub one_tail : (x y : Said) (xs ys : List Said) → x ∷ xs ≡ y ∷ ys → xs ≡ ys
one_tail x y xs ys e = cc

-- ---- what they need

falls_same : (xs ys : List HolidayRule) → map said_by xs ≡ map said_by ys → some_falls_back xs ≡ some_falls_back ys
falls_same [] [] e = refl
falls_same [] (y ∷ ys) e = absurd cc
falls_same (x ∷ xs) [] e = absurd cc
falls_same (x ∷ xs) (y ∷ ys) e =
    let s = one_head (said_by x) (said_by y) (map said_by xs) (map said_by ys) e in
    let rest = falls_same xs ys (one_tail (said_by x) (said_by y) (map said_by xs) (map said_by ys) e) in
    λ i. (is_fallback ((s i).link) && not (is_some ((s i).unknown))) || rest i

need_same : (known : Known) (x y : HolidayRule) (xs ys : List HolidayRule) → said_by x ≡ said_by y
    → some_falls_back xs ≡ some_falls_back ys → need_of known x xs ≡ need_of known y ys
need_same known x y xs ys s rest = λ i.
    or_later (
    or_later (no_last_year known.years ((s i).every_place))
    (or_later (no_easter_years known.years ((s i).easter) ((s i).easter_places))
    (none_given known ((s i).holidays) ((s i).places)))
    )
    (if is_fallback ((s i).link) && not (rest i) then None else not_known ((s i).unknown))

pub first_need_same : (known : Known) (xs ys : List HolidayRule) → map said_by xs ≡ map said_by ys
    → first_need known xs ≡ first_need known ys
first_need_same known [] [] e = refl
first_need_same known [] (y ∷ ys) e = absurd cc
first_need_same known (x ∷ xs) [] e = absurd cc
first_need_same known (x ∷ xs) (y ∷ ys) e =
    let s = one_head (said_by x) (said_by y) (map said_by xs) (map said_by ys) e in
    let rest = one_tail (said_by x) (said_by y) (map said_by xs) (map said_by ys) e in
    let here = need_same known x y xs ys s (falls_same xs ys rest) in
    let later = first_need_same known xs ys rest in
    λ i. or_later (here i) (later i)

-- ---- what they stand for

-- the hours of a rule's own text
own_of : (known : Known) (x y : HolidayRule) (hours : Hours) → said_by x ≡ said_by y → IsOwnHours known x hours
    → IsOwnHours known y hours
own_of known x y hours same p = record {
  easter = p.easter;
  are = subst (λ (s : Said). AreEasterDays known s.easter p.easter) same p.are;
  dated = p.dated;
  stands = subst (λ (s : Said). IsDatedHours s.text (more_days s.month_items s.dates s.easter p.easter) p.dated) same p.stands;
  until = subst (λ (s : Said). AreHoursUntil known.years s.every_place s.every p.dated hours) same p.until;
}

own_rules : (known : Known) (x y : HolidayRule) (a b : Hours) → said_by x ≡ said_by y → IsOwnHours known x a
    → IsOwnHours known y b → SameRules a.rules.items b.rules.items
own_rules known x y a b same p q = one_own known y a b (own_of known x y a same p) q

-- what is given of holidays that say the same
days_of : (known : Known) (x y : HolidayRule) (days : List Selector) → said_by x ≡ said_by y
    → AreGivenDays known y.holidays.items days → AreGivenDays known x.holidays.items days
days_of known x y days s given = subst (λ (t : Said). AreGivenDays known t.holidays days) (sym s) given

has_of : (x y : HolidayRule) (days : List Selector) (plain made : Rule) → said_by x ≡ said_by y
    → HasHolidays y days plain made → HasHolidays x days plain made
has_of x y days plain made s has =
    subst (λ (t : Said). WithAny t.holidays t.is_led t.order t.link days plain made) (sym s) has

with_alike : (known : Known) (x y : HolidayRule) (ds es : List Selector) (ps qs ms ns : List Rule) → said_by x ≡ said_by y
    → AreGivenDays known x.holidays.items ds → AreGivenDays known x.holidays.items es → SameRules ps qs
    → AreWithHolidays x ds ps ms → AreWithHolidays y es qs ns → AreAllAlike ms ns
with_alike known x y ds es [] [] [] [] s given also same p q = tt
with_alike known x y ds es [] [] [] (n ∷ ns) s given also same p q = absurd q
with_alike known x y ds es [] [] (m ∷ ms) ns s given also same p q = absurd p
with_alike known x y ds es [] (b ∷ qs) ms ns s given also same p q = absurd same
with_alike known x y ds es (a ∷ ps) [] ms ns s given also same p q = absurd same
with_alike known x y ds es (a ∷ ps) (b ∷ qs) [] ns s given also same p q = absurd p
with_alike known x y ds es (a ∷ ps) (b ∷ qs) (m ∷ ms) [] s given also same p q = absurd q
with_alike known x y ds es (a ∷ ps) (b ∷ qs) (m ∷ ms) (n ∷ ns) s given also same p q = (
  made_alike known x ds es a b m n given also same.0 p.0 (has_of x y es b n s q.0),
  with_alike known x y ds es ps qs ms ns s given also same.1 p.1 q.1,
)

spoken_alike : (known : Known) (x y : HolidayRule) (b c : Bool) (ds es : List Selector) (ps qs ms ns : List Rule) → b ≡ c
    → said_by x ≡ said_by y → AreGivenDays known x.holidays.items ds → AreGivenDays known x.holidays.items es
    → SameRules ps qs → AreSpoken b x ds ps ms → AreSpoken c y es qs ns → AreAllAlike ms ns
spoken_alike known x y true true ds es ps qs ms ns e s given also same p q = alike_by ms ns [] [] p q tt
spoken_alike known x y true false ds es ps qs ms ns e s given also same p q = absurd cc
spoken_alike known x y false true ds es ps qs ms ns e s given also same p q = absurd cc
spoken_alike known x y false false ds es ps qs ms ns e s given also same p q =
    with_alike known x y ds es ps qs ms ns s given also same p q

rule_alike : (known : Known) (x y : HolidayRule) (ms ns : List Rule) → said_by x ≡ said_by y → IsHolidayRule known x ms
    → IsHolidayRule known y ns → AreAllAlike ms ns
rule_alike known x y ms ns s p q =
    let own = own_rules known x y p.plain q.plain s p.own q.own in
    spoken_alike known x y _ _ p.days q.days p.plain.rules.items q.plain.rules.items ms ns (λ i. is_some ((s i).unknown)) s
    p.listed (days_of known x y q.days s q.listed) own p.are q.are

pub rules_alike : (known : Known) (xs ys : List HolidayRule) (ms ns : List Rule) → map said_by xs ≡ map said_by ys
    → AreHolidayRules known xs ms → AreHolidayRules known ys ns → AreAllAlike ms ns
rules_alike known [] [] ms ns e p q = alike_by ms ns [] [] p q tt
rules_alike known [] (y ∷ ys) ms ns e p q = absurd cc
rules_alike known (x ∷ xs) [] ms ns e p q = absurd cc
rules_alike known (x ∷ xs) (y ∷ ys) ms ns e p q =
    alike_by ms ns (p.0 ++ p.1) (q.0 ++ q.1) p.4 q.4
    (alike_append p.0 q.0 p.1 q.1
    (rule_alike known x y p.0 q.0 (one_head (said_by x) (said_by y) (map said_by xs) (map said_by ys) e) p.2 q.2)
    (rules_alike known xs ys p.1 q.1 (one_tail (said_by x) (said_by y) (map said_by xs) (map said_by ys) e) p.3 q.3))

-- ---- what the table does not say

same_some : {A : Type 0} (a b : A) → Some a ≡ Some b → a ≡ b
same_some a b e = cc

-- The first day that is not covered is one.
first_day : (rows : List HolidayRow) (years : KnownYears) (kind : HolidayKind) (a b : ℤ) → IsFirstUncovered rows years kind a
    → IsFirstUncovered rows years kind b → a ≤ℤ b
first_day rows years kind a b p q = by_lt_z b a (λ less. absurd (q.uncovered (p.earlier b q.of_years less))) (λ le. le)

one_day : (rows : List HolidayRow) (years : KnownYears) (kind : HolidayKind) (a b : ℤ) → IsFirstUncovered rows years kind a
    → IsFirstUncovered rows years kind b → a ≡ b
one_day rows years kind a b p q =
    let low = first_day rows years kind a b p q in
    let high = first_day rows years kind b a q p in omega (arith, signed_arith, low, high)

never_covered : (rows : List HolidayRow) (years : KnownYears) (o : Option HolidayKind) (kind : HolidayKind) (day : ℤ)
    → o ≡ Some kind → CoversYears rows years o → IsFirstUncovered rows years kind day → ⊥
never_covered rows years None kind day e covers first = absurd cc
never_covered rows years (Some other) kind day e covers first =
    let same = same_some other kind e in
    first.uncovered (subst (λ (k : HolidayKind). IsCovered rows k day) same (covers day first.of_years))

one_uncovered : (rows : List HolidayRow) (years : KnownYears) (hs : List Listed) (i j : ℕ) (a b : ℤ)
    → IsUncovered rows years hs i a → IsUncovered rows years hs j b → (i ≡ j) × (a ≡ b)
one_uncovered rows years [] i j a b p q = absurd p
one_uncovered rows years (h ∷ hs) zero zero a b p q =
    let same = same_some p.0 q.0 (sym p.1 ∙ q.1) in
    (refl, one_day rows years q.0 a b (subst (λ (k : HolidayKind). IsFirstUncovered rows years k a) same p.2) q.2)
one_uncovered rows years (h ∷ hs) zero (suc j) a b p q = absurd (never_covered rows years (kind_of h) p.0 a p.1 q.0 p.2)
one_uncovered rows years (h ∷ hs) (suc i) zero a b p q = absurd (never_covered rows years (kind_of h) q.0 b q.1 p.0 q.2)
one_uncovered rows years (h ∷ hs) (suc i) (suc j) a b p q =
    let rest = one_uncovered rows years hs i j a b p.1 q.1 in (ap suc rest.0, rest.1)

all_covered : (rows : List HolidayRow) (years : KnownYears) (hs : List Listed) (i : ℕ) (a : ℤ) → CoversAll rows years hs
    → IsUncovered rows years hs i a → ⊥
all_covered rows years [] i a covers p = p
all_covered rows years (h ∷ hs) zero a covers p = never_covered rows years (kind_of h) p.0 a p.1 covers.0 p.2
all_covered rows years (h ∷ hs) (suc i) a covers p = all_covered rows years hs i a covers.1 p.1

-- of the table and the years that are given
module _ (known : Known) where
  one_of_rule : (x : HolidayRule) (i j : ℕ) (a b : ℤ) → IsUncoveredBy known x i a → IsUncoveredBy known x j b
      → (i ≡ j) × (a ≡ b)
  one_of_rule x i j a b p q =
      let same_table = same_some q.0 p.0 (sym q.2.has_table ∙ p.2.has_table) in
      let same_years = same_some q.1 p.1 (sym q.2.has_years ∙ p.2.has_years) in
      let here : IsUncoveredIn p.0 p.1 x j b =
      subst (λ (y : KnownYears). IsUncoveredIn p.0 y x j b) same_years
      (subst (λ (t : Holidays). IsUncoveredIn t q.1 x j b) same_table q.3) in
      let one = one_uncovered p.0.rows.items p.1 x.holidays.items p.3.0 here.0 a b p.3.1 here.1 in
      (p.3.2 ∙ ap (λ (n : ℕ). get_or x.places.items n 0) one.0 ∙ sym here.2, one.1)

  said_apart : (hs : List Listed) (x : HolidayRule) (i : ℕ) (a : ℤ) → hs ≡ x.holidays.items → AreAllSaid known hs
      → IsUncoveredBy known x i a → ⊥
  said_apart [] x i a e said p = subst (λ (l : List Listed). IsUncovered p.0.rows.items p.1 l p.3.0 a) (sym e) p.3.1
  said_apart (h ∷ hs) x i a e said p =
      let same_table = same_some said.0 p.0 (sym said.2.has_table ∙ p.2.has_table) in
      let same_years = same_some said.1 p.1 (sym said.2.has_years ∙ p.2.has_years) in
      let covers : CoversAll p.0.rows.items p.1 x.holidays.items =
      subst (λ (l : List Listed). CoversAll p.0.rows.items p.1 l) e
      (subst (λ (y : KnownYears). CoversAll p.0.rows.items y (h ∷ hs)) same_years
      (subst (λ (t : Holidays). CoversAll t.rows.items said.1 (h ∷ hs)) same_table said.3)) in
      all_covered p.0.rows.items p.1 x.holidays.items p.3.0 a covers p.3.1

  -- rules that say the same
  by_same : (x y : HolidayRule) (i : ℕ) (a : ℤ) → said_by x ≡ said_by y → IsUncoveredBy known y i a
      → IsUncoveredBy known x i a
  by_same x y i a s p = (
    p.0,
    p.1,
    p.2,
    subst (λ (t : Said). (k : ℕ) × IsUncovered p.0.rows.items p.1 t.holidays k a × (i ≡ get_or t.places k 0))
        (sym s) p.3,
  )

  said_same : (x y : HolidayRule) → said_by x ≡ said_by y → AreAllSaid known y.holidays.items
      → AreAllSaid known x.holidays.items
  said_same x y s p = subst (λ (t : Said). AreAllSaid known t.holidays) (sym s) p

  pub same_uncovered : (xs ys : List HolidayRule) (i j : ℕ) (a b : ℤ) → map said_by xs ≡ map said_by ys
      → IsHolidayUncovered known xs i a → IsHolidayUncovered known ys j b → (i ≡ j) × (a ≡ b)
  same_uncovered [] ys i j a b e p q = absurd p
  same_uncovered (x ∷ xs) [] i j a b e p q = absurd q
  same_uncovered (x ∷ xs) (y ∷ ys) i j a b e (inl p) (inl q) =
      one_of_rule x i j a b p (by_same x y j b (one_head (said_by x) (said_by y) (map said_by xs) (map said_by ys) e) q)
  same_uncovered (x ∷ xs) (y ∷ ys) i j a b e (inl p) (inr q) =
      absurd (said_apart x.holidays.items x i a refl
      (said_same x y (one_head (said_by x) (said_by y) (map said_by xs) (map said_by ys) e) q.0) p)
  same_uncovered (x ∷ xs) (y ∷ ys) i j a b e (inr p) (inl q) =
      absurd (said_apart x.holidays.items x j b refl p.0
      (by_same x y j b (one_head (said_by x) (said_by y) (map said_by xs) (map said_by ys) e) q))
  same_uncovered (x ∷ xs) (y ∷ ys) i j a b e (inr p) (inr q) =
      same_uncovered xs ys i j a b (one_tail (said_by x) (said_by y) (map said_by xs) (map said_by ys) e) p.1 q.1

  days_said : (hs : List Listed) (days : List Selector) → AreGivenDays known hs days → AreAllSaid known hs
  days_said [] days are = tt
  days_said (h ∷ hs) days are = (are.0, are.1, are.2, are.3.0)

  pub covered_apart : (xs ys : List HolidayRule) (ms : List Rule) (i : ℕ) (a : ℤ) → map said_by xs ≡ map said_by ys
      → AreHolidayRules known xs ms → IsHolidayUncovered known ys i a → ⊥
  covered_apart [] [] ms i a e p q = q
  covered_apart [] (y ∷ ys) ms i a e p q = absurd cc
  covered_apart (x ∷ xs) [] ms i a e p q = q
  covered_apart (x ∷ xs) (y ∷ ys) ms i a e p (inl q) =
      said_apart x.holidays.items x i a refl (days_said x.holidays.items p.2.days p.2.listed)
      (by_same x y i a (one_head (said_by x) (said_by y) (map said_by xs) (map said_by ys) e) q)
  covered_apart (x ∷ xs) (y ∷ ys) ms i a e p (inr q) =
      covered_apart xs ys p.1 i a (one_tail (said_by x) (said_by y) (map said_by xs) (map said_by ys) e) p.3 q.1
