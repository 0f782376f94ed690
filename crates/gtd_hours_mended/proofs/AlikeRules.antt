-- Rules that are alike are written the same, and the rules of a text are alike, whichever of them are taken.
use Rattle.std.proofs.Common.{◌≡◌, ◌∙◌, refl, sym, ap, subst, inl, inr, ℕ, false, List, [], ◌∷◌, ◌++◌, length, map, drop}
use Rattle.std.specs.Prelude.{◌&&◌, ◌||◌, codes, if◌then◌else◌, is_some, not, take}
use Rattle.gtd_hours.specs.Writable.{selectors}
use Rattle.gtd_hours.specs.Written.{is_also, is_some_kind, kind_text, link_text}
use Rattle.gtd_hours.specs.declared.hours.Kind.{Kind}
use Rattle.gtd_hours.specs.declared.hours.Rule.{Rule}
use Rattle.gtd_hours.specs.declared.hours.TimeRange.{TimeRange}
use Rattle.gtd_hours_grammar.specs.Faults.{IsFirstFault}
use Rattle.gtd_hours_grammar.specs.declared.fault.HoursFault.{HoursFault}
use Rattle.gtd_hours_grammar.specs.facts.FirstFault.{hours_or_fault}
use Rattle.gtd_hours_holiday_rules.specs.Rules.{Said, said_by}
use Rattle.gtd_hours_holiday_rules.specs.declared.rules.HolidayRule.{HolidayRule}
use Rattle.gtd_hours_known.specs.Rules.{IsRuleFault}
use Rattle.gtd_hours_times.specs.declared.moment.TimeForm.{TimeForm}
use Rattle.gtd_hours_text.specs.Standing.{StandsFor}
use Rattle.gtd_hours_text.specs.facts.OneMeaning.{same_rules}
use Rattle.gtd_hours_text.specs.facts.SameRules.{SameRules}
use Rattle.gtd_hours_writing.specs.Days.{with_month_days}
use Rattle.gtd_hours_writing.specs.Joining.{is_nothing, spaced}
use Rattle.gtd_hours_writing.specs.Rules.{behind_years, closes, days_by, days_text, first_closes, first_kinds, first_times}
use Rattle.gtd_hours_writing.specs.Rules.{goes_into, has_days, is_open, is_some_easter, is_some_form, is_some_holiday}
use Rattle.gtd_hours_writing.specs.Rules.{is_some_selector, kinds_of, month_days_text, more_rules_text, needs_word, or_always}
use Rattle.gtd_hours_writing.specs.Rules.{rule_text, rules_text, says_open, selectors_text, spans_text, weeks_text}
use Rattle.gtd_hours_writing.specs.Rules.{with_years, word_text}
use Rattle.gtd_hours_writing.specs.Selecting.{selectors_if, selectors_of}
use Rattle.gtd_hours_writing.specs.Times.{with_forms}
use Rattle.gtd_hours_writing.specs.declared.classes.Class.{Class}
use Rattle.gtd_hours_writing.specs.declared.classes.Class.TheVariants as class
use Rattle.gtd_hours_writing.specs.declared.rule.MendedRule.{MendedRule}
use Rattle.gtd_hours_mended.specs.Making.{AreMade, IsMade, comment_in, first_comment, times_in}
use Rattle.gtd_hours_mended.specs.declared.comments.Stretch.{Stretch}

-- All that is written of them is the same.
pub record AreAlike (one other : MendedRule) : Type 0 where
  pub link : one.link ≡ other.link
  pub led : one.is_led ≡ other.is_led
  pub unknown : one.is_unknown ≡ other.is_unknown
  pub holidays : one.holidays.items ≡ other.holidays.items
  pub order : one.order.items ≡ other.order.items
  pub every : one.every.items ≡ other.every.items
  pub month_items : one.month_items.items ≡ other.month_items.items
  pub dates : one.dates.items ≡ other.dates.items
  pub easter : one.easter.items ≡ other.easter.items
  pub forms : one.forms.items ≡ other.forms.items
  pub comment : one.comment.items ≡ other.comment.items
  pub kinds : selectors (kinds_of one) ≡ selectors (kinds_of other)
  pub closes : first_closes one.own.rules.items ≡ first_closes other.own.rules.items

abbrev pub AreAllAlike : List MendedRule → List MendedRule → Type 0
AreAllAlike [] [] = Unit {0}
AreAllAlike (x ∷ xs) (y ∷ ys) = AreAlike x y × AreAllAlike xs ys
AreAllAlike xs ys = ⊥

-- ---- the selectors of a class

-- they are those of the kinds, whichever lists hold these
of_class : (c : Class) (a b : List Kind) → selectors a ≡ selectors b → selectors_of c a ≡ selectors_of c b
of_class c [] [] e = refl
of_class c [] (y ∷ b) e = absurd cc
of_class c (x ∷ a) [] e = absurd cc
of_class c (x ∷ a) (y ∷ b) e =
    let head : x.selectors.items ≡ y.selectors.items = cc in
    let tail : selectors a ≡ selectors b = cc in
    let rest = of_class c a b tail in
    λ i. selectors_if c (head i) ++ rest i

-- so is whether there are some
some_kind : (a b : List Kind) → selectors a ≡ selectors b → is_some_kind a ≡ is_some_kind b
some_kind [] [] e = refl
some_kind [] (y ∷ b) e = absurd cc
some_kind (x ∷ a) [] e = absurd cc
some_kind (x ∷ a) (y ∷ b) e = refl

-- the selectors of a class of rules that are alike are the same
class_same : (c : Class) (x y : MendedRule) → AreAlike x y → selectors_of c (kinds_of x) ≡ selectors_of c (kinds_of y)
class_same c x y s = of_class c (kinds_of x) (kinds_of y) s.kinds

-- ---- days

-- month days of rules that are alike are written the same
month_days_same : (x y : MendedRule) → AreAlike x y → month_days_text x ≡ month_days_text y
month_days_same x y s =
    let own = class_same class.MonthDays x y s in
    λ i. with_month_days [] (s.month_items i) (own i) (s.dates i) (s.easter i)

-- and so are weeks
weeks_same : (x y : MendedRule) → AreAlike x y → weeks_text x ≡ weeks_text y
weeks_same x y s = ap (kind_text false) (class_same class.Weeks x y s)

-- and weekdays with holidays
days_same : (x y : MendedRule) → AreAlike x y → days_text x ≡ days_text y
days_same x y s =
    let own = class_same class.Weekdays x y s in λ i. days_by (s.led i) (s.order i) (own i) (s.holidays i)

-- all but years
behind_same : (x y : MendedRule) → AreAlike x y → behind_years x ≡ behind_years y
behind_same x y s =
    let months = month_days_same x y s in
    let weeks = weeks_same x y s in
    let days = days_same x y s in
    λ i. spaced (spaced (months i) (weeks i)) (days i)

-- all selectors
selectors_same : (x y : MendedRule) → AreAlike x y → selectors_text x ≡ selectors_text y
selectors_same x y s =
    let behind = behind_same x y s in
    let years = class_same class.Years x y s in
    λ i. with_years (behind i) (s.every i) (years i)

-- ---- words

-- rules that are alike are both open, or neither is
open_same : (x y : MendedRule) → AreAlike x y → is_open x ≡ is_open y
open_same x y s = λ i. not (s.unknown i) && not (s.closes i)

-- both have selectors of days, or neither has
days_or_none : (x y : MendedRule) → AreAlike x y → has_days x ≡ has_days y
days_or_none x y s =
    let kinds = some_kind (kinds_of x) (kinds_of y) s.kinds in
    λ i. kinds i || (is_some_holiday (s.holidays i) || (is_some_selector (s.dates i) || is_some_easter (s.easter i)))

-- a comma would go on with both, or with neither
goes_same : (x y next after : MendedRule) → AreAlike x y → AreAlike next after → goes_into x next ≡ goes_into y after
goes_same x y next after s t =
    let here = days_or_none x y s in
    let there = days_or_none next after t in
    λ i. if is_some_form (s.forms i) then is_some_form (t.forms i) && not (there i) else here i

-- both need a word, or neither does
needs_same : (x y : MendedRule) (xs ys : List MendedRule) → AreAlike x y → AreAllAlike xs ys → needs_word x xs ≡ needs_word y ys
needs_same x y [] [] s all = refl
needs_same x y [] (m ∷ ys) s all = absurd all
needs_same x y (n ∷ xs) [] s all = absurd all
needs_same x y (n ∷ xs) (m ∷ ys) s all =
    let goes = goes_same x y n m s all.0 in λ i. is_also (all.0.link i) && goes i

-- whether a rule says that it is open
says_same : (x y : MendedRule) (xs ys : List MendedRule) → AreAlike x y → AreAllAlike xs ys → says_open x xs ≡ says_open y ys
says_same x y xs ys s all =
    let needs = needs_same x y xs ys s all in λ i. not (is_nothing (s.comment i)) || needs i

-- both have the same word
word_same : (x y : MendedRule) (xs ys : List MendedRule) → AreAlike x y → AreAllAlike xs ys → word_text x xs ≡ word_text y ys
word_same x y xs ys s all =
    let says = says_same x y xs ys s all in
    λ i.
    if s.unknown i then codes "unknown"
    else if s.closes i then codes "off"
    else if says i then codes "open"
    else []

-- ---- rules

-- both have the same selectors and times
spans_same : (x y : MendedRule) → AreAlike x y → spans_text x ≡ spans_text y
spans_same x y s =
    let opens = open_same x y s in
    let own = selectors_same x y s in
    λ i. or_always (opens i) (spaced (own i) (with_forms [] (s.forms i)))

-- so they are written the same
rule_same : (x y : MendedRule) (xs ys : List MendedRule) → AreAlike x y → AreAllAlike xs ys → rule_text x xs ≡ rule_text y ys
rule_same x y xs ys s all =
    let spans = spans_same x y s in
    let word = word_same x y xs ys s all in
    λ i. spaced (spaced (spans i) (word i)) (s.comment i)

-- and so are all that follow
more_rules_same : (xs ys : List MendedRule) → AreAllAlike xs ys → more_rules_text xs ≡ more_rules_text ys
more_rules_same [] [] all = refl
more_rules_same [] (y ∷ ys) all = absurd all
more_rules_same (x ∷ xs) [] all = absurd all
more_rules_same (x ∷ xs) (y ∷ ys) all =
    let rule = rule_same x y xs ys all.0 all.1 in
    let rest = more_rules_same xs ys all.1 in
    λ i. (link_text (all.0.link i) ++ rule i) ++ rest i

-- Rules that are alike are written the same.
pub rules_same : (xs ys : List MendedRule) → AreAllAlike xs ys → rules_text xs ≡ rules_text ys
rules_same [] [] all = refl
rules_same [] (y ∷ ys) all = absurd all
rules_same (x ∷ xs) [] all = absurd all
rules_same (x ∷ xs) (y ∷ ys) all =
    let rule = rule_same x y xs ys all.0 all.1 in
    let rest = more_rules_same xs ys all.1 in
    λ i. rule i ++ rest i

-- ---- the rule of a rule's own text

-- own texts that are the same rules have the same selectors
own_kinds : (a b : List Rule) → SameRules a b → selectors (first_kinds a) ≡ selectors (first_kinds b)
own_kinds [] [] same = refl
own_kinds [] (y ∷ b) same = absurd same
own_kinds (x ∷ a) [] same = absurd same
own_kinds (x ∷ a) (y ∷ b) same = same.0.kinds

-- the same times
own_times : (a b : List Rule) → SameRules a b → first_times a ≡ first_times b
own_times [] [] same = refl
own_times [] (y ∷ b) same = absurd same
own_times (x ∷ a) [] same = absurd same
own_times (x ∷ a) (y ∷ b) same = same.0.times

-- and both are closed, or neither is
own_closes : (a b : List Rule) → SameRules a b → first_closes a ≡ first_closes b
own_closes [] [] same = refl
own_closes [] (y ∷ b) same = absurd same
own_closes (x ∷ a) [] same = absurd same
own_closes (x ∷ a) (y ∷ b) same = ap closes same.0.modifier

-- ---- the rules of a text

-- rules that say the same have the same own rule
own_same : (comment other : List ℕ) (x y : HolidayRule) (left rest : List TimeForm) (a b : MendedRule) → said_by x ≡ said_by y
    → IsMade comment x left a → IsMade other y rest b → SameRules a.own.rules.items b.own.rules.items
own_same comment other x y left rest a b e p q =
    same_rules y.text.items a.own b.own
    (subst (λ (t : List ℕ). StandsFor t a.own) (ap (λ (s : Said). s.text) e) p.own) q.own

-- and as many times
times_same : (comment other : List ℕ) (x y : HolidayRule) (left rest : List TimeForm) (a b : MendedRule) → said_by x ≡ said_by y
    → IsMade comment x left a → IsMade other y rest b → times_in a.own ≡ times_in b.own
times_same comment other x y left rest a b e p q =
    ap (λ (l : List TimeRange). length l)
    (own_times a.own.rules.items b.own.rules.items (own_same comment other x y left rest a b e p q))

-- they are alike
made_same : (comment : List ℕ) (x y : HolidayRule) (left : List TimeForm) (a b : MendedRule) → said_by x ≡ said_by y
    → IsMade comment x left a → IsMade comment y left b → AreAlike a b
made_same comment x y left a b e p q =
    let own = own_same comment comment x y left left a b e p q in
    record {
      link = p.link ∙ ap (λ (s : Said). s.link) e ∙ sym q.link;
      led = p.led ∙ ap (λ (s : Said). s.is_led) e ∙ sym q.led;
      unknown = p.unknown ∙ ap (λ (s : Said). is_some s.unknown) e ∙ sym q.unknown;
      holidays = p.holidays ∙ ap (λ (s : Said). s.holidays) e ∙ sym q.holidays;
      order = p.order ∙ ap (λ (s : Said). s.order) e ∙ sym q.order;
      every = p.every ∙ ap (λ (s : Said). s.every) e ∙ sym q.every;
      month_items = p.month_items ∙ ap (λ (s : Said). s.month_items) e ∙ sym q.month_items;
      dates = p.dates ∙ ap (λ (s : Said). s.dates) e ∙ sym q.dates;
      easter = p.easter ∙ ap (λ (s : Said). s.easter) e ∙ sym q.easter;
      forms = p.times
          ∙ ap (λ (n : ℕ). take n left) (times_same comment comment x y left left a b e p q)
          ∙ sym q.times;
      comment = p.has ∙ sym q.has;
      kinds = own_kinds a.own.rules.items b.own.rules.items own;
      closes = own_closes a.own.rules.items b.own.rules.items own;
    }

-- equal lists have equal first elements
one_head : (x y : Said) (xs ys : List Said) → x ∷ xs ≡ y ∷ ys → x ≡ y
one_head x y xs ys e = cc

-- and equal others
one_tail : (x y : Said) (xs ys : List Said) → x ∷ xs ≡ y ∷ ys → xs ≡ ys
one_tail x y xs ys e = cc

-- the first rules say the same
first_said : (x y : HolidayRule) (xs ys : List HolidayRule) → map said_by (x ∷ xs) ≡ map said_by (y ∷ ys)
    → said_by x ≡ said_by y
first_said x y xs ys e = one_head (said_by x) (said_by y) (map said_by xs) (map said_by ys) e

-- and so do the others
more_said : (x y : HolidayRule) (xs ys : List HolidayRule) → map said_by (x ∷ xs) ≡ map said_by (y ∷ ys)
    → map said_by xs ≡ map said_by ys
more_said x y xs ys e = one_tail (said_by x) (said_by y) (map said_by xs) (map said_by ys) e

-- lists that equal others are alike if those are
alike_by : (xs ys us vs : List MendedRule) → xs ≡ us → ys ≡ vs → AreAllAlike us vs → AreAllAlike xs ys
alike_by xs ys us vs e f same =
    subst (λ (l : List MendedRule). AreAllAlike l ys) (sym e) (subst (λ (l : List MendedRule). AreAllAlike us l) (sym f) same)

-- Rules of a text that say the same, with the same comments and forms of times, are alike.
pub all_alike : (text : List ℕ) (xs ys : List HolidayRule) (comments : List Stretch) (forms : List TimeForm)
    (us vs : List MendedRule) → map said_by xs ≡ map said_by ys → AreMade text xs comments forms us
    → AreMade text ys comments forms vs → AreAllAlike us vs
all_alike text [] [] comments forms us vs e p q = alike_by us vs [] [] p q (record {})
all_alike text [] (y ∷ ys) comments forms us vs e p q = absurd cc
all_alike text (x ∷ xs) [] comments forms us vs e p q = absurd cc
all_alike text (x ∷ xs) (y ∷ ys) comments forms us vs e (a, more, at, is, left) (b, others, all, so, rest) =
    let first = first_said x y xs ys e in
    let comment = comment_in text (first_comment comments) in
    let times = times_same comment comment x y forms forms a b first is so in
    alike_by us vs (a ∷ more) (b ∷ others) at all (
      made_same comment x y forms a b first is so,
      all_alike text xs ys (drop 1 comments) (drop (times_in b.own) forms) more others (more_said x y xs ys e)
          (subst (λ (n : ℕ). AreMade text xs (drop 1 comments) (drop n forms) more) times left) rest,
    )

-- Of rules that are made, no own text has a fault.
pub made_apart : (text : List ℕ) (xs ys : List HolidayRule) (comments : List Stretch) (forms : List TimeForm)
    (made : List MendedRule) (bad : HoursFault) → map said_by xs ≡ map said_by ys → AreMade text xs comments forms made
    → IsRuleFault ys bad → ⊥
made_apart text [] [] comments forms made bad e p q = q
made_apart text [] (y ∷ ys) comments forms made bad e p q = absurd cc
made_apart text (x ∷ xs) [] comments forms made bad e p q = q
made_apart text (x ∷ xs) (y ∷ ys) comments forms made bad e (a, more, at, is, left) (inl q) =
    let same : x.text.items ≡ y.text.items = ap (λ (s : Said). s.text) (first_said x y xs ys e) in
    hours_or_fault x.text.items is.own.p bad is.own.is (subst (λ (t : List ℕ). IsFirstFault t bad) (sym same) q)
made_apart text (x ∷ xs) (y ∷ ys) comments forms made bad e (a, more, at, is, left) (inr q) =
    made_apart text xs ys (drop 1 comments) (drop (times_in a.own) forms) more bad (more_said x y xs ys e) left q.1
