-- Rules that are made of the same rule of a text are alike, whichever lists of the days of its holidays are taken.
use Rattle.std.proofs.Common.{◌≡◌, ◌∙◌, sym, ap, refl, subst, ◌↔◌, ℕ, ◌+◌, max, ℤ, Bool, List, [], ◌∷◌}
use Rattle.gtd_hours.specs.Cost.{days_cost, kinds_cost, selectors_cost}
use Rattle.gtd_hours.specs.Opening.{InSpans, IsOnMatch, IsTimeOn}
use Rattle.gtd_hours.specs.Writable.{selectors}
use Rattle.gtd_hours.specs.declared.hours.Kind.{Kind}
use Rattle.gtd_hours.specs.declared.hours.Link.{Link}
use Rattle.gtd_hours.specs.declared.hours.Rule.{Rule}
use Rattle.gtd_hours.specs.declared.hours.Selector.{Selector}
use Rattle.gtd_hours.specs.declared.hours.TimeRange.{TimeRange}
use Rattle.gtd_hours_days.specs.declared.listed.Listed.{Listed}
use Rattle.gtd_hours_holiday_rules.specs.declared.rules.HolidayRule.{HolidayRule}
use Rattle.gtd_hours_known.specs.Joining.{with_days}
use Rattle.gtd_hours_known.specs.Rules.{AreGivenDays, HasHolidays, WithAny}
use Rattle.gtd_hours_known.specs.declared.known.Known.{Known}
use Rattle.gtd_hours_known.proofs.OneDays.{one_list}
use Rattle.gtd_hours_known.proofs.MatchFacts.{same_matches}
use Rattle.gtd_hours_known.proofs.SaidDays.{made_of, match_of_same, same_match, same_spans, spans_of_same}
use Rattle.gtd_hours_text.specs.facts.SameRules.{SameRule, SameRules}
use Rattle.gtd_hours_options.proofs.Alike.{AreAlike, AreAllAlike}

-- ---- what days cost

abbrev lists_cost : List (List Selector) → ℕ
lists_cost [] = 0
lists_cost (kind ∷ kinds) = max 1 (selectors_cost kind) + lists_cost kinds

of_lists : (kinds : List Kind) → kinds_cost kinds ≡ lists_cost (selectors kinds)
of_lists [] = refl
of_lists (kind ∷ kinds) = ap (λ (n : ℕ). max 1 (selectors_cost kind.selectors.items) + n) (of_lists kinds)

with_cost : (led : Bool) (order : List Bool) (ds es : List Selector) (kinds : List (List Selector)) → ds ≡ es
    → lists_cost (with_days led order ds kinds) ≡ lists_cost (with_days led order es kinds)
with_cost led order ds es kinds e = ap (λ (l : List Selector). lists_cost (with_days led order l kinds)) e

kinds_by : (one other : List Kind) → lists_cost (selectors one) ≡ lists_cost (selectors other)
    → days_cost one ≡ days_cost other
kinds_by one other e = ap (max 1) (of_lists one ∙ e ∙ sym (of_lists other))

any_cost : (listed : List Listed) (led : Bool) (order : List Bool) (by : Link) (ds es : List Selector) (a b m n : Rule)
    → ds ≡ es → selectors a.kinds.items ≡ selectors b.kinds.items → WithAny listed led order by ds a m
    → WithAny listed led order by es b n → days_cost m.kinds.items ≡ days_cost n.kinds.items
any_cost [] led order by ds es a b m n e same p q =
    kinds_by m.kinds.items n.kinds.items
    (ap (λ (r : Rule). lists_cost (selectors r.kinds.items)) p ∙ ap lists_cost same
    ∙ sym (ap (λ (r : Rule). lists_cost (selectors r.kinds.items)) q))
any_cost (h ∷ listed) led order by ds es a b m n e same p q =
    kinds_by m.kinds.items n.kinds.items
    (ap lists_cost p.kinds ∙ ap (λ (l : List (List Selector)). lists_cost (with_days led order ds l)) same
    ∙ with_cost led order ds es (selectors b.kinds.items) e ∙ sym (ap lists_cost q.kinds))

-- ---- one rule

both_ways : (A B C D : Type 0) → (A ↔ B) → (C ↔ B) → (D ↔ C) → A ↔ D
both_ways A B C D p q r = ((λ a. r.1 (q.1 (p.0 a))), (λ d. p.1 (q.0 (r.0 d))))

pub made_alike : (known : Known) (x : HolidayRule) (ds es : List Selector) (a b m n : Rule)
    → AreGivenDays known x.holidays.items ds → AreGivenDays known x.holidays.items es → SameRule a b
    → HasHolidays x ds a m → HasHolidays x es b n → AreAlike m n
made_alike known x ds es a b m n given also same p q =
    let one = made_of known x ds a m given p in
    let other = made_of known x es b n also q in
    record {
      spans = λ s. both_ways _ _ _ _ (same_spans known x a m s one) (spans_of_same known x a b s same)
          (same_spans known x b n s other);
      match = λ s. both_ways _ _ _ _ (same_match known x a m s one) (match_of_same known x a b s same)
          (same_match known x b n s other);
      cost = any_cost x.holidays.items x.is_led x.order.items x.link ds es a b m n
          (one_list known x.holidays.items ds es given also) same.kinds p q;
      times = ap (λ (t : _). t.items) one.times ∙ same.times ∙ sym (ap (λ (t : _). t.items) other.times);
      modifier = one.modifier ∙ same.modifier ∙ sym other.modifier;
      link = one.link ∙ sym other.link;
    }

-- ---- rules of the same selectors

spans_to : (one other : Rule) (s : ℤ) → SameRule one other → InSpans one.kinds.items one.times.items s
    → InSpans other.kinds.items other.times.items s
spans_to one other s same h = (
  h.0,
  same_matches one.kinds.items other.kinds.items h.0 same.kinds h.1,
  subst (λ (t : List TimeRange). IsTimeOn t h.0 s) same.times h.2,
)

match_to : (one other : Rule) (s : ℤ) → SameRule one other → IsOnMatch one.kinds.items s → IsOnMatch other.kinds.items s
match_to one other s same h = (h.0, h.1, same_matches one.kinds.items other.kinds.items h.0 same.kinds h.2)

turned : (one other : Rule) → SameRule one other → SameRule other one
turned one other same = record {
  kinds = sym same.kinds;
  times = sym same.times;
  modifier = sym same.modifier;
  link = sym same.link;
}

rule_alike : (x y : Rule) → SameRule x y → AreAlike x y
rule_alike x y same = record {
  spans = λ s. (spans_to x y s same, spans_to y x s (turned x y same));
  match = λ s. (match_to x y s same, match_to y x s (turned x y same));
  cost = kinds_by x.kinds.items y.kinds.items (ap lists_cost same.kinds);
  times = same.times;
  modifier = same.modifier;
  link = same.link;
}

pub alike_same : (xs ys : List Rule) → SameRules xs ys → AreAllAlike xs ys
alike_same [] [] same = tt
alike_same [] (y ∷ ys) same = absurd same
alike_same (x ∷ xs) [] same = absurd same
alike_same (x ∷ xs) (y ∷ ys) same = (rule_alike x y same.0, alike_same xs ys same.1)
