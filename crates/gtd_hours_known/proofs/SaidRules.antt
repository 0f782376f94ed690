-- Rules of hours are open where the rules of the text say so.
use Rattle.std.proofs.Common.{◌≡◌, refl, sym, subst, ◌⊎◌, inl, inr, ◌↔◌, Bool, true, false}
use Rattle.std.proofs.Common.{List, [], ◌∷◌, ◌++◌, ℤ}
use Rattle.std.specs.Prelude.{is_some}
use Rattle.gtd_hours.specs.Opening.{InSpans, IsClosedBy, IsOnMatch, IsOpen, IsOpenAfter, IsOpenBy}
use Rattle.gtd_hours.specs.declared.hours.Hours.{Hours}
use Rattle.gtd_hours.specs.declared.hours.Link.{Link}
use Rattle.gtd_hours.specs.declared.hours.Link.TheVariants.{Also, Fallback, Instead}
use Rattle.gtd_hours.specs.declared.hours.Modifier.{Modifier}
use Rattle.gtd_hours.specs.declared.hours.Modifier.TheVariants.{Closed, Open}
use Rattle.gtd_hours.specs.declared.hours.Rule.{Rule}
use Rattle.gtd_hours.specs.declared.hours.Selector.{Selector}
use Rattle.gtd_hours_text.specs.facts.SameRules.{SameRule, SameRules}
use Rattle.gtd_hours_holiday_rules.specs.declared.rules.HolidayRule.{HolidayRule}
use Rattle.gtd_hours_holiday_rules.specs.declared.text.HolidayText.{HolidayText}
use Rattle.gtd_hours_known.specs.Easter.{IsOwnHours}
use Rattle.gtd_hours_known.specs.Reading.{IsKnown}
use Rattle.gtd_hours_known.specs.Rules.{AreGivenDays, AreHolidayRules, AreSpoken, AreWithHolidays}
use Rattle.gtd_hours_known.specs.Said.{AreOwnRules, ClosedAfter, InSpansOf, IsClosedThen, IsOnDayOf, IsOpenFrom, IsOpenThen}
use Rattle.gtd_hours_known.specs.Said.{IsOwnRule, IsSaidOpen, OpenAfter}
use Rattle.gtd_hours_known.specs.declared.known.Known.{Known}
use Rattle.gtd_hours_known.proofs.OneDays.{one_own}
use Rattle.gtd_hours_known.proofs.SaidDays.{made_of, match_of_same, same_match, same_spans, spans_of_same}

-- ---- what a rule says, by its spans and days

either_iff : (A B C D : Type 0) → (A ↔ B) → (C ↔ D) → (A ⊎ C) ↔ (B ⊎ D)
either_iff A B C D p q = (
  (λ h. elim h [ inl a ↦ inl (p.0 a) | inr a ↦ inr (q.0 a) ]),
  (λ h. elim h [ inl a ↦ inl (p.1 a) | inr a ↦ inr (q.1 a) ]),
)

without_iff : (A B C D : Type 0) → (A ↔ B) → (C ↔ D) → (A × (C → ⊥)) ↔ (B × (D → ⊥))
without_iff A B C D p q = ((λ h. (p.0 h.0, (λ d. h.1 (q.1 d)))), (λ h. (p.1 h.0, (λ c. h.1 (q.0 c)))))

without_two : (A B C D E F : Type 0) → (A ↔ B) → (C ↔ D) → (E ↔ F) → (A × (C → ⊥) × (E → ⊥)) ↔ (B × (D → ⊥) × (F → ⊥))
without_two A B C D E F p q r = (
  (λ h. (p.0 h.0, (λ d. h.1 (q.1 d)), (λ f. h.2 (r.1 f)))),
  (λ h. (p.1 h.0, (λ c. h.1 (q.0 c)), (λ e. h.2 (r.0 e)))),
)

same_iff : (A : Type 0) → A ↔ A
same_iff A = ((λ h. h), (λ h. h))

then_iff : (A B C : Type 0) → (A ↔ B) → (B ↔ C) → A ↔ C
then_iff A B C p q = ((λ a. q.0 (p.0 a)), (λ c. p.1 (q.1 c)))

opens_iff : (u : Bool) (m : Modifier) (l : Link) (S S' T T' P P' C C' : Type 0) → (S ↔ S') → (T ↔ T') → (P ↔ P') → (C ↔ C')
    → IsOpenThen u m l S T P C ↔ IsOpenThen u m l S' T' P' C'
opens_iff true m l S S' T T' P P' C C' s t p c = p
opens_iff false Open Instead S S' T T' P P' C C' s t p c =
    either_iff (P × (T → ⊥)) (P' × (T' → ⊥)) S S' (without_iff P P' T T' p t) s
opens_iff false Open Also S S' T T' P P' C C' s t p c = either_iff P P' S S' p s
opens_iff false Open Fallback S S' T T' P P' C C' s t p c =
    either_iff P P' (S × (C → ⊥)) (S' × (C' → ⊥)) p (without_iff S S' C C' s c)
opens_iff false Closed Instead S S' T T' P P' C C' s t p c = without_iff P P' S S' p s
opens_iff false Closed Also S S' T T' P P' C C' s t p c = without_iff P P' S S' p s
opens_iff false Closed Fallback S S' T T' P P' C C' s t p c = p

closes_iff : (u : Bool) (m : Modifier) (l : Link) (S S' T T' P P' C C' : Type 0) → (S ↔ S') → (T ↔ T') → (P ↔ P') → (C ↔ C')
    → IsClosedThen u m l S T P C ↔ IsClosedThen u m l S' T' P' C'
closes_iff true m l S S' T T' P P' C C' s t p c = c
closes_iff false Open Instead S S' T T' P P' C C' s t p c = without_two C C' T T' S S' c t s
closes_iff false Open Also S S' T T' P P' C C' s t p c = without_iff C C' S S' c s
closes_iff false Open Fallback S S' T T' P P' C C' s t p c = c
closes_iff false Closed Instead S S' T T' P P' C C' s t p c = either_iff C C' S S' c s
closes_iff false Closed Also S S' T T' P P' C C' s t p c = either_iff C C' S S' c s
closes_iff false Closed Fallback S S' T T' P P' C C' s t p c =
    either_iff C C' (S × (P → ⊥)) (S' × (P' → ⊥)) c (without_iff S S' P P' s p)

-- A rule of hours says this.
open_by : (m : Modifier) (l : Link) (rule : Rule) (P C : Type 0) (s : ℤ) → IsOpenBy m l rule P C s
    ↔ IsOpenThen false m l (InSpans rule.kinds.items rule.times.items s) (IsOnMatch rule.kinds.items s) P C
open_by Open Instead rule P C s = same_iff _
open_by Open Also rule P C s = same_iff _
open_by Open Fallback rule P C s = same_iff _
open_by Closed Instead rule P C s = same_iff _
open_by Closed Also rule P C s = same_iff _
open_by Closed Fallback rule P C s = same_iff _

closed_by : (m : Modifier) (l : Link) (rule : Rule) (P C : Type 0) (s : ℤ) → IsClosedBy m l rule P C s
    ↔ IsClosedThen false m l (InSpans rule.kinds.items rule.times.items s) (IsOnMatch rule.kinds.items s) P C
closed_by Open Instead rule P C s = same_iff _
closed_by Open Also rule P C s = same_iff _
closed_by Open Fallback rule P C s = same_iff _
closed_by Closed Instead rule P C s = same_iff _
closed_by Closed Also rule P C s = same_iff _
closed_by Closed Fallback rule P C s = same_iff _

-- with the modifier and the link of another rule
open_as : (m n : Modifier) (l k : Link) (rule : Rule) (P C : Type 0) (s : ℤ) → m ≡ n → l ≡ k → IsOpenBy m l rule P C s
    ↔ IsOpenThen false n k (InSpans rule.kinds.items rule.times.items s) (IsOnMatch rule.kinds.items s) P C
open_as m n l k rule P C s e f =
    subst (λ (x : Modifier). IsOpenBy m l rule P C s
    ↔ IsOpenThen false x k (InSpans rule.kinds.items rule.times.items s) (IsOnMatch rule.kinds.items s) P C) e
    (subst (λ (x : Link). IsOpenBy m l rule P C s
    ↔ IsOpenThen false m x (InSpans rule.kinds.items rule.times.items s) (IsOnMatch rule.kinds.items s) P C) f
    (open_by m l rule P C s))

closed_as : (m n : Modifier) (l k : Link) (rule : Rule) (P C : Type 0) (s : ℤ) → m ≡ n → l ≡ k → IsClosedBy m l rule P C s
    ↔ IsClosedThen false n k (InSpans rule.kinds.items rule.times.items s) (IsOnMatch rule.kinds.items s) P C
closed_as m n l k rule P C s e f =
    subst (λ (x : Modifier). IsClosedBy m l rule P C s
    ↔ IsClosedThen false x k (InSpans rule.kinds.items rule.times.items s) (IsOnMatch rule.kinds.items s) P C) e
    (subst (λ (x : Link). IsClosedBy m l rule P C s
    ↔ IsClosedThen false m x (InSpans rule.kinds.items rule.times.items s) (IsOnMatch rule.kinds.items s) P C) f
    (closed_by m l rule P C s))

after_same : (rules : List Rule) (P P' C C' : Type 0) (s : ℤ) → (P ↔ P') → (C ↔ C')
    → IsOpenAfter rules P C s ↔ IsOpenAfter rules P' C' s
after_same [] P P' C C' s p c = p
after_same (rule ∷ rules) P P' C C' s p c =
    let S = InSpans rule.kinds.items rule.times.items s in
    let T = IsOnMatch rule.kinds.items s in
    let m = rule.modifier in
    let l = rule.link in
    let o = opens_iff false m l S S T T P P' C C' (same_iff S) (same_iff T) p c in
    let k = closes_iff false m l S S T T P P' C C' (same_iff S) (same_iff T) p c in
    let a = open_by m l rule P C s in
    let b = open_by m l rule P' C' s in
    let x = closed_by m l rule P C s in
    let y = closed_by m l rule P' C' s in
    after_same rules _ _ _ _ s ((λ h. b.1 (o.0 (a.0 h))), (λ h. a.1 (o.1 (b.0 h))))
    ((λ h. y.1 (k.0 (x.0 h))), (λ h. x.1 (k.1 (y.0 h))))

-- ---- what a rule of the text says

one_made : (known : Known) (from : HolidayRule) (days : List Selector) (rule : Rule) (made others : List Rule)
    (P C : Type 0) (s : ℤ) → AreGivenDays known from.holidays.items days → AreWithHolidays from days (rule ∷ []) made
    → IsOpenAfter (made ++ others) P C s ↔ IsOpenAfter others
    (IsOpenThen false rule.modifier from.link (InSpansOf known from rule s) (IsOnDayOf known from rule s) P C)
    (IsClosedThen false rule.modifier from.link (InSpansOf known from rule s) (IsOnDayOf known from rule s) P C) s
one_made known from days rule [] others P C s given is = absurd is
one_made known from days rule (made ∷ []) others P C s given is =
    let own = made_of known from days rule made given is.0 in
    let spans = same_spans known from rule made s own in
    let match = same_match known from rule made s own in
    after_same others _ _ _ _ s
    (then_iff _ _ _ (open_as made.modifier rule.modifier made.link from.link made P C s own.modifier own.link)
    (opens_iff false rule.modifier from.link _ _ _ _ P P C C spans match (same_iff P) (same_iff C)))
    (then_iff _ _ _ (closed_as made.modifier rule.modifier made.link from.link made P C s own.modifier own.link)
    (closes_iff false rule.modifier from.link _ _ _ _ P P C C spans match (same_iff P) (same_iff C)))
one_made known from days rule (made ∷ more ∷ rest) others P C s given is = absurd is.1

none_made : (made others : List Rule) (P C : Type 0) (s : ℤ) → made ≡ [] → IsOpenAfter (made ++ others) P C s
    ↔ IsOpenAfter others P C s
none_made [] others P C s e = same_iff _
none_made (rule ∷ rules) others P C s e = absurd cc

made_then : (u : Bool) (known : Known) (from : HolidayRule) (days : List Selector) (rule : Rule) (made others : List Rule)
    (P C : Type 0) (s : ℤ) → AreGivenDays known from.holidays.items days → AreSpoken u from days (rule ∷ []) made
    → IsOpenAfter (made ++ others) P C s ↔ IsOpenAfter others
    (IsOpenThen u rule.modifier from.link (InSpansOf known from rule s) (IsOnDayOf known from rule s) P C)
    (IsClosedThen u rule.modifier from.link (InSpansOf known from rule s) (IsOnDayOf known from rule s) P C) s
made_then true known from days rule made others P C s given is = none_made made others P C s is
made_then false known from days rule made others P C s given is = one_made known from days rule made others P C s given is

-- ---- of the own texts

-- One rule stands there, and this is the same.
record IsOne (rule : Rule) (rules : List Rule) : Type 0 where
  one : Rule
  is : rules ≡ one ∷ []
  same : SameRule rule one

one_of : (rule : Rule) (rules : List Rule) → SameRules (rule ∷ []) rules → IsOne rule rules
one_of rule [] same = absurd same
one_of rule (one ∷ []) same = record { one = one; is = refl; same = same.0 }
one_of rule (one ∷ more ∷ rules) same = absurd same.1

own_one : (known : Known) (from : HolidayRule) (rule : Rule) (hours : Hours) → IsOwnRule known from rule
    → IsOwnHours known from hours → IsOne rule hours.rules.items
own_one known from rule hours own stands =
    one_of rule hours.rules.items (subst (λ (l : List Rule). SameRules l hours.rules.items) own.2
    (one_own known from own.0 hours own.1 stands))

-- what the rule says that stands there is what its own rule says
same_open : (u : Bool) (m n : Modifier) (l : Link) (S S' T T' P O C D : Type 0) → n ≡ m → (S ↔ S') → (T ↔ T') → (P ↔ O)
    → (C ↔ D) → IsOpenThen u n l S T P C ↔ IsOpenThen u m l S' T' O D
same_open u m n l S S' T T' P O C D e s t p c =
    subst (λ (x : Modifier). IsOpenThen u n l S T P C ↔ IsOpenThen u x l S' T' O D) e
    (opens_iff u n l S S' T T' P O C D s t p c)

same_closed : (u : Bool) (m n : Modifier) (l : Link) (S S' T T' P O C D : Type 0) → n ≡ m → (S ↔ S') → (T ↔ T') → (P ↔ O)
    → (C ↔ D) → IsClosedThen u n l S T P C ↔ IsClosedThen u m l S' T' O D
same_closed u m n l S S' T T' P O C D e s t p c =
    subst (λ (x : Modifier). IsClosedThen u n l S T P C ↔ IsClosedThen u x l S' T' O D) e
    (closes_iff u n l S S' T T' P O C D s t p c)

-- ---- all rules

none_left : (made : List Rule) (P O C : Type 0) (s : ℤ) → made ≡ [] → (P ↔ O) → IsOpenAfter made P C s ↔ O
none_left [] P O C s e p = p
none_left (rule ∷ rules) P O C s e p = absurd cc

hours_say : (known : Known) (rules : List HolidayRule) (made own : List Rule) (P O C D : Type 0) (s : ℤ)
    → AreHolidayRules known rules made → AreOwnRules known rules own → (P ↔ O) → (C ↔ D)
    → IsOpenAfter made P C s ↔ IsOpenFrom known rules own O D s
hours_say known [] made own P O C D s is owns p c = none_left made P O C s is p
hours_say known (from ∷ rules) made [] P O C D s is owns p c = absurd owns
hours_say known (from ∷ rules) made (rule ∷ own) P O C D s is owns p c =
    let u = is_some from.unknown in
    let one = own_one known from rule is.2.plain owns.0 is.2.own in
    let spoken = subst (λ (l : List Rule). AreSpoken u from is.2.days l is.0) one.is is.2.are in
    let first = made_then u known from is.2.days one.one is.0 is.1 P C s is.2.listed spoken in
    let whole = subst (λ (l : List Rule). IsOpenAfter l P C s ↔ IsOpenAfter is.1
    (IsOpenThen u one.one.modifier from.link (InSpansOf known from one.one s) (IsOnDayOf known from one.one s) P C)
    (IsClosedThen u one.one.modifier from.link (InSpansOf known from one.one s) (IsOnDayOf known from one.one s) P C) s)
    (sym is.4) first in
    let spans = spans_of_same known from rule one.one s one.same in
    let match = match_of_same known from rule one.one s one.same in
    then_iff _ _ _ whole
    (hours_say known rules is.1 own _ (OpenAfter known from rule O D s) _ (ClosedAfter known from rule O D s) s is.3 owns.1
    (same_open u rule.modifier one.one.modifier from.link _ _ _ _ P O C D (sym one.same.modifier) spans match p c)
    (same_closed u rule.modifier one.one.modifier from.link _ _ _ _ P O C D (sym one.same.modifier) spans match p c))

pub said : (known : Known) (found : HolidayText) (hours : Hours) (own : List Rule) → IsKnown known found hours
    → AreOwnRules known found.rules.items own → (s : ℤ) → IsOpen hours s ↔ IsSaidOpen known found.rules.items own s
said known found hours own is owns s =
    hours_say known found.rules.items hours.rules.items own ⊥ ⊥ ⊥ ⊥ s is.rules owns (same_iff ⊥) (same_iff ⊥)
