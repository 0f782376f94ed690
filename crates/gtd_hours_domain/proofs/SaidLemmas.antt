-- What rules say of a second: of the same seconds they say the same.
use Rattle.std.proofs.Common.{true, false, ◌||◌, not, Bool, ◌≡◌, ◌∙◌, ◌↔◌, ◌⊎◌, ℕ, ◌≤◌, refl, inl, inr, arith, ℤ}
use Rattle.std.proofs.Common.{List, [], ◌∷◌, nat_le}
use Rattle.std.proofs.lemmas.Bool.{false≢true, leb-true, not-false, or_parts}
use Rattle.gtd_core.specs.Seconds.{day_of_second}
use Rattle.gtd_hours.specs.Cost.{ends_late, falls_back, some_falls_back}
use Rattle.gtd_hours.specs.Opening.{InSpans, IsClosedBy, IsOnMatch, IsOpenAfter, IsOpenBy, IsTimeOn, SomeTime}
use Rattle.gtd_hours.specs.Ranges.{end_of}
use Rattle.gtd_hours.specs.declared.hours.Kind.{Kind}
use Rattle.gtd_hours.specs.declared.hours.TimeRange.{TimeRange}
use Rattle.gtd_hours.specs.declared.hours.Rule.{Rule}
use Rattle.gtd_hours.specs.declared.hours.Link.{Link}
use Rattle.gtd_hours.specs.declared.hours.Link.TheVariants.{Instead, Also, Fallback}
use Rattle.gtd_hours.specs.declared.hours.Modifier.{Modifier}
use Rattle.gtd_hours.specs.declared.hours.Modifier.TheVariants.{Open, Closed}
use Rattle.gtd_hours_domain.proofs.SpanLemmas.{on-match, own}

-- what is there, and more
or-both : (P Q X : Type 0) → P ↔ Q → (P ⊎ X) ↔ (Q ⊎ X)
or-both P Q X h =
    ((λ x. elim x [ inl p ↦ inl (h.0 p) | inr r ↦ inr r ]), (λ x. elim x [ inl q ↦ inl (h.1 q) | inr r ↦ inr r ]))

-- and without others
rest-both : (P Q X C D : Type 0) → P ↔ Q → C ↔ D → (P ⊎ (X × (C → ⊥))) ↔ (Q ⊎ (X × (D → ⊥)))
rest-both P Q X C D h k = (
  (λ x. elim x [ inl p ↦ inl (h.0 p) | inr r ↦ inr (r.0, λ d. r.1 (k.1 d)) ]),
  (λ x. elim x [ inl q ↦ inl (h.1 q) | inr r ↦ inr (r.0, λ c. r.1 (k.0 c)) ]),
)

pub rest-of : (m p q o : Type 0) → (m ↔ (p × (o → ⊥))) → (p ↔ q) → m ↔ (q × (o → ⊥))
rest-of m p q o h k = ((λ x. let y = h.0 x in (k.0 y.0, y.1)), (λ x. h.1 (k.1 x.0, x.1)))

and-both : (P Q X : Type 0) → P ↔ Q → (P × X) ↔ (Q × X)
and-both P Q X h = ((λ x. (h.0 x.0, x.1)), (λ x. (h.1 x.0, x.1)))

-- what is said to be closed matters to an open fallback rule alone
pub open_by-same : (m : Modifier) (l : Link) (rule : Rule) (P Q C D : Type 0) (s : ℤ) → P ↔ Q
    → (falls_back m l ≡ true → C ↔ D) → IsOpenBy m l rule P C s ↔ IsOpenBy m l rule Q D s
open_by-same Open Instead rule P Q C D s h k = or-both _ _ _ (and-both P Q _ h)
open_by-same Open Also rule P Q C D s h k = or-both P Q _ h
open_by-same Open Fallback rule P Q C D s h k = rest-both P Q _ C D h (k refl)
open_by-same Closed Instead rule P Q C D s h k = and-both P Q _ h
open_by-same Closed Also rule P Q C D s h k = and-both P Q _ h
open_by-same Closed Fallback rule P Q C D s h k = h

pub closed_by-same : (m : Modifier) (l : Link) (rule : Rule) (P Q C D : Type 0) (s : ℤ) → P ↔ Q → C ↔ D
    → IsClosedBy m l rule P C s ↔ IsClosedBy m l rule Q D s
closed_by-same Open Instead rule P Q C D s h k = ((λ x. (k.0 x.0, x.1, x.2)), (λ x. (k.1 x.0, x.1, x.2)))
closed_by-same Open Also rule P Q C D s h k = and-both C D _ k
closed_by-same Open Fallback rule P Q C D s h k = k
closed_by-same Closed Instead rule P Q C D s h k = or-both C D _ k
closed_by-same Closed Also rule P Q C D s h k = or-both C D _ k
closed_by-same Closed Fallback rule P Q C D s h k = rest-both C D _ P Q k h

from-left : (a b : Bool) → a ≡ true → (a || b) ≡ true
from-left true b e = refl
from-left false b e = absurd (false≢true e)

from-right : (a b : Bool) → b ≡ true → (a || b) ≡ true
from-right true b e = refl
from-right false b e = e

-- and so of all rules, up to the last open fallback rule
pub after-same : (rules : List Rule) (P Q C D : Type 0) (s : ℤ) → P ↔ Q → (some_falls_back rules ≡ true → C ↔ D)
    → IsOpenAfter rules P C s ↔ IsOpenAfter rules Q D s
after-same [] P Q C D s h k = h
after-same (rule ∷ rules) P Q C D s h k =
    after-same rules _ _ _ _ s
    (open_by-same rule.modifier rule.link rule P Q C D s h (λ e. k (from-left (falls_back rule.modifier rule.link) _ e)))
    (λ e. closed_by-same rule.modifier rule.link rule P Q C D s h (k (from-right (falls_back rule.modifier rule.link) _ e)))

-- one rule more
pub one_more-rule : (O C P D r : Type 0) (asked : Bool) (rule : Rule) (rules rest : List Rule) (s : ℤ) → rest ≡ rule ∷ rules
    → asked ≡ some_falls_back rules → (P ↔ IsOpenBy rule.modifier rule.link rule O C s)
    → (asked ≡ true → D ↔ IsClosedBy rule.modifier rule.link rule O C s)
    → (IsOpenAfter rest O C s ↔ r) → (IsOpenAfter rules P D s ↔ r)
one_more-rule O C P D r asked rule rules rest s same is one two all =
    let each = rw same at all in
    let after = after-same rules P (IsOpenBy rule.modifier rule.link rule O C s) D
    (IsClosedBy rule.modifier rule.link rule O C s) s one (λ e. two (is ∙ e)) in
    ((λ h. each.0 (after.0 h)), (λ h. after.1 (each.1 h)))

-- A closed fallback rule, for which alone it matters what is open, leaves that as it is.
pub closed_by-open : (m : Modifier) (l : Link) (rule : Rule) (O C P : Type 0) (s : ℤ) → (P ↔ IsOpenBy m l rule O C s)
    → IsClosedBy m l rule P C s ↔ IsClosedBy m l rule O C s
closed_by-open Open Instead rule O C P s h = ((λ x. x), (λ x. x))
closed_by-open Open Also rule O C P s h = ((λ x. x), (λ x. x))
closed_by-open Open Fallback rule O C P s h = ((λ x. x), (λ x. x))
closed_by-open Closed Instead rule O C P s h = ((λ x. x), (λ x. x))
closed_by-open Closed Also rule O C P s h = ((λ x. x), (λ x. x))
closed_by-open Closed Fallback rule O C P s h = rest-both C C _ P O ((λ x. x), (λ x. x)) h

-- spans that do not end on a later day are on days that match
on-day : (ts : List TimeRange) (n s : ℤ) → ends_late ts ≡ false → SomeTime ts n s → day_of_second s ≡ n
on-day [] n s e h = absurd h
on-day (t ∷ ts) n s e h =
    let parts = or_parts (not (nat_le (end_of t.begin t.last) 1440)) (ends_late ts) e in
    elim h [
      | inl x ↦ own s n t.begin (end_of t.begin t.last) x (early (end_of t.begin t.last) parts.0)
      | inr x ↦ on-day ts n s parts.1 x
    ]
  where
    early : (k : ℕ) → not (nat_le k 1440) ≡ false → k ≤ 1440
    early k e = leb-true k 1440 (not-false (nat_le k 1440) e)

time-day : (ts : List TimeRange) (n s : ℤ) → ends_late ts ≡ false → IsTimeOn ts n s → day_of_second s ≡ n
time-day [] n s e h = own s n 0 1440 h (omega arith)
time-day (t ∷ ts) n s e h = on-day (t ∷ ts) n s e h

pub spans-match : (kinds : List Kind) (ts : List TimeRange) (s : ℤ) → ends_late ts ≡ false → InSpans kinds ts s
    → IsOnMatch kinds s
spans-match kinds ts s e h = (on-match kinds s).0 (rw (time-day ts h.0 s e h.2) h.1)

-- so nothing more is unsaid
pub unsaid-days : (k b : Type 0) (rule : Rule) (s : ℤ) → ends_late rule.times.items ≡ false
    → (k ↔ (b × (IsOnMatch rule.kinds.items s → ⊥)))
    → k ↔ (b × (IsOnMatch rule.kinds.items s → ⊥) × (InSpans rule.kinds.items rule.times.items s → ⊥))
unsaid-days k b rule s e kept = (
  (λ h. let y = kept.0 h in (y.0, y.1, λ z. y.1 (spans-match rule.kinds.items rule.times.items s e z))),
  (λ x. kept.1 (x.0, x.1)),
)
