-- Rules without holidays are open at the same seconds, whatever a table says.
use Rattle.std.proofs.Common.{◌≡◌, refl, ◌⊎◌, inl, inr, ◌↔◌, ◌||◌, Bool, true, false, ℕ, ℤ, List, [], ◌∷◌}
use Rattle.std.specs.Prelude.{Option}
use Rattle.std.proofs.lemmas.Bool.{true≢false}
use Rattle.gtd_calendar.specs.declared.day.DayFields.{DayFields}
use Rattle.gtd_hours2.specs.declared.values.HolidayKind.{HolidayKind}
use Rattle.gtd_hours2.specs.declared.values.PartKind.{PartKind}
use Rattle.gtd_hours2.specs.declared.values.RuleLink.{RuleLink}
use Rattle.gtd_hours2.specs.declared.values.RuleLink.TheVariants.{Instead, Also, Fallback}
use Rattle.gtd_hours2.specs.declared.values.RulePart.{RulePart}
use Rattle.gtd_hours2.specs.declared.values.RulePart.TheVariants as part
use Rattle.gtd_hours2.specs.declared.values.RuleWord.{RuleWord}
use Rattle.gtd_hours2.specs.declared.values.RuleWord.TheVariants as word
use Rattle.gtd_hours2.specs.Opening.{Clocks, Given, HoldsOn, InSpans, IsClosedBy, IsOnMatch, IsOpenAfter, IsOpenBy, Matches, SomeHolds}
use Rattle.gtd_hours2.specs.Rules.{Rule, gives_holidays, has_holidays, is_holidays, says}

abbrev Table : Type 1
Table = HolidayKind → ℤ → Type 0

abbrev with_table : Table → Option (ℕ × ℕ) → Clocks → Given
with_table holiday years clocks = record { holiday = holiday; years = years; clocks = clocks }

first_false : (a b : Bool) → (a || b) ≡ false → a ≡ false
first_false true b h = h
first_false false b h = refl

second_false : (a b : Bool) → (a || b) ≡ false → b ≡ false
second_false true b h = absurd (true≢false h)
second_false false b h = h

holds_too : (T U : Table) → (years : Option (ℕ × ℕ)) → (clocks : Clocks) → (x : RulePart) → (n : ℤ) → (f : DayFields)
    → is_holidays x ≡ false → HoldsOn (with_table T years clocks) x n f → HoldsOn (with_table U years clocks) x n f
holds_too T U years clocks (part.Years first last step) n f none h = h
holds_too T U years clocks (part.Months first last) n f none h = h
holds_too T U years clocks (part.Days first last) n f none h = h
holds_too T U years clocks (part.Dated year first final last) n f none h = h
holds_too T U years clocks (part.Weeks first last step) n f none h = h
holds_too T U years clocks (part.Holidays which offset) n f none h = absurd (true≢false none)
holds_too T U years clocks (part.Weekdays first last) n f none h = h
holds_too T U years clocks (part.NthWeekday weekday number is_back offset) n f none h = h
holds_too T U years clocks (part.Time first last t) n f none h = h

some_too : (T U : Table) → (years : Option (ℕ × ℕ)) → (clocks : Clocks) → (leads : Bool) → (k : PartKind) → (xs : List RulePart)
    → (n : ℤ) → (f : DayFields) → gives_holidays xs ≡ false → SomeHolds (with_table T years clocks) leads k xs n f
    → SomeHolds (with_table U years clocks) leads k xs n f
some_too T U years clocks leads k [] n f none h = h
some_too T U years clocks leads k (x ∷ xs) n f none (inl h) =
    inl (h.0, holds_too T U years clocks x n f (first_false (is_holidays x) (gives_holidays xs) none) h.1)
some_too T U years clocks leads k (x ∷ xs) n f none (inr h) =
    inr (some_too T U years clocks leads k xs n f (second_false (is_holidays x) (gives_holidays xs) none) h)

matches_too : (T U : Table) → (years : Option (ℕ × ℕ)) → (clocks : Clocks) → (r : Rule) → gives_holidays r.parts ≡ false → (n : ℤ)
    → Matches (with_table T years clocks) r n → Matches (with_table U years clocks) r n
matches_too T U years clocks r none n m =
    (m.0, m.1, λ k no_time has. some_too T U years clocks r.head.leads k r.parts n m.0 none (m.2 k no_time has))

spans_too : (T U : Table) → (years : Option (ℕ × ℕ)) → (clocks : Clocks) → (r : Rule) → gives_holidays r.parts ≡ false → (s : ℤ)
    → InSpans (with_table T years clocks) r s → InSpans (with_table U years clocks) r s
spans_too T U years clocks r none s i = (i.0, matches_too T U years clocks r none i.0 i.1, i.2)

on_too : (T U : Table) → (years : Option (ℕ × ℕ)) → (clocks : Clocks) → (r : Rule) → gives_holidays r.parts ≡ false → (s : ℤ)
    → IsOnMatch (with_table T years clocks) r s → IsOnMatch (with_table U years clocks) r s
on_too T U years clocks r none s i = (i.0, i.1, matches_too T U years clocks r none i.0 i.2)

-- ---- what is the same on both sides

or_both : (A B C D : Type 0) → A ↔ B → C ↔ D → (A ⊎ C) ↔ (B ⊎ D)
or_both A B C D h k = ((λ x. elim x [ inl a ↦ inl (h.0 a) | inr c ↦ inr (k.0 c) ]), (λ x. elim x [ inl b ↦ inl (h.1 b) | inr d ↦ inr (k.1 d) ]))

and_both : (A B C D : Type 0) → A ↔ B → C ↔ D → (A × C) ↔ (B × D)
and_both A B C D h k = ((λ x. (h.0 x.0, k.0 x.1)), (λ x. (h.1 x.0, k.1 x.1)))

all_both : (A B C D E F : Type 0) → A ↔ B → C ↔ D → E ↔ F → (A × C × E) ↔ (B × D × F)
all_both A B C D E F h k m = ((λ x. (h.0 x.0, k.0 x.1, m.0 x.2)), (λ x. (h.1 x.0, k.1 x.1, m.1 x.2)))

not_both : (A B : Type 0) → A ↔ B → (A → ⊥) ↔ (B → ⊥)
not_both A B h = ((λ no_a b. no_a (h.1 b)), (λ no_b a. no_b (h.0 a)))

open_by : (g k : Given) → (w : RuleWord) → (l : RuleLink) → (r : Rule) → (O P C D : Type 0) → (s : ℤ)
    → InSpans g r s ↔ InSpans k r s → IsOnMatch g r s ↔ IsOnMatch k r s → O ↔ P → C ↔ D
    → IsOpenBy g w l r O C s ↔ IsOpenBy k w l r P D s
open_by g k word.Open Instead r O P C D s i m o c =
    or_both (O × (IsOnMatch g r s → ⊥)) (P × (IsOnMatch k r s → ⊥)) (InSpans g r s) (InSpans k r s)
    (and_both O P (IsOnMatch g r s → ⊥) (IsOnMatch k r s → ⊥) o (not_both (IsOnMatch g r s) (IsOnMatch k r s) m)) i
open_by g k word.Open Also r O P C D s i m o c = or_both O P (InSpans g r s) (InSpans k r s) o i
open_by g k word.Open Fallback r O P C D s i m o c =
    or_both O P (InSpans g r s × (C → ⊥)) (InSpans k r s × (D → ⊥)) o
    (and_both (InSpans g r s) (InSpans k r s) (C → ⊥) (D → ⊥) i (not_both C D c))
open_by g k word.Off Instead r O P C D s i m o c =
    and_both O P (InSpans g r s → ⊥) (InSpans k r s → ⊥) o (not_both (InSpans g r s) (InSpans k r s) i)
open_by g k word.Off Also r O P C D s i m o c =
    and_both O P (InSpans g r s → ⊥) (InSpans k r s → ⊥) o (not_both (InSpans g r s) (InSpans k r s) i)
open_by g k word.Off Fallback r O P C D s i m o c = o
open_by g k word.Unknown Instead r O P C D s i m o c = o
open_by g k word.Unknown Also r O P C D s i m o c = o
open_by g k word.Unknown Fallback r O P C D s i m o c = o

closed_by : (g k : Given) → (w : RuleWord) → (l : RuleLink) → (r : Rule) → (O P C D : Type 0) → (s : ℤ)
    → InSpans g r s ↔ InSpans k r s → IsOnMatch g r s ↔ IsOnMatch k r s → O ↔ P → C ↔ D
    → IsClosedBy g w l r O C s ↔ IsClosedBy k w l r P D s
closed_by g k word.Open Instead r O P C D s i m o c =
    all_both C D (IsOnMatch g r s → ⊥) (IsOnMatch k r s → ⊥) (InSpans g r s → ⊥) (InSpans k r s → ⊥) c
    (not_both (IsOnMatch g r s) (IsOnMatch k r s) m) (not_both (InSpans g r s) (InSpans k r s) i)
closed_by g k word.Open Also r O P C D s i m o c =
    and_both C D (InSpans g r s → ⊥) (InSpans k r s → ⊥) c (not_both (InSpans g r s) (InSpans k r s) i)
closed_by g k word.Open Fallback r O P C D s i m o c = c
closed_by g k word.Off Instead r O P C D s i m o c = or_both C D (InSpans g r s) (InSpans k r s) c i
closed_by g k word.Off Also r O P C D s i m o c = or_both C D (InSpans g r s) (InSpans k r s) c i
closed_by g k word.Off Fallback r O P C D s i m o c =
    or_both C D (InSpans g r s × (O → ⊥)) (InSpans k r s × (P → ⊥)) c
    (and_both (InSpans g r s) (InSpans k r s) (O → ⊥) (P → ⊥) i (not_both O P o))
closed_by g k word.Unknown Instead r O P C D s i m o c = c
closed_by g k word.Unknown Also r O P C D s i m o c = c
closed_by g k word.Unknown Fallback r O P C D s i m o c = c

pub open_after : (T U : Table) → (years : Option (ℕ × ℕ)) → (clocks : Clocks) → (rules : List Rule) → (O P C D : Type 0) → (s : ℤ)
    → has_holidays rules ≡ false → O ↔ P → C ↔ D
    → IsOpenAfter (with_table T years clocks) rules O C s ↔ IsOpenAfter (with_table U years clocks) rules P D s
open_after T U years clocks [] O P C D s none o c = o
open_after T U years clocks (r ∷ rules) O P C D s none o c =
    open_after T U years clocks rules
    (IsOpenBy (with_table T years clocks) (says r) r.head.link r O C s) (IsOpenBy (with_table U years clocks) (says r) r.head.link r P D s)
    (IsClosedBy (with_table T years clocks) (says r) r.head.link r O C s)
    (IsClosedBy (with_table U years clocks) (says r) r.head.link r P D s) s
    (second_false (gives_holidays r.parts) (has_holidays rules) none)
    (open_by (with_table T years clocks) (with_table U years clocks) (says r) r.head.link r O P C D s both_spans both_on o c)
    (closed_by (with_table T years clocks) (with_table U years clocks) (says r) r.head.link r O P C D s both_spans both_on o c)
  where
    here : gives_holidays r.parts ≡ false
    here = first_false (gives_holidays r.parts) (has_holidays rules) none

    both_spans : InSpans (with_table T years clocks) r s ↔ InSpans (with_table U years clocks) r s
    both_spans = (spans_too T U years clocks r here s, spans_too U T years clocks r here s)

    both_on : IsOnMatch (with_table T years clocks) r s ↔ IsOnMatch (with_table U years clocks) r s
    both_on = (on_too T U years clocks r here s, on_too U T years clocks r here s)
