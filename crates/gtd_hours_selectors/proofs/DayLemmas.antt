-- What the fields of a start say of a day, in the words of opening hours.
use Rattle.std.proofs.Common.{◌≡◌, ◌↔◌, ℕ, zero, suc, ◌+◌, ◌-◌, ◌*◌, ◌/◌, ◌%◌, ◌^◌, ◌<◌, ◌≤◌}
use Rattle.std.proofs.Common.{inl, inr, arith, ℤ, List, subst}
use Rattle.gtd_core.specs.Ranges.{no_parts}
use Rattle.gtd_core.specs.declared.start.StartParts.{StartParts}
use Rattle.gtd_calendar.specs.declared.day.DayFields.{DayFields}
use Rattle.gtd_calendar.specs.Calendar.{weekday_of}
use Rattle.gtd_calendar.specs.ComputedFields.{day_fields}
use Rattle.gtd_calendar.specs.facts.FieldLemmas.{fields-are, fields-only}
use Rattle.gtd_recur.specs.FieldMatches.{HoldsOnDay}
use Rattle.gtd_hours_selectors.specs.Days.{EachHoldsAt}
use Rattle.gtd_hours.specs.Opening.{EachHolds, IsRound, Matches}
use Rattle.gtd_hours.specs.declared.hours.Kind.{Kind}
use Rattle.gtd_hours.specs.facts.PlaceFacts.{weekday-in}

-- the weekdays of a range
abbrev pub with_weekdays : ℕ → StartParts
with_weekdays bits = record no_parts { weekdays = bits }

pub weekdays-hold : (bits first last : ℕ) → 0 < bits
    → ((k : ℕ) → 1 ≤ k → k ≤ 7 → (bits / 2 ^ (k - 1) % 2 ≡ 1) ↔ IsRound first last k)
    → (n : ℤ) → HoldsOnDay (with_weekdays bits) (day_fields n) ↔ IsRound first last (weekday_of n)
weekdays-hold bits first last some each n =
    let k = weekday-in n in
    let same = each (weekday_of n) k.0 k.1 in (
      (λ x. elim (x.weekdays) [ inl none ↦ absurd (omega (arith, none, some)) | inr one ↦ same.0 one ]),
      (λ y. record { year = tt; month = tt; week = tt; day = tt; nth = tt; nth_back = tt; weekdays = inr (same.1 y) }),
    )

-- seven bits, each found again
bit-of : (a b c d e f g : ℕ) → a ≤ 1 → b ≤ 1 → c ≤ 1 → d ≤ 1 → e ≤ 1 → f ≤ 1 → g ≤ 1
    → let all = a + 2 * b + 4 * c + 8 * d + 16 * e + 32 * f + 64 * g in
    (all / 1 % 2 ≡ a) × (all / 2 % 2 ≡ b) × (all / 4 % 2 ≡ c) × (all / 8 % 2 ≡ d) × (all / 16 % 2 ≡ e) × (all / 32 %
    2 ≡ f) × (all / 64 % 2 ≡ g)
bit-of a b c d e f g p q r s t u v =
    (omega arith, omega arith, omega arith, omega arith, omega arith, omega arith, omega arith)

along : (x a : ℕ) (P : Type 0) → x ≡ a → (a ≡ 1 ↔ P) → (x ≡ 1 ↔ P)
along x a P same h = rw same h

pub bits-hold : (a b c d e f g : ℕ) → a ≤ 1 → b ≤ 1 → c ≤ 1 → d ≤ 1 → e ≤ 1 → f ≤ 1 → g ≤ 1 → (P : ℕ → Type 0)
    → (a ≡ 1 ↔ P 1) → (b ≡ 1 ↔ P 2) → (c ≡ 1 ↔ P 3) → (d ≡ 1 ↔ P 4) → (e ≡ 1 ↔ P 5) → (f ≡ 1 ↔ P 6) → (g ≡ 1 ↔ P 7)
    → (k : ℕ) → 1 ≤ k → k ≤ 7
    → ((a + 2 * b + 4 * c + 8 * d + 16 * e + 32 * f + 64 * g) / 2 ^ (k - 1) % 2 ≡ 1) ↔ P k
bits-hold a b c d e f g p q r s t u v P ha hb hc hd he hf hg zero lo hi = absurd (omega arith)
bits-hold a b c d e f g p q r s t u v P ha hb hc hd he hf hg (suc zero) lo hi =
    along _ a (P 1) (bit-of a b c d e f g p q r s t u v).0 ha
bits-hold a b c d e f g p q r s t u v P ha hb hc hd he hf hg (suc (suc zero)) lo hi =
    along _ b (P 2) (bit-of a b c d e f g p q r s t u v).1 hb
bits-hold a b c d e f g p q r s t u v P ha hb hc hd he hf hg (suc (suc (suc zero))) lo hi =
    along _ c (P 3) (bit-of a b c d e f g p q r s t u v).2 hc
bits-hold a b c d e f g p q r s t u v P ha hb hc hd he hf hg (suc (suc (suc (suc zero)))) lo hi =
    along _ d (P 4) (bit-of a b c d e f g p q r s t u v).3 hd
bits-hold a b c d e f g p q r s t u v P ha hb hc hd he hf hg (suc (suc (suc (suc (suc zero))))) lo hi =
    along _ e (P 5) (bit-of a b c d e f g p q r s t u v).4 he
bits-hold a b c d e f g p q r s t u v P ha hb hc hd he hf hg (suc (suc (suc (suc (suc (suc zero)))))) lo hi =
    along _ f (P 6) (bit-of a b c d e f g p q r s t u v).5 hf
bits-hold a b c d e f g p q r s t u v P ha hb hc hd he hf hg (suc (suc (suc (suc (suc (suc (suc zero))))))) lo hi =
    along _ g (P 7) (bit-of a b c d e f g p q r s t u v).6 hg
bits-hold a b c d e f g p q r s t u v P ha hb hc hd he hf hg (suc (suc (suc (suc (suc (suc (suc (suc k)))))))) lo hi =
    absurd (omega arith)

-- the fields that are computed are a day's only ones
pub matches-computed : (kinds : List Kind) (n : ℤ) → EachHoldsAt kinds n ↔ Matches kinds n
matches-computed kinds n = (
  (λ h. (day_fields n, fields-are n, h)),
  (λ h. subst (λ (f : DayFields). EachHolds kinds n f) (fields-only n h.0 h.1) h.2),
)
