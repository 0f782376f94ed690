-- Spaces from one place up to another.
use Rattle.std.proofs.Common.{◌≡◌, ◌≢◌, ℕ, zero, suc, ◌+◌, ◌<◌, ◌≤◌, List, length, subst, arith, inl, inr}
use Rattle.std.specs.Prelude.{slice_index}
use Rattle.std.proofs.lemmas.Bool.{cases_eq, cases_lt, cases_order}
use Rattle.gtd_scan.specs.Spaces.{AreSpaces}

pub no_spaces : (text : List ℕ) (place : ℕ) → AreSpaces text place place
no_spaces text place = (omega arith, λ i le lt. absurd (omega (arith, le, lt)))

pub space_more : (text : List ℕ) (place to : ℕ) → slice_index text place ≡ 32 → AreSpaces text (place + 1) to
    → AreSpaces text place to
space_more text place to space more = (
  omega (arith, more.0),
  λ i le lt. elim (cases_order place i) [
    | inl same ↦ subst (λ (n : ℕ). slice_index text n ≡ 32) same space
    | inr (inl less) ↦ more.1 i (omega (arith, less)) lt
    | inr (inr over) ↦ absurd (omega (arith, over, le))
  ],
)

-- spaces that end at two places, at neither of which is a space
pub same_end : (text : List ℕ) (from a b : ℕ) → AreSpaces text from a → AreSpaces text from b
    → (a < length text → slice_index text a ≢ 32) → (b < length text → slice_index text b ≢ 32) → a ≤ length text
    → b ≤ length text → a ≡ b
same_end text from a b h k none also in_a in_b = elim (cases_order a b) [
  | inl same ↦ same
  | inr (inl less) ↦ absurd (none (omega (arith, less, in_b)) (k.1 a h.0 less))
  | inr (inr more) ↦ absurd (also (omega (arith, more, in_a)) (h.1 b k.0 more))
]

-- spaces from one place up to another, with which the text ends or at which is none
pub record Spaces (text : List ℕ) (from : ℕ) : Type 0 where
  pub to : ℕ
  pub spaces : AreSpaces text from to
  pub inside : to ≤ length text
  pub ends : to < length text → slice_index text to ≢ 32

pub spaces_from : (fuel : ℕ) (text : List ℕ) (from : ℕ) → from ≤ length text → length text ≤ from + fuel → Spaces text from
spaces_from zero text from le all = record {
  to = from;
  spaces = no_spaces text from;
  inside = le;
  ends = λ lt. absurd (omega (arith, lt, all));
}
spaces_from (suc fuel) text from le all = elim (cases_lt from (length text)) [
  | inr end ↦ record { to = from; spaces = no_spaces text from; inside = le; ends = λ lt. absurd (omega (arith, lt, end)) }
  | inl lt ↦ elim (cases_eq (slice_index text from) 32) [
    | inr other ↦ record { to = from; spaces = no_spaces text from; inside = le; ends = λ lt. other }
    | inl space ↦
        let more = spaces_from fuel text (from + 1) (omega (arith, lt)) (omega (arith, all)) in
        record { to = more.to; spaces = space_more text from more.to space more.spaces; inside = more.inside; ends = more.ends }
  ]
]
