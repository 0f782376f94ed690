-- Groups and runs with their years hold exactly the days of the set.
use Rattle.std.proofs.Common.{◌≡◌, sym, refl, subst, arith, ◌≤◌, ◌⊎◌, inl, inr, ◌↔◌, ◌+◌, ◌-◌, ◌*◌, ℕ, zero, suc, List, [], ◌∷◌}
use Rattle.std.proofs.Common.{Option, Some, None, ℤ, pos, ◌+ℤ◌, ◌-ℤ◌, ◌≤ℤ◌, unsigned_abs}
use Rattle.std.proofs.lemmas.Bool.{cases_order}
use Rattle.std.proofs.lemmas.Int.{by_lt_z}
use Rattle.gtd_core.specs.Limits.{first_calendar_day}
use Rattle.gtd_calendar.specs.facts.Signed.{signed_arith, one_part}
use Rattle.gtd_calendar.specs.Calendar.{IsDateOf, first_day, year_length}
use Rattle.gtd_calendar.specs.facts.YearLemmas.{first_day-next}
use Rattle.gtd_hours_holidays.specs.Days.{IsIn}
use Rattle.gtd_hours_holidays.specs.KnownYears.{IsOfYears}
use Rattle.gtd_hours_holidays.specs.Runs.{AreRuns}
use Rattle.gtd_hours_holidays.specs.declared.days.Days.{Days}
use Rattle.gtd_hours_holidays.specs.declared.known_years.KnownYears.{KnownYears}
use Rattle.gtd_hours_holidays.specs.declared.run.Run.{Run}
use Rattle.gtd_hours_days.specs.Groups.{AreGroups, AreSplit, ComesAfter, HasGroup, IsBefore, IsEachYear, IsGrouping, IsOfGroup}
use Rattle.gtd_hours_days.specs.Groups.{IsOneOf}
use Rattle.gtd_hours_days.specs.Parts.{AreShort, IsNear, IsOfRun, IsShort, IsWritten, SomeGroup, SomeRun}
use Rattle.gtd_hours_days.specs.declared.group.Group.{Group}
use Rattle.gtd_hours_days.proofs.DateFacts.{long_year}

-- ---- runs

pub in_runs : (days : Days) (from : ℤ) (runs : List Run) (n : ℤ) → AreRuns days from runs → from ≤ℤ n → IsIn days n
    → SomeRun runs n
in_runs days from [] n are low h = absurd (are n low h.0.1 h)
in_runs days from (run ∷ runs) n are low h =
    by_lt_z n run.first (λ lt. absurd (are.0.first.earlier n low lt h))
    (λ begun. by_lt_z run.last n
    (λ after. inr (in_runs days (run.last +ℤ pos 1) runs n are.1 (omega (arith, signed_arith, after)) h))
    (λ in_it. inl (begun, in_it)))

pub of_runs : (days : Days) (from : ℤ) (runs : List Run) (n : ℤ) → AreRuns days from runs → SomeRun runs n → IsIn days n
of_runs days from [] n are h = absurd h
of_runs days from (run ∷ runs) n are (inl h) = are.0.last.each n h.0 h.1
of_runs days from (run ∷ runs) n are (inr h) = of_runs days (run.last +ℤ pos 1) runs n are.1 h

-- the days of a run are its group's
pub in_group : (run : Run) (group : Group) (n : ℤ) → HasGroup run group → IsOfRun run n → IsOfGroup group n
in_group run group n has h =
    let part = one_part (n -ℤ run.first) in
    let low = h.0 in
    let high = h.1 in
    let long = has.1 in
    let k : ℕ = unsigned_abs (n -ℤ run.first) in
    let at : n -ℤ pos k ≡ run.first = omega (arith, signed_arith, part, low) in (
      k,
      omega (arith, signed_arith, part, low, high, long),
      (has.0.0, subst (λ (m : ℤ). IsDateOf m has.0.0 group.month group.day) (sym at) has.0.1),
    )

-- ---- runs that are split

-- the day is of a run that may be a group, or of one of the other runs
abbrev pub IsFound : KnownYears → List Group → List Run → ℤ → Type 0
IsFound years found others n =
    ((group : Group) × IsOneOf group found × IsOfYears years.first years.last n × IsOfGroup group n) ⊎ SomeRun others n

pub in_split : (days : Days) (years : KnownYears) (runs : List Run) (found : List Group) (others : List Run) (n : ℤ)
    → AreSplit days years runs found others → SomeRun runs n → IsFound years found others n
in_split days years [] found others n split h = absurd h
in_split days years (run ∷ runs) found others n (inl x) (inl h) =
    let yearly = x.2 in
    let low = h.0 in
    let high = h.1 in
    let begins = yearly.begins in
    let ends = yearly.ends in
    inl (
      x.0,
      rw x.4 (inl refl),
      (omega (arith, signed_arith, low, begins), omega (arith, signed_arith, high, ends)),
      in_group run x.0 n yearly.same h,
    )
in_split days years (run ∷ runs) found others n (inl x) (inr h) = elim (in_split days years runs x.1 others n x.3 h) [
  | inl y ↦ inl (y.0, rw x.4 (inr y.1), y.2, y.3)
  | inr y ↦ inr y
]
in_split days years (run ∷ runs) found others n (inr x) (inl h) = inr (rw x.3 (inl h))
in_split days years (run ∷ runs) found others n (inr x) (inr h) = elim (in_split days years runs found x.0 n x.2 h) [
  | inl y ↦ inl y
  | inr y ↦ inr (rw x.3 (inr y))
]

pub other_of : (days : Days) (years : KnownYears) (runs : List Run) (found : List Group) (others : List Run) (n : ℤ)
    → AreSplit days years runs found others → SomeRun others n → SomeRun runs n
other_of days years [] found others n split h = absurd (subst (λ (rs : List Run). SomeRun rs n) split.1 h)
other_of days years (run ∷ runs) found others n (inl x) h = inr (other_of days years runs x.1 others n x.3 h)
other_of days years (run ∷ runs) found others n (inr x) h = elim (subst (λ (rs : List Run). SomeRun rs n) x.3 h) [
  | inl y ↦ inl y
  | inr y ↦ inr (other_of days years runs found x.0 n x.2 y)
]

pub each_found : (days : Days) (years : KnownYears) (runs : List Run) (found : List Group) (others : List Run) (group : Group)
    → AreSplit days years runs found others → IsOneOf group found → IsEachYear days years group
each_found days years [] found others group split h = absurd (subst (IsOneOf group) split.0 h)
each_found days years (run ∷ runs) found others group (inl x) h = elim (subst (IsOneOf group) x.4 h) [
  | inl e ↦ subst (IsEachYear days years) (sym e) x.2.each
  | inr y ↦ each_found days years runs x.1 others group x.3 y
]
each_found days years (run ∷ runs) found others group (inr x) h = each_found days years runs found x.0 group x.2 h

-- ---- each group once

-- the same month, day and number of days
abbrev pub AreSame : Group → Group → Type 0
AreSame a b = (a.month ≡ b.month) × (a.day ≡ b.day) × (a.days ≡ b.days)

pub order_of : (a b : Group) → IsBefore a b ⊎ AreSame a b ⊎ IsBefore b a
order_of a b = elim (cases_order a.month b.month) [
  | inr (inl lt) ↦ inl (inl lt)
  | inr (inr gt) ↦ inr (inr (inl gt))
  | inl same ↦ elim (cases_order a.day b.day) [
    | inr (inl lt) ↦ inl (inr (same, inl lt))
    | inr (inr gt) ↦ inr (inr (inr (sym same, inl gt)))
    | inl day ↦ elim (cases_order a.days b.days) [
      | inr (inl lt) ↦ inl (inr (same, inr (day, lt)))
      | inr (inr gt) ↦ inr (inr (inr (sym same, inr (sym day, gt))))
      | inl days ↦ inr (inl (same, day, days))
    ]
  ]
]

same_days : (a b : Group) (n : ℤ) → AreSame a b → IsOfGroup a n → IsOfGroup b n
same_days a b n same h =
    (h.0, (let few = h.1 in let e = same.2 in omega (arith, few, e)), rw (same.0, same.1) at h.2)

pub in_groups : (found : List Group) (after : Option Group) (groups : List Group) (group : Group) (n : ℤ)
    → AreGroups found after groups → IsOneOf group found → ComesAfter after group → IsOfGroup group n → SomeGroup groups n
in_groups found after [] group n are is later h = absurd (are group is later)
in_groups found after (g ∷ groups) group n are is later h = elim (order_of group g) [
  | inl low ↦ absurd (are.0.first group is later low)
  | inr (inl same) ↦ inl (same_days group g n same h)
  | inr (inr low) ↦ inr (in_groups found (Some g) groups group n are.1 is low h)
]

pub of_groups : (found : List Group) (after : Option Group) (groups : List Group) (n : ℤ) → AreGroups found after groups
    → SomeGroup groups n → (group : Group) × IsOneOf group found × IsOfGroup group n
of_groups found after [] n are h = absurd h
of_groups found after (g ∷ groups) n are (inl h) = (g, are.0.is, h)
of_groups found after (g ∷ groups) n are (inr h) = of_groups found (Some g) groups n are.1 h

-- ---- the whole

pub is_written : (days : Days) (years : KnownYears) (yearly : List Group) (dated : List Run)
    → IsGrouping days years yearly dated → (n : ℤ) → IsIn days n ↔ IsWritten years yearly dated n
is_written days years yearly dated g n = (there, back)
  where
    there : IsIn days n → IsWritten years yearly dated n
    there h = let in_some = in_runs days first_calendar_day g.runs n g.are h.0.0 h in elim (g.chosen) [
      | inl x ↦ rw (x.1, x.2) (elim (in_split days years g.runs g.found g.others n g.split in_some) [
        | inl y ↦ inl (y.2, in_groups g.found None g.groups y.0 n g.each y.1 tt y.3)
        | inr y ↦ inr y
      ])
      | inr x ↦ rw (x.1, x.2) (inr in_some)
    ]

    grouped : IsOfYears years.first years.last n → SomeGroup g.groups n → IsIn days n
    grouped of h =
        let member = of_groups g.found None g.groups n g.each h in
        each_found days years g.runs g.found g.others member.0 g.split member.1 n of member.2

    back : IsWritten years yearly dated n → IsIn days n
    back h = elim (g.chosen) [
      | inl x ↦ elim (rw (x.1, x.2) at h) [
        | inl y ↦ grouped y.0 y.1
        | inr y ↦ of_runs days first_calendar_day g.runs n g.are (other_of days years g.runs g.found g.others n g.split y)
      ]
      | inr x ↦ elim (rw (x.1, x.2) at h) [
        | inl y ↦ absurd y.1
        | inr y ↦ of_runs days first_calendar_day g.runs n g.are y
      ]
    ]

-- ---- runs are short

few_days : (y : ℤ) (k : ℕ) → first_day (y +ℤ pos k) ≤ℤ (first_day y +ℤ pos (366 * k))
few_days y zero = let e : y +ℤ pos 0 ≡ y = omega (arith, signed_arith) in rw e (omega (arith, signed_arith))
few_days y (suc k) =
    let e : y +ℤ pos (suc k) ≡ y +ℤ pos k +ℤ pos 1 = omega (arith, signed_arith) in
    rw e (more (first_day y) (first_day (y +ℤ pos k)) (first_day (y +ℤ pos k +ℤ pos 1)) k (year_length (y +ℤ pos k))
    (few_days y k) (first_day-next (y +ℤ pos k)) (long_year (y +ℤ pos k)).1)
  where
    more : (a b c : ℤ) (k l : ℕ) → b ≤ℤ (a +ℤ pos (366 * k)) → c ≡ b +ℤ pos l → l ≤ 366
        → c ≤ℤ (a +ℤ pos (366 * suc k))
    more a b c k l h e few = omega (arith, signed_arith, h, e, few)

pub few_of_years : (years : KnownYears) → first_day (pos (years.last + 1)) ≤ℤ (first_day (pos years.first) +ℤ pos 35868)
few_of_years years =
    let range = years.in_range in
    let low = range.1 in
    let high = range.3 in
    let k : ℕ = years.last + 1 - years.first in
    let at : pos years.first +ℤ pos k ≡ pos (years.last + 1) = omega (arith, signed_arith, low) in
    wide _ _ k (rw at at (few_days (pos years.first) k)) (omega (arith, low, high))
  where
    wide : (a b : ℤ) (k : ℕ) → a ≤ℤ (b +ℤ pos (366 * k)) → k ≤ 98 → a ≤ℤ (b +ℤ pos 35868)
    wide a b k h few = omega (arith, signed_arith, h, few)

short_run : (years : KnownYears) (run : Run) → IsNear years run.first → IsNear years run.last → IsShort run
short_run years run a b =
    let few = few_of_years years in
    let low = a.0 in
    let high = b.1 in
    omega (arith, signed_arith, few, low, high)

pub short_runs : (days : Days) (years : KnownYears) (from : ℤ) (runs : List Run) → AreRuns days from runs
    → ((n : ℤ) → IsIn days n → IsNear years n) → AreShort runs
short_runs days years from [] are near = tt
short_runs days years from (run ∷ runs) are near =
    let last : IsIn days run.last = are.0.last.each run.last are.0.last.order (omega (arith, signed_arith)) in (
      short_run years run (near run.first are.0.first.holds) (near run.last last),
      short_runs days years (run.last +ℤ pos 1) runs are.1 near,
    )

short_others : (days : Days) (years : KnownYears) (runs : List Run) (found : List Group) (others : List Run)
    → AreSplit days years runs found others → AreShort runs → AreShort others
short_others days years [] found others split short = rw split.1 tt
short_others days years (run ∷ runs) found others (inl x) short = short_others days years runs x.1 others x.3 short.1
short_others days years (run ∷ runs) found others (inr x) short =
    rw x.3 (short.0, short_others days years runs found x.0 x.2 short.1)

pub all_short : (days : Days) (years : KnownYears) (yearly : List Group) (dated : List Run) → IsGrouping days years yearly dated
    → ((n : ℤ) → IsIn days n → IsNear years n) → AreShort dated
all_short days years yearly dated g near =
    let short = short_runs days years first_calendar_day g.runs g.are near in elim (g.chosen) [
      | inl x ↦ rw x.2 (short_others days years g.runs g.found g.others g.split short)
      | inr x ↦ rw x.2 short
    ]
