-- Which runs come each year.
use Rattle.std.proofs.Common.{◌≡◌, ◌∙◌, sym, subst, arith, ◌<◌, ◌≤◌, ◌⊎◌, inl, inr, ◌+◌, ◌-◌, ℕ, ℤ, pos, ◌+ℤ◌, ◌-ℤ◌}
use Rattle.std.proofs.Common.{◌≤ℤ◌, ◌<ℤ◌, ◌↔◌, Bool, IsTrue, unsigned_abs}
use Rattle.gtd_calendar.specs.facts.Signed.{signed_arith, one_part}
use Rattle.gtd_calendar.specs.Calendar.{IsDateOf, first_day}
use Rattle.gtd_hours_holidays.specs.Days.{AreAll, IsIn}
use Rattle.gtd_hours_holidays.specs.KnownYears.{IsOfYears}
use Rattle.gtd_hours_holidays.specs.declared.days.Days.{Days}
use Rattle.gtd_hours_holidays.specs.declared.known_years.KnownYears.{KnownYears}
use Rattle.gtd_hours_holidays.specs.declared.run.Run.{Run}
use Rattle.gtd_hours_days.specs.Groups.{HasGroup, IsEachYear, IsOfGroup, IsYearly}
use Rattle.gtd_hours_days.specs.declared.group.Group.{Group}
use Rattle.gtd_hours_days.proofs.DateFacts.{not_leap, one_month_day, year_placed}

-- of the days of a group that begins in this year, those of the years are in the set
abbrev pub IsInYear : Days → KnownYears → Group → ℕ → Type 0
IsInYear days years group year = (n : ℤ) (k : ℕ) → IsOfYears years.first years.last n → k < group.days
    → IsDateOf (n -ℤ pos k) (pos year) group.month group.day → IsIn days n

-- ---- the days of one year

module _ (days : Days) (years : KnownYears) (group : Group) (year : ℕ) (start from to first last : ℤ)
    (date : IsDateOf start (pos year) group.month group.day)
    (begins : first ≡ first_day (pos years.first)) (ends : last +ℤ pos 1 ≡ first_day (pos (years.last + 1)))
    (low : (start ≤ℤ from) × (first ≤ℤ from) × ((from ≡ start) ⊎ (from ≡ first)))
    (high : (to ≤ℤ (start +ℤ pos (group.days - 1))) × (to ≤ℤ last)
    × ((to ≡ start +ℤ pos (group.days - 1)) ⊎ (to ≡ last))) (some : 1 ≤ group.days) where
  pub year_in : AreAll (IsIn days) from to → IsInYear days years group year
  year_in all n k of few is =
      let same : n -ℤ pos k ≡ start = is.1 ∙ sym date.1 in
      all n (after n k same of) (before n k same few of)
    where
      after : (n : ℤ) (k : ℕ) → n -ℤ pos k ≡ start → IsOfYears years.first years.last n → from ≤ℤ n
      after n k same of = elim (low.2) [
        | inl e ↦ omega (arith, signed_arith, e, same)
        | inr e ↦ let o = of.0 in omega (arith, signed_arith, e, begins, o)
      ]

      before : (n : ℤ) (k : ℕ) → n -ℤ pos k ≡ start → k < group.days → IsOfYears years.first years.last n → n ≤ℤ to
      before n k same few of = elim (high.2) [
        | inl e ↦ omega (arith, signed_arith, e, same, few)
        | inr e ↦ let o = of.1 in omega (arith, signed_arith, e, ends, o)
      ]

  pub year_all : IsInYear days years group year → AreAll (IsIn days) from to
  year_all each n a b =
      let part = one_part (n -ℤ start) in
      let l = low.0 in
      let f = low.1 in
      let h = high.0 in
      let t = high.1 in
      let k : ℕ = unsigned_abs (n -ℤ start) in
      let at : n -ℤ pos k ≡ start = omega (arith, signed_arith, part, a, l) in
      let few : k < group.days = omega (arith, signed_arith, part, a, l, b, h, some) in
      each n k (omega (arith, signed_arith, a, f, begins), omega (arith, signed_arith, b, t, ends)) few
      (subst (λ (m : ℤ). IsDateOf m (pos year) group.month group.day) (sym at) date)

-- ---- all years

pub all_years : (days : Days) (years : KnownYears) (group : Group)
    → ((year : ℕ) → years.first - 1 ≤ year → year < years.last + 1 → IsInYear days years group year)
    → IsEachYear days years group
all_years days years group each n of member =
    let k : ℕ = member.0 in
    let few = member.1 in
    let y : ℤ = member.2.0 in
    let short = group.in_range.2 in
    let known = years.in_range.0 in
    let placed = year_placed n y (pos years.first) (pos years.last) group.month group.day k of.0 (rw (next years.last) at of.1)
    (omega (arith, few, short)) member.2.1 in
    let year = natural y years.first years.last placed.0 placed.1 known in
    each year.0 year.2 year.3 n k of few (rw year.1 at member.2.1)
  where
    next : (l : ℕ) → pos (l + 1) ≡ pos l +ℤ pos 1
    next l = omega (arith, signed_arith)

    natural : (y : ℤ) (f l : ℕ) → (pos f -ℤ pos 1) ≤ℤ y → y ≤ℤ pos l → 1802 ≤ f
        → (c : ℕ) × (y ≡ pos c) × (f - 1 ≤ c) × (c < l + 1)
    natural y f l low high known =
        let part = one_part y in (
          unsigned_abs y,
          omega (arith, signed_arith, part, low, known),
          omega (arith, signed_arith, part, low, known),
          omega (arith, signed_arith, part, low, high, known),
        )

pub one_year : (days : Days) (years : KnownYears) (group : Group) (year : ℕ) → IsEachYear days years group
    → IsInYear days years group year
one_year days years group year each n k of few is = each n of (k, few, (pos year, is))

-- ---- the group of a run

pub no_group : (run : Run) (y : ℤ) (m d : ℕ) → IsDateOf run.first y m d
    → ((run.first +ℤ pos 366) ≤ℤ run.last) ⊎ ((m ≡ 2) × (d ≡ 29)) → (group : Group) → HasGroup run group → ⊥
no_group run y m d is why group has =
    let same = one_month_day group.month group.day m d run.first has.0 (y, is) in
    elim why [
      | inl long ↦ (let e = has.1 in let short = group.in_range.2 in omega (arith, signed_arith, long, e, short))
      | inr leap ↦ not_leap group.month group.day group.in_range.0 (same.0 ∙ leap.0) (same.1 ∙ leap.1)
    ]

pub same_days : (run : Run) (a b : Group) → HasGroup run a → HasGroup run b → a.days ≡ b.days
same_days run a b h g = let e = h.1 in let f = g.1 in omega (arith, signed_arith, e, f)

-- the days of a group are those of another one of the same run
pub same_group : (run : Run) (a b : Group) → HasGroup run a → HasGroup run b → (n : ℤ) → IsOfGroup a n → IsOfGroup b n
same_group run a b h g n x =
    let same = one_month_day a.month a.day b.month b.day run.first h.0 g.0 in
    let long = same_days run a b h g in
    (x.0, (let few = x.1 in omega (arith, few, long)), rw (same.0, same.1) at x.2)

pub not_yearly : (days : Days) (years : KnownYears) (run : Run) (group : Group) → HasGroup run group
    → (IsEachYear days years group → ⊥) → (other : Group) → IsYearly days years run other → ⊥
not_yearly days years run group has never other yearly =
    never (λ n of x. yearly.each n of (same_group run group other has yearly.same n x))

-- it lies between the first and the last day of the years
pub between : (years : KnownYears) (run : Run) (first last : ℤ) (b : Bool)
    → IsTrue b ↔ ((first ≤ℤ run.first) × (run.last ≤ℤ last))
    → first ≡ first_day (pos years.first) → last +ℤ pos 1 ≡ first_day (pos (years.last + 1))
    → IsTrue b ↔ ((first_day (pos years.first) ≤ℤ run.first) × (run.last <ℤ first_day (pos (years.last + 1))))
between years run first last b is begins ends = (
  (λ yes. let h = is.0 yes in
      let low = h.0 in
      let high = h.1 in
      (omega (arith, signed_arith, begins, low), omega (arith, signed_arith, ends, high))),
  (λ h. let low = h.0 in
      let high = h.1 in
      is.1 (omega (arith, signed_arith, begins, low), omega (arith, signed_arith, ends, high))),
)
