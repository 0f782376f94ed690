-- The holidays of rows, as rows of which no two of a kind have a day in common.
use Rattle.std.proofs.Common.{◌≡◌, refl, sym, subst, arith, ◌⊎◌, inl, inr, ◌↔◌, Bool, true, false}
use Rattle.std.proofs.Common.{List, [], ◌∷◌, ◌++◌, ℤ, pos, ◌+ℤ◌, ◌≤ℤ◌}
use Rattle.std.proofs.lemmas.Int.{by_lt_z}
use Rattle.gtd_core.specs.Limits.{first_calendar_day, last_calendar_day}
use Rattle.gtd_calendar.specs.facts.Signed.{signed_arith}
use Rattle.gtd_hours_holidays.specs.Days.{IsIn}
use Rattle.gtd_hours_holidays.specs.Merging.{AreSameHolidays, IsInRuns}
use Rattle.gtd_hours_holidays.specs.Runs.{AreRuns}
use Rattle.gtd_hours_holidays.specs.Table.{IsHoliday, IsOfRow, IsOfRows}
use Rattle.gtd_hours_holidays.specs.declared.days.Days.{Days}
use Rattle.gtd_hours_holidays.specs.declared.row.HolidayKind.{HolidayKind}
use Rattle.gtd_hours_holidays.specs.declared.row.HolidayKind.TheVariants.{Public, School}
use Rattle.gtd_hours_holidays.specs.declared.row.HolidayRow.{HolidayRow}
use Rattle.gtd_hours_holidays.specs.declared.run.Run.{Run}
use Rattle.gtd_hours_holidays.proofs.HolidayFacts.{of_more}

-- ---- the runs of a set have its days

run_in : (days : Days) (from : ℤ) (runs : List Run) (n : ℤ) → AreRuns days from runs → IsInRuns runs n → IsIn days n
run_in days from [] n are h = absurd h
run_in days from (run ∷ runs) n are (inl h) = are.0.last.each n h.0 h.1
run_in days from (run ∷ runs) n are (inr h) = run_in days (run.last +ℤ pos 1) runs n are.1 h

in_run : (days : Days) (from : ℤ) (runs : List Run) (n : ℤ) → AreRuns days from runs → from ≤ℤ n → n ≤ℤ last_calendar_day
    → IsIn days n → IsInRuns runs n
in_run days from [] n are low high is = absurd (are n low high is)
in_run days from (run ∷ runs) n are low high is =
    by_lt_z n run.first (λ before. absurd (are.0.first.earlier n low before is))
    (λ after. by_lt_z run.last n
    (λ late. inr (in_run days (run.last +ℤ pos 1) runs n are.1 (omega (arith, signed_arith, late)) high is))
    (λ within. inl (after, within)))

pub runs_days : (days : Days) (runs : List Run) (n : ℤ) → AreRuns days first_calendar_day runs → IsIn days n ↔ IsInRuns runs n
runs_days days runs n are =
    ((λ is. in_run days first_calendar_day runs n are is.0.0 is.0.1 is), (λ h. run_in days first_calendar_day runs n are h))

-- ---- runs put after rows

run_more : (runs : List Run) (run : Run) (n : ℤ) → IsInRuns (runs ++ run ∷ []) n
    ↔ (IsInRuns runs n ⊎ ((run.first ≤ℤ n) × (n ≤ℤ run.last)))
run_more [] run n = (there, back)
  where
    there : ((run.first ≤ℤ n) × (n ≤ℤ run.last)) ⊎ ⊥ → ⊥ ⊎ ((run.first ≤ℤ n) × (n ≤ℤ run.last))
    there (inl h) = inr h
    there (inr h) = inl h

    back : ⊥ ⊎ ((run.first ≤ℤ n) × (n ≤ℤ run.last)) → ((run.first ≤ℤ n) × (n ≤ℤ run.last)) ⊎ ⊥
    back (inl h) = inr h
    back (inr h) = inl h
run_more (first ∷ runs) run n = grown (run_more runs run n)
  where
    grown : IsInRuns (runs ++ run ∷ []) n ↔ (IsInRuns runs n ⊎ ((run.first ≤ℤ n) × (n ≤ℤ run.last)))
        → IsInRuns (first ∷ runs ++ run ∷ []) n ↔ (IsInRuns (first ∷ runs) n ⊎ ((run.first ≤ℤ n) × (n ≤ℤ run.last)))
    grown same = (
      (λ x. elim x [ inl a ↦ inl (inl a) | inr b ↦ elim (same.0 b) [ inl c ↦ inl (inr c) | inr d ↦ inr d ] ]),
      (λ x. elim x [ inl a ↦ elim a [ inl c ↦ inl c | inr d ↦ inr (same.1 (inl d)) ] | inr b ↦ inr (same.1 (inr b)) ]),
    )

-- what is put of runs after rows
abbrev pub ArePut : HolidayKind → List Run → List HolidayRow → List HolidayRow → Type 0
ArePut kind runs old new =
    (other : HolidayKind) (n : ℤ) → IsHoliday new other n ↔ (IsHoliday old other n ⊎ ((kind ≡ other) × IsInRuns runs n))

pub put_none : (kind : HolidayKind) (old : List HolidayRow) → ArePut kind [] old old
put_none kind old other n = (inl, back)
  where
    back : IsHoliday old other n ⊎ ((kind ≡ other) × ⊥) → IsHoliday old other n
    back (inl h) = h
    back (inr h) = absurd h.1

pub put_more : (kind : HolidayKind) (runs : List Run) (run : Run) (old now : List HolidayRow) (row : HolidayRow)
    → row.first ≡ run.first → row.last ≡ run.last → row.kind ≡ kind → row.covers ≡ false → ArePut kind runs old now
    → ArePut kind (runs ++ run ∷ []) old (now ++ row ∷ [])
put_more kind runs run old now row first last of covers put other n = (
  (λ h. there ((of_more other false n now row).0 h)),
  (λ h. (of_more other false n now row).1 (back h)),
)
  where
    there : IsHoliday now other n ⊎ IsOfRow other false n row
        → IsHoliday old other n ⊎ ((kind ≡ other) × IsInRuns (runs ++ run ∷ []) n)
    there (inl h) = elim ((put other n).0 h) [ inl a ↦ inl a | inr b ↦ inr (b.0, (run_more runs run n).1 (inl b.1)) ]
    there (inr h) = inr (
      subst (λ (k : HolidayKind). k ≡ other) of h.0,
      (run_more runs run n).1 (inr (subst (λ (a : ℤ). a ≤ℤ n) first h.2, subst (λ (a : ℤ). n ≤ℤ a) last h.3)),
    )

    here : (kind ≡ other) → IsInRuns runs n ⊎ ((run.first ≤ℤ n) × (n ≤ℤ run.last))
        → IsHoliday now other n ⊎ IsOfRow other false n row
    here same (inl a) = inl ((put other n).1 (inr (same, a)))
    here same (inr b) = inr (
      subst (λ (k : HolidayKind). k ≡ other) (sym of) same,
      covers,
      subst (λ (a : ℤ). a ≤ℤ n) (sym first) b.0,
      subst (λ (a : ℤ). n ≤ℤ a) (sym last) b.1,
    )

    back : IsHoliday old other n ⊎ ((kind ≡ other) × IsInRuns (runs ++ run ∷ []) n)
        → IsHoliday now other n ⊎ IsOfRow other false n row
    back (inl h) = inl ((put other n).1 (inl h))
    back (inr h) = here h.0 ((run_more runs run n).0 h.1)

-- the runs are those of the holidays of the kind
pub kind_put : (kind : HolidayKind) (rows old new : List HolidayRow) (days : Days) (runs : List Run)
    → ((n : ℤ) → IsIn days n ↔ IsHoliday rows kind n) → AreRuns days first_calendar_day runs → ArePut kind runs old new
    → (other : HolidayKind) (n : ℤ) → IsHoliday new other n ↔ (IsHoliday old other n ⊎ ((kind ≡ other) × IsHoliday rows kind n))
kind_put kind rows old new days runs of are put other n = (
  (λ h. elim ((put other n).0 h) [ inl a ↦ inl a | inr b ↦ inr (b.0, (of n).0 ((runs_days days runs n are).1 b.1)) ]),
  (λ x. elim x [ inl a ↦ (put other n).1 (inl a) | inr b ↦ (put other n).1 (inr (b.0, (runs_days days runs n are).0 ((of n).1 b.1))) ]),
)

-- both kinds, one after the other
pub both_put : (rows none public all : List HolidayRow) → none ≡ []
    → ((other : HolidayKind) (n : ℤ) → IsHoliday public other n
    ↔ (IsHoliday none other n ⊎ ((Public ≡ other) × IsHoliday rows Public n)))
    → ((other : HolidayKind) (n : ℤ) → IsHoliday all other n
    ↔ (IsHoliday public other n ⊎ ((School ≡ other) × IsHoliday rows School n)))
    → (kind : HolidayKind) (n : ℤ) → IsHoliday all kind n ↔ IsHoliday rows kind n
both_put rows none public all empty one two kind n = (
  (λ h. elim ((two kind n).0 h) [ inl a ↦ of_first ((one kind n).0 a) | inr b ↦ moved School b.0 b.1 ]),
  (λ h. back kind h),
)
  where
    moved : (k : HolidayKind) → k ≡ kind → IsHoliday rows k n → IsHoliday rows kind n
    moved k same h = subst (λ (other : HolidayKind). IsHoliday rows other n) same h

    of_first : IsHoliday none kind n ⊎ ((Public ≡ kind) × IsHoliday rows Public n) → IsHoliday rows kind n
    of_first (inl h) = absurd (subst (λ (l : List HolidayRow). IsHoliday l kind n) empty h)
    of_first (inr h) = moved Public h.0 h.1

    back : (k : HolidayKind) → IsHoliday rows k n → IsHoliday all k n
    back Public h = (two Public n).1 (inl ((one Public n).1 (inr (refl, h))))
    back School h = (two School n).1 (inr (refl, h))

-- ---- whether a day is a holiday can be decided

kind_decided : (a b : HolidayKind) → (a ≡ b) ⊎ (a ≡ b → ⊥)
kind_decided Public Public = inl refl
kind_decided Public School = inr (λ e. cc)
kind_decided School Public = inr (λ e. cc)
kind_decided School School = inl refl

covers_decided : (a b : Bool) → (a ≡ b) ⊎ (a ≡ b → ⊥)
covers_decided true true = inl refl
covers_decided true false = inr (λ e. cc)
covers_decided false true = inr (λ e. cc)
covers_decided false false = inl refl

row_decided : (kind : HolidayKind) (covers : Bool) (n : ℤ) (row : HolidayRow)
    → IsOfRow kind covers n row ⊎ (IsOfRow kind covers n row → ⊥)
row_decided kind covers n row = by_kind (kind_decided row.kind kind) (covers_decided row.covers covers)
  where
    by_kind : (row.kind ≡ kind) ⊎ (row.kind ≡ kind → ⊥) → (row.covers ≡ covers) ⊎ (row.covers ≡ covers → ⊥)
        → IsOfRow kind covers n row ⊎ (IsOfRow kind covers n row → ⊥)
    by_kind (inr other) c = inr (λ h. other h.0)
    by_kind (inl same) (inr other) = inr (λ h. other h.1)
    by_kind (inl same) (inl also) =
        by_lt_z n row.first (λ early. inr (λ h. let low = h.2 in omega (arith, signed_arith, early, low)))
        (λ low. by_lt_z row.last n (λ late. inr (λ h. let high = h.3 in omega (arith, signed_arith, late, high)))
        (λ high. inl (same, also, low, high)))

decided : (kind : HolidayKind) (covers : Bool) (n : ℤ) (rows : List HolidayRow)
    → IsOfRows kind covers n rows ⊎ (IsOfRows kind covers n rows → ⊥)
decided kind covers n [] = inr (λ h. h)
decided kind covers n (row ∷ rows) = by_row (row_decided kind covers n row) (decided kind covers n rows)
  where
    by_row : IsOfRow kind covers n row ⊎ (IsOfRow kind covers n row → ⊥)
        → IsOfRows kind covers n rows ⊎ (IsOfRows kind covers n rows → ⊥)
        → IsOfRows kind covers n (row ∷ rows) ⊎ (IsOfRows kind covers n (row ∷ rows) → ⊥)
    by_row (inl h) more = inl (inl h)
    by_row (inr no') (inl h) = inl (inr h)
    by_row (inr no') (inr none) = inr (λ x. elim x [ inl a ↦ no' a | inr b ↦ none b ])

not_none : (rows : List HolidayRow) (kind : HolidayKind) (n : ℤ) → ((IsHoliday rows kind n → ⊥) → ⊥) → IsHoliday rows kind n
not_none rows kind n h = elim (decided kind false n rows) [ inl a ↦ a | inr b ↦ absurd (h b) ]

pub same_if : (rows others : List HolidayRow) → ((kind : HolidayKind) (n : ℤ) → IsHoliday others kind n ↔ IsHoliday rows kind n)
    → AreSameHolidays rows others
same_if rows others same kind n = ((λ none h. none ((same kind n).0 h)), (λ none h. none ((same kind n).1 h)))

pub same_days : (rows others : List HolidayRow) → AreSameHolidays rows others → (kind : HolidayKind) (n : ℤ)
    → IsHoliday others kind n ↔ IsHoliday rows kind n
same_days rows others same kind n = (
  (λ h. not_none rows kind n (λ none. (same kind n).0 none h)),
  (λ h. not_none others kind n (λ none. (same kind n).1 none h)),
)
