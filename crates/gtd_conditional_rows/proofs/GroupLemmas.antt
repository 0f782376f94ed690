-- Rows of groups, put one after another.
use Rattle.std.proofs.Common.{◌≡◌, ◌<◌, ◌≤◌, ◌+◌, ◌++◌, ℕ, List, [], ◌∷◌, Some, sym, ◌∙◌}
use Rattle.std.proofs.Common.{arith, inl, inr}
use Rattle.std.proofs.lemmas.Bool.{cases_lt, cases_eq}
use Rattle.gtd_rows.specs.declared.direction.Direction.{Direction}
use Rattle.gtd_conditional_rows.specs.Groups.{GroupedTo, IsGroupOf, IsMarked}
use Rattle.gtd_conditional_rows.specs.Rows.{AreOrdered, Each, IsGroup, IsLowest, Some'}
use Rattle.gtd_conditional_rows.specs.Times.{Never, times_of}
use Rattle.gtd_conditional_rows.specs.Timing.{domain_times}
use Rattle.gtd_conditional_rows.specs.Types.{HasType, IsVehicle}
use Rattle.gtd_conditional_rows.specs.declared.row.Row.{Row}
use Rattle.gtd_conditional_rows.specs.declared.step.Step.{Step}
use Rattle.gtd_conditional_rows.proofs.TypeLemmas.{never-domain}

-- what holds of each row, and of some
pub each-push : (P : Row → Type 0) (rows : List Row) (row : Row) → Each P rows → P row → Each P (rows ++ row ∷ [])
each-push P [] row each this = (this, tt)
each-push P (r ∷ rows) row each this = (each.0, each-push P rows row each.1 this)

pub each-map : (P Q : Row → Type 0) (rows : List Row) → ((row : Row) → P row → Q row) → Each P rows → Each Q rows
each-map P Q [] f each = tt
each-map P Q (r ∷ rows) f each = (f r each.0, each-map P Q rows f each.1)

pub some-before : (P : Row → Type 0) (rows : List Row) (row : Row) → Some' P rows → Some' P (rows ++ row ∷ [])
some-before P [] row some = absurd some
some-before P (r ∷ rows) row some = elim some [ inl h ↦ inl h | inr more ↦ inr (some-before P rows row more) ]

pub some-last : (P : Row → Type 0) (rows : List Row) (row : Row) → P row → Some' P (rows ++ row ∷ [])
some-last P [] row this = inl this
some-last P (r ∷ rows) row this = inr (some-last P rows row this)

-- a row with a type has all types of the same times
pub some-alike : (steps : List Step) (rows : List Row) (u v : ℕ) → IsVehicle u → IsVehicle v
    → times_of steps u ≡ times_of steps v → Each (IsGroup steps) rows
    → Some' (λ row. HasType row.types u) rows → Some' (λ row. HasType row.types v) rows
some-alike steps [] u v is also same each some = some
some-alike steps (r ∷ rows) u v is also same each some = elim some [
  | inl has ↦ inl ((each.0 v also).1 (sym same ∙ (each.0 u is).0 has))
  | inr more ↦ inr (some-alike steps rows u v is also same each.1 more)
]

-- the lowest type of a row is at most each of its types
lowest-below : (row : Row) (t n : ℕ) → IsLowest row t → ((u : ℕ) × IsVehicle u × (u < n) × HasType row.types u) → t < n
lowest-below row t n is some = elim (cases_lt some.0 t) [
  | inl lt ↦ absurd (is.lowest some.0 some.1 lt some.3)
  | inr le ↦ (let below : some.0 < n = some.2 in omega (arith, le, below))
]

ordered-push : (bound n : ℕ) (rows : List Row) (row : Row) → AreOrdered bound rows
    → Each (λ r. (t : ℕ) × IsVehicle t × (t < n) × HasType r.types t) rows → IsLowest row n → bound < n
    → AreOrdered bound (rows ++ row ∷ [])
ordered-push bound n [] row ordered low is lt = (n, lt, is, tt)
ordered-push bound n (r ∷ rows) row ordered low is lt = (
  ordered.0,
  ordered.1,
  ordered.2,
  ordered-push ordered.0 n rows row ordered.3 low.1 is (lowest-below r ordered.0 n ordered.2 low.0),
)

module _ (steps : List Step) (direction : Direction) (others : List Row) where
  later : (n : ℕ) (rows : List Row) → Each (λ r. (t : ℕ) × IsVehicle t × (t < n) × HasType r.types t) rows
      → Each (λ r. (t : ℕ) × IsVehicle t × (t < n + 1) × HasType r.types t) rows
  later n rows low =
      each-map (λ r. (t : ℕ) × IsVehicle t × (t < n) × HasType r.types t)
      (λ r. (t : ℕ) × IsVehicle t × (t < n + 1) × HasType r.types t) rows
      (λ row x. (let lt : x.0 < n = x.2 in let more : x.0 < n + 1 = omega (arith, lt) in (x.0, x.1, more, x.3))) low

  -- a vehicle type that is never closed, or that some row has already
  pub stays : (n : ℕ) (rows : List Row) → GroupedTo steps direction others n rows
      → ((times_of steps n ≡ Never → ⊥) → Some' (λ row. HasType row.types n) rows)
      → GroupedTo steps direction others (n + 1) rows
  stays n rows g here = record {
    each = g.each;
    marked = g.marked;
    all = λ t is lt ever. elim (cases_eq t n) [
      | inl e ↦ rw e (here (rw e at ever))
      | inr ne ↦ g.all t is (below t n lt ne) ever
    ];
    low = later n rows g.low;
    ordered = g.ordered;
  }
    where
      below : (t n : ℕ) → t < n + 1 → (t ≡ n → ⊥) → t < n
      below t n lt ne = omega (arith, lt, ne)

  -- and one of whose times there is no row
  pub grows : (n : ℕ) (rows : List Row) (row : Row) → IsVehicle n → GroupedTo steps direction others n rows
      → (Some' (λ r. HasType r.types n) rows → ⊥) → IsGroupOf steps direction others n (Some row)
      → GroupedTo steps direction others (n + 1) (rows ++ row ∷ [])
  grows n rows row vehicle g new group = record {
    each = each-push (IsGroup steps) rows row g.each group.0;
    marked = each-push (IsMarked direction others) rows row g.marked group.2;
    all = λ t is lt ever. elim (cases_eq t n) [
      | inl e ↦ rw e (some-last (λ r. HasType r.types n) rows row has)
      | inr ne ↦ some-before (λ r. HasType r.types t) rows row (g.all t is (below t n lt ne) ever)
    ];
    low = each-push (λ r. (t : ℕ) × IsVehicle t × (t < n + 1) × HasType r.types t) rows row (later n rows g.low)
        (n, vehicle, own n, has);
    ordered = ordered-push 0 n rows row g.ordered g.low lowest (first n vehicle.0);
  }
    where
      has : HasType row.types n
      has = (group.0 n vehicle).1 group.1

      below : (t n : ℕ) → t < n + 1 → (t ≡ n → ⊥) → t < n
      below t n lt ne = omega (arith, lt, ne)

      own : (n : ℕ) → n < n + 1
      own n = omega arith

      first : (n : ℕ) → 1 ≤ n → 0 < n
      first n le = omega (arith, le)

      lowest : IsLowest row n
      lowest = record {
        vehicle = vehicle;
        has = has;
        lowest = λ u is lt hasu.
            let same : times_of steps u ≡ domain_times row.domain = (group.0 u is).0 hasu in
            new (some-alike steps rows u n is vehicle (same ∙ sym group.1) g.each
            (g.all u is lt (λ never. never-domain row.domain (sym never ∙ same))));
      }

pub no-groups : (steps : List Step) (direction : Direction) (others rows : List Row) → rows ≡ []
    → GroupedTo steps direction others 1 rows
no-groups steps direction others rows e = rw e (record {
  each = tt;
  marked = tt;
  all = λ t is lt ever. absurd (none t is.0 lt);
  low = tt;
  ordered = tt;
})
  where
    none : (t : ℕ) → 1 ≤ t → t < 1 → ⊥
    none t le lt = omega (arith, le, lt)
