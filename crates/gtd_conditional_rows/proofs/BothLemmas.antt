-- The rows of steps in both directions, and rows of other steps that do the same.
use Rattle.std.proofs.Common.{◌≡◌, ◌↔◌, ◌++◌, ℕ, ℤ, Bool, true, false, not, List, [], ◌∷◌, Option, refl, sym, ap, ◌∙◌, cond}
use Rattle.std.proofs.Common.{subst, map, if◌then◌else◌, ◌<◌, inl, inr}
use Rattle.std.proofs.lemmas.List.{append-nil}
use Rattle.std.specs.Prelude.{filter, IfOk, Result}
use Rattle.std.proofs.lemmas.Result.{IfOk-weaker}
use Rattle.gtd_core.specs.Limits.{most_basic_domains}
use Rattle.gtd_core.specs.declared.domain.Domain.{Domain}
use Rattle.gtd_rows.specs.declared.direction.Closed.{Closed}
use Rattle.gtd_rows.specs.declared.direction.Closed.TheVariants.{One, Both}
use Rattle.gtd_rows.specs.declared.direction.Direction.{Direction}
use Rattle.gtd_rows.specs.declared.direction.Direction.TheVariants.{Positive, Negative}
use Rattle.gtd_conditional_rows.specs.Groups.{with_both}
use Rattle.gtd_conditional_rows.specs.Rows.{AreGroups, AreOrdered, AreRows, Each, IsGroup, Some'}
use Rattle.gtd_conditional_rows.specs.Rows.{IsClosedByRow, is_among, is_listed, same_row}
use Rattle.gtd_conditional_rows.specs.Steps.{IsClosed}
use Rattle.gtd_conditional_rows.specs.Times.{NeedsTooMany, Times, leaves_in, times_of}
use Rattle.gtd_conditional_rows.specs.Types.{HasType, IsVehicle}
use Rattle.gtd_conditional_rows.specs.declared.row.Row.{Row}
use Rattle.gtd_conditional_rows.specs.declared.step.Step.{Step}
use Rattle.gtd_conditional_rows.specs.declared.types.Types.{Types}
use Rattle.gtd_conditional_rows.proofs.GroupLemmas.{each-map}
use Rattle.gtd_conditional_rows.proofs.RowLemmas.{or-first, or-second, rows-close}
use Rattle.gtd_conditional_rows.proofs.TypeLemmas.{same-row}

-- ---- steps that do the same

module _ (a b : List Step) (same : (t : ℕ) → IsVehicle t → times_of a t ≡ times_of b t) where
  group-same : (row : Row) → IsGroup a row → IsGroup b row
  group-same row g t v = ((λ has. sym (same t v) ∙ (g t v).0 has), (λ e. (g t v).1 (same t v ∙ e)))

  groups-same : (rows : List Row) → AreGroups a rows → AreGroups b rows
  groups-same rows g = record {
    each = each-map (IsGroup a) (IsGroup b) rows group-same g.each;
    all = λ t v ever. g.all t v (λ never. ever (sym (same t v) ∙ never));
    ordered = g.ordered;
  }

  pub many-same : NeedsTooMany a → NeedsTooMany b
  many-same many =
      (many.0, many.1, subst (λ (x : Times). most_basic_domains < leaves_in x) (same many.0 many.1) many.2)

pub rows-same : (a b c d : List Step) (rows : List Row) → ((t : ℕ) → IsVehicle t → times_of a t ≡ times_of b t)
    → ((t : ℕ) → IsVehicle t → times_of c t ≡ times_of d t) → AreRows a c rows → AreRows b d rows
rows-same a b c d rows ahead back are = record {
  forward = are.forward;
  backward = are.backward;
  forward_groups = groups-same a b ahead are.forward are.forward_groups;
  backward_groups = groups-same c d back are.backward are.backward_groups;
  forward_closed = are.forward_closed;
  backward_closed = are.backward_closed;
  are = are.are;
}

-- the answer for some steps, as one for others that do the same: of two directions, and of both together
pub answer-same : {V E : Type 0} (r : Result V E) (items : V → List Row) (a b c d : List Step)
    → ((t : ℕ) → IsVehicle t → times_of a t ≡ times_of b t) → ((t : ℕ) → IsVehicle t → times_of c t ≡ times_of d t)
    → IfOk r (λ rows. AreRows a c (items rows)) → IfOk r (λ rows. AreRows b d (items rows))
answer-same r items a b c d ahead back are =
    IfOk-weaker r _ _ (λ rows made. rows-same a b c d (items rows) ahead back made) are

-- ---- rows that close others

abbrev closed-as : Closed → Row → Row
closed-as closed row = record row { closed = closed }

abbrev closing : Closed → List Row → List Row
closing closed rows = map (closed-as closed) rows

each-closing : (steps : List Step) (closed : Closed) (rows : List Row) → Each (IsGroup steps) rows
    → Each (IsGroup steps) (closing closed rows)
each-closing steps closed [] each = tt
each-closing steps closed (row ∷ rows) each = (each.0, each-closing steps closed rows each.1)

some-closing : (t : ℕ) (closed : Closed) (rows : List Row) → Some' (λ row. HasType row.types t) rows
    → Some' (λ row. HasType row.types t) (closing closed rows)
some-closing t closed [] some = some
some-closing t closed (row ∷ rows) some = elim some [
  | inl has ↦ inl has
  | inr more ↦ inr (some-closing t closed rows more)
]

ordered-closing : (bound : ℕ) (closed : Closed) (rows : List Row) → AreOrdered bound rows → AreOrdered bound (closing closed rows)
ordered-closing bound closed [] ordered = tt
ordered-closing bound closed (row ∷ rows) ordered = (
  ordered.0,
  ordered.1,
  record { vehicle = ordered.2.vehicle; has = ordered.2.has; lowest = ordered.2.lowest },
  ordered-closing ordered.0 closed rows ordered.3,
)

groups-closing : (steps : List Step) (closed : Closed) (rows : List Row) → AreGroups steps rows
    → AreGroups steps (closing closed rows)
groups-closing steps closed rows g = record {
  each = each-closing steps closed rows g.each;
  all = λ t v ever. some-closing t closed rows (g.all t v ever);
  ordered = ordered-closing 0 closed rows g.ordered;
}

all-closing : (closed : Closed) (rows : List Row) → Each (λ row. row.closed ≡ closed) (closing closed rows)
all-closing closed [] = tt
all-closing closed (row ∷ rows) = (refl, all-closing closed rows)

-- Each of them is among them, whatever either closes.
own-row : (one other : Closed) (row : Row) → same_row (closed-as one row) (closed-as other row) ≡ true
own-row one other row = same-row (closed-as one row) (closed-as other row) refl refl

module _ (all : List Row) (one other : Closed) where
  abbrev AreAmong : List Row → Type 0
  AreAmong rows = (types : Types) (domain : Option Domain)
      → is_among types domain (closing other rows) ≡ true → is_among types domain (closing other all) ≡ true

  first-listed : (row : Row) (rows : List Row) → AreAmong (row ∷ rows)
      → is_listed (closed-as one row) (closing other all) ≡ true
  first-listed row rows among =
      among row.types row.domain
      (or-first (same_row (closed-as one row) (closed-as other row))
      (is_among row.types row.domain (closing other rows)) (own-row one other row))

  others-among : (row : Row) (rows : List Row) → AreAmong (row ∷ rows) → AreAmong rows
  others-among row rows among types domain e = among types domain (or-second _ _ e)

  marked : (closed : Bool → Closed) (rows : List Row) → AreAmong rows → one ≡ closed true
      → Each (λ row. row.closed ≡ closed (is_listed row (closing other all))) (closing one rows)
  marked closed [] among e = tt
  marked closed (row ∷ rows) among e = (
    e ∙ ap closed (sym (first-listed row rows among)),
    marked closed rows (others-among row rows among) e,
  )

  unlisted : (b : Bool) (row : Row) (rest : List Row) → b ≡ true → rest ≡ [] → cond (not b) (row ∷ rest) rest ≡ []
  unlisted true row rest e none = none
  unlisted false row rest e none = cc

  none-left : (rows : List Row) → AreAmong rows
      → filter (λ row. not (is_listed row (closing other all))) (closing one rows) ≡ []
  none-left [] among = refl
  none-left (row ∷ rows) among =
      unlisted (is_listed (closed-as one row) (closing other all)) (closed-as one row)
      (filter (λ row. not (is_listed row (closing other all))) (closing one rows))
      (first-listed row rows among) (none-left rows (others-among row rows among))

pub both-rows : (steps : List Step) (rows both : List Row) → AreGroups steps rows
    → both ≡ map with_both rows → AreRows steps steps both
both-rows steps rows both g made = record {
  forward = closing Both rows;
  backward = closing (One Negative) rows;
  forward_groups = groups-closing steps Both rows g;
  backward_groups = groups-closing steps (One Negative) rows g;
  forward_closed = marked rows Both (One Negative) (λ b. if b then Both else One Positive) rows (λ types domain e. e) refl;
  backward_closed = all-closing (One Negative) rows;
  are = made
      ∙ sym (ap (λ (l : List Row). closing Both rows ++ l) (none-left rows (One Negative) Both rows (λ types domain e. e))
      ∙ append-nil (closing Both rows));
}

-- no steps have no rows
pub no-steps : AreGroups [] []
no-steps = record { each = tt; all = λ t v ever. absurd (ever refl); ordered = tt }

-- rows of both directions close what the steps do
pub both-close : (steps : List Step) (rows : List Row) → AreRows steps steps rows → (direction : Direction) (t : ℕ) (s : ℤ)
    → IsVehicle t → IsClosedByRow rows direction t s ↔ IsClosed steps t s
both-close steps rows are Positive t s v = rows-close t s v steps steps rows are Positive
both-close steps rows are Negative t s v = rows-close t s v steps steps rows are Negative
