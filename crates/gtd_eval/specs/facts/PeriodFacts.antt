-- Expressions that repeat after a period.
use Rattle.std.proofs.Common.{◌↔◌, refl, arith}
use Rattle.std.specs.Prelude.{ℤ, pos, ◌+ℤ◌, ◌≤ℤ◌, ◌<ℤ◌, Option, Some, None, IfSome, MatchOption}
use Rattle.std.proofs.lemmas.Int.{ints}
use Rattle.gtd_core.specs.Trees.{Tree, Single, Joined}
use Rattle.gtd_recur.specs.Periods.{period_seconds, IsPeriod}
use Rattle.gtd_recur.specs.declared.period.Period.{Period}
use Rattle.gtd_recur.specs.declared.period.Period.TheVariants.{Minute, Hour, Day, Week}
use Rattle.gtd_recur.specs.facts.PeriodLemmas.{period-forward, period-back, repeats-longer}
use Rattle.gtd_spans.specs.facts.NormalFor.{combined-both}
use Rattle.gtd_eval.specs.Membership.{InTree}
use Rattle.gtd_eval.specs.Ever.{week}
use Rattle.gtd_eval.specs.Periods.{AllRepeat, RepeatsFrom}

-- a period has some seconds, and those of a week at most
pub some-period : (x : Period) → pos 0 <ℤ period_seconds x
some-period Minute = omega (arith, ints)
some-period Hour = omega (arith, ints)
some-period Day = omega (arith, ints)
some-period Week = omega (arith, ints)

pub short-period : (x : Period) → period_seconds x ≤ℤ week
short-period Minute = omega (arith, ints)
short-period Hour = omega (arith, ints)
short-period Day = omega (arith, ints)
short-period Week = omega (arith, ints)

pub tree-repeats-after : (w : ℤ) (e : Tree) (t : ℤ) → IsPeriod w → AllRepeat w e → InTree e t ↔ InTree e (t +ℤ w)
tree-repeats-after w (Single start duration) t is r = (
  period-forward w start duration t is r,
  period-back w start duration t is r,
)
tree-repeats-after w (Joined op left right) t is r =
    combined-both op _ _ _ _ (tree-repeats-after w left t is r.0) (tree-repeats-after w right t is r.1)

-- what repeats after a period repeats after a longer one
pub all-longer : (v w : ℤ) (e : Tree) → v ≤ℤ w → AllRepeat v e → AllRepeat w e
all-longer v w (Single start duration) le r = repeats-longer v w start duration le r
all-longer v w (Joined op left right) le r = (all-longer v w left le r.0, all-longer v w right le r.1)

-- what repeats from a period on does from a longer one on
pub from-longer : (x y : Period) (set : ℤ → Type 0) → period_seconds x ≤ℤ period_seconds y → RepeatsFrom x set → RepeatsFrom y set
from-longer x y set le r = λ z longer. r z (omega (arith, ints, le, longer))

pub tree-repeats-from : (x : Period) (e : Tree) → AllRepeat (period_seconds x) e → RepeatsFrom x (InTree e)
tree-repeats-from x e r = λ y le t.
    tree-repeats-after (period_seconds y) e t (y, refl) (all-longer (period_seconds x) (period_seconds y) e le r)

pub found-from : (o : Option Period) (P : Type 0) (e : Tree) → MatchOption o P (λ x. AllRepeat (period_seconds x) e)
    → IfSome o (λ x. RepeatsFrom x (InTree e))
found-from None P e h = tt
found-from (Some x) P e h = tree-repeats-from x e h
