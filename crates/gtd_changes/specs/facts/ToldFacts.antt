-- Spans and changes whose moments have texts, and whose first seconds a file can be asked about.
use Rattle.std.proofs.Common.{arith, inl, inr, List, [], ◌∷◌, map, Bool, true, false}
use Rattle.std.specs.Prelude.{ℤ, int_lt, if◌then◌else◌}
use Rattle.std.proofs.lemmas.Int.{ints}
use Rattle.gtd_calendar.specs.Calendar.{IsCalendarDay}
use Rattle.gtd_core.specs.Seconds.{Interval, IsHorizonSecond, day_of_second}
use Rattle.gtd_core.specs.declared.horizon.Horizon.{Horizon}
use Rattle.gtd_eval.specs.Membership.{IsNormalOver}
use Rattle.gtd_schedule.specs.Lines.{AreShown}
use Rattle.gtd_schedule.specs.facts.SpansShown.{normal_shown}
use Rattle.gtd_spans.specs.Normal.{AreInOrder, Holds}
use Rattle.gtd_changes.specs.Changes.{span_of}
use Rattle.gtd_changes.specs.Merging.{at_place, by_from}
use Rattle.gtd_changes.specs.declared.change.Change.{Change}
use Rattle.gtd_changes.specs.declared.change.Change.TheVariants.{Opened, Closed}

abbrev pub IsTold : Interval → Type 0
IsTold span = IsCalendarDay (day_of_second span.from) × IsCalendarDay (day_of_second span.until) × IsHorizonSecond span.from

abbrev pub AreTold : List Interval → Type 0
AreTold [] = Unit {0}
AreTold (span ∷ spans) = IsTold span × AreTold spans

abbrev pub AllTold : List Change → Type 0
AllTold [] = Unit {0}
AllTold (c ∷ changes) = IsTold (span_of c) × AllTold changes

-- ---- two lists of such spans, in one

told_closed : (closed : List Interval) → AreTold closed → AllTold (map Closed closed)
told_closed [] s = tt
told_closed (y ∷ closed) s = (s.0, told_closed closed s.1)

told_one : (x y : Interval) (rest all : List Change) (test : Bool) → AllTold (Opened x ∷ all) → AllTold (Closed y ∷ rest)
    → AllTold (if test then Closed y ∷ rest else Opened x ∷ all)
told_one x y rest all true a b = b
told_one x y rest all false a b = a

told_place : (x : Interval) (opened closed : List Interval)
    → ((ys : List Interval) → AreTold ys → AllTold (by_from opened ys)) → IsTold x → AreTold closed
    → AllTold (at_place x (by_from opened) closed)
told_place x opened [] more s c = (s, more [] tt)
told_place x opened (y ∷ closed) more s c =
    told_one x y (at_place x (by_from opened) closed) (by_from opened (y ∷ closed)) (int_lt y.from x.from)
    (s, more (y ∷ closed) c) (c.0, told_place x opened closed more s c.1)

pub told_both : (opened closed : List Interval) → AreTold opened → AreTold closed → AllTold (by_from opened closed)
told_both [] closed o c = told_closed closed c
told_both (x ∷ opened) closed o c = told_place x opened closed (λ ys s. told_both opened ys o.1 s) o.0 c

-- ---- the spans of a horizon are such

told_each : (horizon : Horizon) (spans : List Interval) → AreShown spans → AreInOrder spans
    → ((t : ℤ) → Holds spans t → IsHorizonSecond t) → AreTold spans
told_each horizon [] shown order inside = tt
told_each horizon (x ∷ xs) shown order inside = (
  (shown.0, shown.1, inside x.from (inl (omega (arith, ints), order.0))),
  told_each horizon xs shown.2 order.2 (λ t h. inside t (inr h)),
)

pub normal_told : (set : ℤ → Type 0) (horizon : Horizon) (spans : List Interval) → IsNormalOver set horizon spans → AreTold spans
normal_told set horizon spans normal =
    told_each horizon spans (normal_shown set horizon spans normal) normal.order
    (λ t h. let i = normal.inside t h in
    (omega (arith, ints, i.0, horizon.not_early), omega (arith, ints, i.1, horizon.not_late)))
