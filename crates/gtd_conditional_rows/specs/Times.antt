-- At the seconds of which expression steps close an element for a vehicle type, and how many basic domains it has.
use Rattle.std.specs.Prelude.{⊤, ℕ, ◌+◌, ◌<◌, min, ℤ, List, [], ◌∷◌, Option, Some, None, if◌then◌else◌}
use Rattle.gtd_core.specs.Limits.{most_basic_domains}
use Rattle.gtd_core.specs.Ranges.{no_parts}
use Rattle.gtd_core.specs.Trees.{Tree, Single, Joined, leaf_count, tree_of}
use Rattle.gtd_core.specs.declared.domain.Expr.{Expr}
use Rattle.gtd_core.specs.declared.domain.Op.TheVariants.{Union, Minus}
use Rattle.gtd_eval.specs.Membership.{InTree}
use Rattle.gtd_conditional_rows.specs.Types.{IsVehicle, has_type}
use Rattle.gtd_conditional_rows.specs.declared.count.Size.{Size}
use Rattle.gtd_conditional_rows.specs.declared.count.Size.TheVariants as size
use Rattle.gtd_conditional_means.specs.declared.meaning.Access.{Access}
use Rattle.gtd_conditional_means.specs.declared.meaning.Access.TheVariants.{Open, Closed}
use Rattle.gtd_conditional_rows.specs.declared.step.Step.{Step}

-- never, always, or at the seconds of an expression
pub data Times : Type 0 where
  Never : Times
  Always : Times
  Within : (tree : Tree) → Times

abbrev pub InTimes : Times → ℤ → Type 0
InTimes Never s = ⊥
InTimes Always s = ⊤
InTimes (Within tree) s = InTree tree s

-- the whole of each day: `[(h0m0){d1}]`
abbrev pub every_day : Tree
every_day = Single (record no_parts { hour = Some 0; minute = Some 0 })
    (record { years = 0; months = 0; weeks = 0; days = 1; hours = 0; minutes = 0; seconds = 0 })

-- what hours add that close, or take away that open
abbrev pub said : Access → Option Expr → Times → Times
said Closed None times = Always
said Closed (Some hours) Never = Within (tree_of hours)
said Closed (Some hours) Always = Always
said Closed (Some hours) (Within tree) = Within (Joined Union tree (tree_of hours))
said Open None times = Never
said Open (Some hours) Never = Never
said Open (Some hours) Always = Within (Joined Minus every_day (tree_of hours))
said Open (Some hours) (Within tree) = Within (Joined Minus tree (tree_of hours))

-- when a vehicle type is closed after a step
abbrev pub times_by : Step → ℕ → Times → Times
times_by step t times = if has_type step.types t then said step.access step.hours times else times

-- and after some steps
abbrev pub times_after : List Step → ℕ → Times → Times
times_after [] t times = times
times_after (step ∷ later) t times = times_after later t (times_by step t times)

abbrev pub times_of : List Step → ℕ → Times
times_of steps t = times_after steps t Never

-- how many basic domains that has
abbrev pub leaves_in : Times → ℕ
leaves_in Never = 0
leaves_in Always = 0
leaves_in (Within tree) = leaf_count tree

-- some vehicle type needs more than a domain may have
abbrev pub NeedsTooMany : List Step → Type 0
NeedsTooMany steps = (t : ℕ) × IsVehicle t × (most_basic_domains < leaves_in (times_of steps t))

-- a count as it is computed: one that is greater than this stays at it
abbrev pub counted : ℕ → ℕ
counted n = min n 4_294_967_295

-- the same, counted
abbrev pub size_of : Times → Size
size_of Never = size.Never
size_of Always = size.Always
size_of (Within tree) = size.Within (counted (leaf_count tree))

abbrev pub size_said : Access → Option Expr → Size → Size
size_said Closed None n = size.Always
size_said Closed (Some hours) size.Never = size.Within (counted (leaf_count (tree_of hours)))
size_said Closed (Some hours) size.Always = size.Always
size_said Closed (Some hours) (size.Within n) = size.Within (counted (n + counted (leaf_count (tree_of hours))))
size_said Open None n = size.Never
size_said Open (Some hours) size.Never = size.Never
size_said Open (Some hours) size.Always = size.Within (counted (1 + counted (leaf_count (tree_of hours))))
size_said Open (Some hours) (size.Within n) = size.Within (counted (n + counted (leaf_count (tree_of hours))))

abbrev pub size_by : Step → ℕ → Size → Size
size_by step t n = if has_type step.types t then size_said step.access step.hours n else n

abbrev pub size_after : List Step → ℕ → Size → Size
size_after [] t n = n
size_after (step ∷ later) t n = size_after later t (size_by step t n)
