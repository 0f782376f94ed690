-- Counts are those of what is built; steps, one after another.
use Rattle.std.proofs.Common.{◌≡◌, ◌↔◌, ◌+◌, ◌<◌, ℕ, Bool, true, false, List, [], ◌∷◌, Option, Some, None, cond, refl, ap, ◌∙◌}
use Rattle.std.proofs.Common.{arith, if◌then◌else◌, IsTrue, nat_lt}
use Rattle.std.proofs.lemmas.Bool.{ltb-true, lt-ltb}
use Rattle.gtd_core.specs.Trees.{leaf_count, tree_of}
use Rattle.gtd_core.specs.declared.domain.Expr.{Expr}
use Rattle.gtd_conditional_rows.specs.Times.{Times, Never, Always, Within, counted, leaves_in, said, size_after, size_by}
use Rattle.gtd_conditional_rows.specs.Times.{size_of, size_said}
use Rattle.gtd_conditional_rows.specs.Times.{times_after, times_by}
use Rattle.gtd_conditional_rows.specs.Types.{has_type}
use Rattle.gtd_conditional_rows.specs.declared.count.Size.{Size}
use Rattle.gtd_conditional_rows.specs.declared.count.Size.TheVariants as size
use Rattle.gtd_conditional_means.specs.declared.meaning.Access.{Access}
use Rattle.gtd_conditional_means.specs.declared.meaning.Access.TheVariants.{Open, Closed}
use Rattle.gtd_conditional_rows.specs.declared.step.Step.{Step}

sum : (a b : ℕ) → counted (a + b) ≡ counted (counted a + counted b)
sum a b = omega arith

one-more : (b : ℕ) → counted (1 + b) ≡ counted (1 + counted b)
one-more b = omega arith

size-said : (access : Access) (hours : Option Expr) (times : Times)
    → size_of (said access hours times) ≡ size_said access hours (size_of times)
size-said Closed None times = refl
size-said Closed (Some hours) Never = refl
size-said Closed (Some hours) Always = refl
size-said Closed (Some hours) (Within tree) = ap size.Within (sum (leaf_count tree) (leaf_count (tree_of hours)))
size-said Open None times = refl
size-said Open (Some hours) Never = refl
size-said Open (Some hours) Always = ap size.Within (one-more (leaf_count (tree_of hours)))
size-said Open (Some hours) (Within tree) = ap size.Within (sum (leaf_count tree) (leaf_count (tree_of hours)))

size-if : (has : Bool) (access : Access) (hours : Option Expr) (times : Times)
    → size_of (if has then said access hours times else times)
    ≡ (if has then size_said access hours (size_of times) else size_of times)
size-if true access hours times = size-said access hours times
size-if false access hours times = refl

pub size-after : (steps : List Step) (t : ℕ) (times : Times)
    → size_of (times_after steps t times) ≡ size_after steps t (size_of times)
size-after [] t times = refl
size-after (step ∷ later) t times =
    size-after later t (times_by step t times)
    ∙ ap (λ (n : Size). size_after later t n) (size-if (has_type step.types t) step.access step.hours times)

-- what the count says
pub never-few : (times : Times) → size_of times ≡ size.Never → 128 < leaves_in times → ⊥
never-few Never e lt = omega (arith, lt)
never-few Always e lt = cc
never-few (Within tree) e lt = cc

pub always-few : (times : Times) → size_of times ≡ size.Always → 128 < leaves_in times → ⊥
always-few Never e lt = cc
always-few Always e lt = omega (arith, lt)
always-few (Within tree) e lt = cc

pub within-many : (times : Times) (n : ℕ) → size_of times ≡ size.Within n → (128 < n) ↔ (128 < leaves_in times)
within-many Never n e = (λ lt. cc, λ lt. cc)
within-many Always n e = (λ lt. cc, λ lt. cc)
within-many (Within tree) n e =
    let same : counted (leaf_count tree) ≡ n = cc in (λ lt. omega (arith, same, lt), λ lt. omega (arith, same, lt))

-- one step more
pub one-size : (u n : Size) (t : ℕ) (all : Size) (step : Step) (later rest : List Step) → rest ≡ step ∷ later
    → u ≡ size_by step t n → size_after rest t n ≡ all → size_after later t u ≡ all
one-size u n t all step later rest same one whole = rw one (rw same at whole)

pub one-time : (u times : Times) (t : ℕ) (all : Times) (step : Step) (later rest : List Step) → rest ≡ step ∷ later
    → u ≡ times_by step t times → times_after rest t times ≡ all → times_after later t u ≡ all
one-time u times t all step later rest same one whole = rw one (rw same at whole)

-- A step that applies at all seconds makes what was before it the same.
said-whole : (has : Bool) (access : Access) (a b : Times) → has ≡ true
    → cond has (said access None a) a ≡ cond has (said access None b) b
said-whole true Open a b e = refl
said-whole true Closed a b e = refl
said-whole false access a b e = cc

pub whole-step : (step : Step) (t : ℕ) (a b : Times) → step.hours ≡ None → has_type step.types t ≡ true
    → times_by step t a ≡ times_by step t b
whole-step step t a b none has = rw none (said-whole (has_type step.types t) step.access a b has)

pub within-test : (times : Times) (n k : ℕ) → k ≡ 128 → size_of times ≡ size.Within n
    → IsTrue (nat_lt k n) ↔ (128 < leaves_in times)
within-test times n k most e =
    let many = within-many times n e in (
      (λ x. many.0 (let lt : k < n = ltb-true k n x in omega (arith, lt, most))),
      (λ y. let lt : k < n = (let large = many.1 y in omega (arith, large, most)) in lt-ltb k n lt),
    )

pub one-later : (step : Step) (later rest : List Step) (t : ℕ) (times all : Times) → rest ≡ step ∷ later
    → times_after rest t times ≡ all → times_after later t (times_by step t times) ≡ all
one-later step later rest t times all same whole = rw same at whole
