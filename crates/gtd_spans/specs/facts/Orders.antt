-- Where lists begin.
use Rattle.std.proofs.Common.{List, [], ◌∷◌, inl, inr, arith}
use Rattle.std.specs.Prelude.{ℤ, ◌≤ℤ◌, ◌<ℤ◌}
use Rattle.std.proofs.lemmas.Int.{ints}
use Rattle.gtd_core.specs.Seconds.{Interval}
use Rattle.gtd_spans.specs.Normal.{Holds, AllBeginAfter, AllBeginFrom, IsNormal}

-- a normal list that holds no second up to b begins after b
pub after-from-holds : (b : ℤ) (xs : List Interval) → IsNormal xs → ((t : ℤ) → Holds xs t → b <ℤ t) → AllBeginAfter b xs
after-from-holds b [] n h = tt
after-from-holds b (x ∷ xs) n h =
    (h x.from (inl (omega (arith, ints), n.0)), after-from-holds b xs n.2 (λ t k. h t (inr k)))

pub from-after : (b u : ℤ) (xs : List Interval) → b ≤ℤ u → AllBeginAfter u xs → AllBeginFrom b xs
from-after b u [] le a = tt
from-after b u (x ∷ xs) le a = (omega (arith, ints, a.0), from-after b u xs le a.1)

pub from-weaken : (b c : ℤ) (xs : List Interval) → c ≤ℤ b → AllBeginFrom b xs → AllBeginFrom c xs
from-weaken b c [] le a = tt
from-weaken b c (x ∷ xs) le a = (omega (arith, ints, a.0), from-weaken b c xs le a.1)

pub from-holds : (b t : ℤ) (xs : List Interval) → AllBeginFrom b xs → Holds xs t → b ≤ℤ t
from-holds b t [] a h = absurd h
from-holds b t (x ∷ xs) a h = elim h [ inl w ↦ omega (arith, ints, a.0, w.0) | inr r ↦ from-holds b t xs a.1 r ]

-- a normal list begins from the first second of its first interval
pub normal-begins : (x : Interval) (xs : List Interval) → IsNormal (x ∷ xs) → AllBeginFrom x.from (x ∷ xs)
normal-begins x xs n = (omega (arith, ints), from-after x.from x.until xs (omega (arith, ints, n.0)) n.1)
