-- Seconds that are in one of two sets alone, and how the seconds of two domains compare.
use Rattle.std.specs.Prelude.{ℤ, pos, ◌*ℤ◌, ◌<ℤ◌, ◌≤ℤ◌, ◌↔◌, ◌⊎◌, ◌≡◌, int_lt, if◌then◌else◌, Option, Some, None}
use Rattle.std.specs.Prelude.{List, [], ◌∷◌}
use Rattle.gtd_core.specs.Limits.{day_seconds, first_horizon_day, horizons_end}
use Rattle.gtd_core.specs.Parts.{domain_tree}
use Rattle.gtd_core.specs.Seconds.{Interval, IsMomentSecond, Within}
use Rattle.gtd_core.specs.Trees.{Tree, Single}
use Rattle.gtd_core.specs.declared.domain.Basic.{Basic}
use Rattle.gtd_core.specs.declared.domain.Domain.{Domain}
use Rattle.gtd_core.specs.declared.second.Sec.{Sec}
use Rattle.gtd_eval.specs.Membership.{InDomain, InTree, SomeGivesYear}
use Rattle.gtd_spans.specs.Normal.{IsNormalFor}
use Rattle.gtd_difference.specs.declared.comparison.Apart.{Apart}
use Rattle.gtd_difference.specs.declared.comparison.Comparison.{Comparison}
use Rattle.gtd_difference.specs.declared.comparison.Comparison.TheVariants.{Same, SameUntil2700, Apart as Differ}
use Rattle.gtd_difference.specs.declared.comparison.Side.{Side}
use Rattle.gtd_difference.specs.declared.comparison.Side.TheVariants.{First, Second}

-- 1901-01-01T00:00:00
abbrev pub first_begin : ℤ
first_begin = first_horizon_day *ℤ pos day_seconds

-- 2700-01-01T00:00:00
abbrev pub last_end : ℤ
last_end = horizons_end *ℤ pos day_seconds

-- each second of all time is in both sets or in neither
abbrev pub Agree : (ℤ → Type 0) → (ℤ → Type 0) → Type 0
Agree P Q = (t : ℤ) → P t ↔ Q t

-- each second from `from` on and before `until` is in both sets or in neither
abbrev pub AgreeFrom : (ℤ → Type 0) → (ℤ → Type 0) → ℤ → ℤ → Type 0
AgreeFrom P Q from until = (t : ℤ) → from ≤ℤ t → t <ℤ until → P t ↔ Q t

-- each second of P is in Q, too
abbrev pub IsWithin : (ℤ → Type 0) → (ℤ → Type 0) → Type 0
IsWithin P Q = (t : ℤ) → P t → Q t

-- the second is in that one of the two sets alone
abbrev pub IsAlone : Side → (ℤ → Type 0) → (ℤ → Type 0) → ℤ → Type 0
IsAlone First P Q t = P t × (Q t → ⊥)
IsAlone Second P Q t = Q t × (P t → ⊥)

-- The second is the first from `from` on that is in one of two sets alone, is in that one, and is before `until`.
pub record IsApart (P Q : ℤ → Type 0) (from until : ℤ) (apart : Apart) : Type 0 where
  pub later : from ≤ℤ apart.second.0
  pub within : apart.second.0 <ℤ until
  pub alone : IsAlone apart.side P Q apart.second.0
  pub least : AgreeFrom P Q from apart.second.0

-- some start of the one or of the other domain gives a year
abbrev pub EitherGivesYear : Domain → Domain → Type 0
EitherGivesYear first second = SomeGivesYear (domain_tree first) ⊎ SomeGivesYear (domain_tree second)

-- How two domains compare from a second on: no start gives a year, and all seconds ever agree; some start does, and those up to
-- 2700-01-01 do; or it is told which second is the first that does not, which is before 2700-01-01.
abbrev pub IsComparison : Domain → Domain → ℤ → Comparison → Type 0
IsComparison first second from Same = (EitherGivesYear first second → ⊥) × Agree (InDomain first) (InDomain second)
IsComparison first second from SameUntil2700 =
    EitherGivesYear first second × AgreeFrom (InDomain first) (InDomain second) from last_end
IsComparison first second from (Differ apart) = IsApart (InDomain first) (InDomain second) from last_end apart

-- ---- one set without the other, which the search goes through

-- no second from `from` on is in the set
abbrev pub HoldsNone : (ℤ → Type 0) → ℤ → Type 0
HoldsNone set from = (t : ℤ) → from ≤ℤ t → set t → ⊥

-- s is the first second from `from` on that is in the set
pub record IsFirstHeld (set : ℤ → Type 0) (from s : ℤ) : Type 0 where
  pub later : from ≤ℤ s
  pub held : set s
  pub least : (t : ℤ) → from ≤ℤ t → t <ℤ s → set t → ⊥

-- each second of P from `from` on and before `until` is in Q, too
abbrev pub HasNoneAlone : (ℤ → Type 0) → (ℤ → Type 0) → ℤ → ℤ → Type 0
HasNoneAlone P Q from until = (t : ℤ) → from ≤ℤ t → t <ℤ until → P t → Q t

-- 2016-01-01T00:00:00 and 2044-01-01T00:00:00
abbrev pub seen_begin : ℤ
seen_begin = pos 1_451_606_400

abbrev pub seen_end : ℤ
seen_end = pos 2_335_219_200

-- the first interval of a list, if there is one
abbrev pub first_of : List Interval → Option Interval
first_of [] = None
first_of (x ∷ xs) = Some x

-- the first of the intervals between the two that make up a set there, each as long as it can be
abbrev pub IsFirstSpan : (ℤ → Type 0) → Option Interval → Type 0
IsFirstSpan set found = (xs : List Interval) × IsNormalFor set seen_begin seen_end xs × (found ≡ first_of xs)

-- The interval begins at a moment, ends before 2700-01-01 or there, and each of its seconds is in the set.
pub record IsHeldSpan (set : ℤ → Type 0) (span : Interval) : Type 0 where
  pub moment : IsMomentSecond span.from
  pub ended : span.until ≤ℤ last_end
  pub held : (t : ℤ) → Within span t → set t

-- the expression of a basic domain alone
abbrev pub single_of : Basic → Tree
single_of basic = Single basic.start.parts basic.duration.parts

-- each second of an expression from 1901-01-01 on and before 2700-01-01 is in another, too
abbrev pub IsPart : Tree → Tree → Type 0
IsPart expr other = HasNoneAlone (InTree expr) (InTree other) first_begin last_end

-- s is the first second from `from` on that is in P and not in Q, and is before `until`
pub record IsFirstAlone (P Q : ℤ → Type 0) (from until s : ℤ) : Type 0 where
  pub later : from ≤ℤ s
  pub within : s <ℤ until
  pub alone : P s × (Q s → ⊥)
  pub least : HasNoneAlone P Q from s

-- the earlier of two seconds, of which one is of each side
abbrev pub earlier_of : Sec → Sec → Apart
earlier_of first second =
    if int_lt second.0 first.0 then record { second = second; side = Second } else record { second = first; side = First }

abbrev pub earlier : Option Sec → Option Sec → Option Apart
earlier None None = None
earlier None (Some t) = Some (record { second = t; side = Second })
earlier (Some s) None = Some (record { second = s; side = First })
earlier (Some s) (Some t) = Some (earlier_of s t)
