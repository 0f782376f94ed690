-- Two lists of intervals in one list of changes, as the code makes it. It is that of the lists' intervals by their first seconds:
-- `specs/facts/MergeFacts.antt`.
use Rattle.std.specs.Prelude.{◌≡◌, List, [], ◌∷◌, Option, Some, None, int_lt, if◌then◌else◌, map}
use Rattle.gtd_core.specs.Seconds.{Interval}
use Rattle.gtd_changes.specs.declared.change.Change.{Change}
use Rattle.gtd_changes.specs.declared.change.Change.TheVariants.{Opened, Closed}

-- The closed intervals that begin before an opened one, that one, and the others.
abbrev pub at_place : Interval → (List Interval → List Change) → List Interval → List Change
at_place x others [] = Opened x ∷ others []
at_place x others (y ∷ closed) =
    if int_lt y.from x.from then Closed y ∷ at_place x others closed else Opened x ∷ others (y ∷ closed)

abbrev pub by_from : List Interval → List Interval → List Change
by_from [] closed = map Closed closed
by_from (x ∷ opened) closed = at_place x (by_from opened) closed

-- What is left of a source of which the next span was taken, if there was one.
abbrev pub with_ahead : Option Interval → List Interval → List Interval
with_ahead None spans = []
with_ahead (Some span) spans = span ∷ spans

-- The first change is taken off the list, or there is none.
abbrev pub TakesChange : List Change → Option Change → List Change → Type 0
TakesChange all None rest = (all ≡ []) × (rest ≡ [])
TakesChange all (Some change) rest = all ≡ change ∷ rest
