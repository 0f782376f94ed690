-- Walks along the seconds at which an element is open.
use Rattle.std.specs.Prelude.{◌↔◌, ◌≤ℤ◌, ◌<ℤ◌, ℤ, List, [], ◌∷◌, Option, Some, None}
use Rattle.gtd_core.specs.Seconds.{Interval}
use Rattle.gtd_eval.specs.Cursors.{cursor_list}
use Rattle.gtd_records.specs.Closing.{Restriction}
use Rattle.gtd_spans.specs.Normal.{Holds, IsNormal}
use Rattle.gtd_ask.specs.Known.{IsGroupOpen}
use Rattle.gtd_ask.specs.declared.walk.Walk.{Walk}

-- the span that was taken last, and those that are still to come; none, if there was no more
abbrev pub with_taken : Option Interval → List Interval → List Interval
with_taken None rest = []
with_taken (Some x) rest = x ∷ rest

module _ (found : List Restriction) where
  -- From where the walk is, and before its end, the spans that it has not passed hold the seconds at which its group is open.
  pub record IsWalk (w : Walk) : Type 0 where
    pub normal : IsNormal (with_taken w.span (cursor_list w.cursor))
    pub same : (t : ℤ) → w.at.0 ≤ℤ t → t <ℤ w.end.0
        → Holds (with_taken w.span (cursor_list w.cursor)) t ↔ IsGroupOpen found w.group t
