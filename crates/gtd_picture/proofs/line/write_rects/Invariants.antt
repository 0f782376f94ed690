use Rattle.std.proofs.Common.{◌≡◌, ◌++◌, ◌↔◌, length, map}
use Rattle.std.specs.Prelude.{ℤ, pos, ◌+ℤ◌, ◌≤ℤ◌, flat_map}
use Rattle.gtd_spans.specs.Normal.{Holds}
use Rattle.gtd_spans.specs.Counting.{day_at, part_within}
use Rattle.gtd_picture.specs.Picture.{rect_of, rect_text}
use Rattle.gtd_picture.proofs.line.write_rects.Given as goal

-- what was written, and the rectangles to come, make those of the day
abbrev pub invariant-loop-part : goal.invariant-loop-part
invariant-loop-part g l = record {
  text : l.fn.line.items ++ flat_map rect_text (map (rect_of l.place l.midnight) (part_within (day_at l.midnight) l.fn.seconds))
      ≡ l.line.items ++ flat_map rect_text (map (rect_of l.place l.midnight) (part_within (day_at l.midnight) l.seconds));
  later : (t : ℤ) → (l.midnight +ℤ pos 86400) ≤ℤ t → Holds l.fn.seconds t ↔ Holds l.seconds t;
}

abbrev pub decreases-loop-part : goal.decreases-loop-part
decreases-loop-part g l = length (part_within (day_at l.midnight) l.seconds)
