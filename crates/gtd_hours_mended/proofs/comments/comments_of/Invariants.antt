-- The comments so far, and those of the parts left, are those of the text.
use Rattle.std.proofs.Common.{◌≡◌, length}
use Rattle.gtd_hours_mended.specs.Comments.{all_comments, comments_of}
use Rattle.gtd_hours_mended.proofs.comments.comments_of.Given as goal

abbrev pub invariant-loop-part : goal.invariant-loop-part
invariant-loop-part l = all_comments l.comments l.rest ≡ comments_of l.parts

abbrev pub decreases-loop-part : goal.decreases-loop-part
decreases-loop-part l = length l.rest
