use Rattle.std.proofs.Common.{◌≡◌, ◌++◌}
use Rattle.std.specs.Prelude.{pos}
use Rattle.gtd_picture.specs.Picture.{months_text, plot_end_text}
use Rattle.gtd_picture.proofs.head.write_foot.Given as goal

-- the months so far
abbrev pub invariant-loop-before : goal.invariant-loop-before
invariant-loop-before l = l.line.items ≡ plot_end_text ++ months_text (pos l.fn.year) l.before
