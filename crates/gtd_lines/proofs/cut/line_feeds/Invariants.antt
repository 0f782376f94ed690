use Rattle.std.proofs.Common.{◌≡◌, ◌≤◌, take}
use Rattle.std.specs.List.{count_by}
use Rattle.gtd_lines.specs.Lines.{is_line_feed}
use Rattle.gtd_lines.proofs.cut.line_feeds.Given as goal

-- the line feeds so far
abbrev pub invariant-loop-byte : goal.invariant-loop-byte
invariant-loop-byte l =
    (l.count ≤ l.byte-index) × (l.count ≡ count_by is_line_feed (take l.byte-index l.bytes))
