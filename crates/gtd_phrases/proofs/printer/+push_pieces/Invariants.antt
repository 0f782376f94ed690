-- Each call writes one piece and leaves one fewer to write.
use Rattle.std.proofs.Common.{length}
use Rattle.gtd_phrases.proofs.printer.+push_pieces.Given as goal

abbrev pub decreases-push_pieces : goal.decreases-push_pieces
decreases-push_pieces l = length l.pieces.now
