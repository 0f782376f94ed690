-- Each call writes one step of the indent and leaves a depth that is one less.
use Rattle.gtd_words.proofs.words.+push_indent.Given as goal

abbrev pub decreases-push_indent : goal.decreases-push_indent
decreases-push_indent l = l.depth
