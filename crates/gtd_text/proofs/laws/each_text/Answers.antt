-- A text either can be read or has a first fault; the two cases are told apart by computing.
use Rattle.gtd_text.proofs.EachText.{each_text}
use Rattle.gtd_text.proofs.laws.each_text.Goals as goal

pub returns : goal.returns
returns c = record { some = each_text }
