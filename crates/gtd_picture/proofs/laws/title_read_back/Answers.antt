-- The element `title` of the first line holds the escaped title, which XML reads as people see it.
use Rattle.gtd_picture.proofs.TitleFacts.{titled}
use Rattle.gtd_picture.proofs.laws.title_read_back.Goals as goal

pub returns : goal.returns
returns g c = record { title = titled g.S.SecondSet.contains }
