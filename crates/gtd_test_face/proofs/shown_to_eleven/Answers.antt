-- The law of all vehicle types, for one of them.
use Rattle.gtd_test_face.proofs.shown_to_eleven.Goals as goal

pub returns : goal.returns
returns c = record { same = λ found horizon lines. c.shown_lines.ensures.same found 11 horizon lines }
