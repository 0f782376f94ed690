-- What a question is about.
use Rattle.gtd_ask.specs.declared.asked.Group.{Group}
use Rattle.gtd_ask.specs.declared.question.Question.{Question}

abbrev pub group_of : Question → Group
group_of q = record { element = q.element; direction = q.direction; vehicle = q.vehicle }
