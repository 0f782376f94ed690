-- A domain has few enough operators that the depth of its lines can be counted.
use Rattle.gtd_words.proofs.LineFacts.{few_joins}
use Rattle.gtd_words.proofs.words.write_words_in.Goals as goal

pub push_lines-requires : goal.push_lines-requires
push_lines-requires c = rw c.expr.ensures.value (few_joins c.args.domain.now)
