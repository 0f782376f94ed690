-- Words lead to one request or one first refusal, and a request excludes a refusal.
use Rattle.gtd_tool.proofs.LawLemmas.{one_asked, one_refusal, asked_apart}
use Rattle.gtd_tool.proofs.laws.one_answer.Goals as goal

pub returns-clause-asked : goal.returns-clause-asked
returns-clause-asked c = one_asked

pub returns-clause-refusal : goal.returns-clause-refusal
returns-clause-refusal c = one_refusal

pub returns-clause-apart : goal.returns-clause-apart
returns-clause-apart c = asked_apart
