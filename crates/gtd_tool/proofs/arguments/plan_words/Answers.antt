-- What `clap` matched leads to the plan of the words, and what it refused is refused as wrong usage.
use Rattle.std.proofs.Common.{map, string_bytes}
use Rattle.gtd_tool.proofs.PlanLemmas.{read_ok, read_err}
use Rattle.gtd_tool.proofs.arguments.plan_words.Goals as goal

pub returns-in-Some-clause-asked : goal.returns-in-Some-clause-asked
returns-in-Some-clause-asked c = read_ok _ _ (c.in-Some.ensures (map string_bytes c.args.words.now) c.in_ok-matches.ensures.found)

pub returns-in-Some-clause-stopped : goal.returns-in-Some-clause-stopped
returns-in-Some-clause-stopped c =
    read_err _ _ (c.in-Some.ensures (map string_bytes c.args.words.now) c.in_ok-matches.ensures.found)

pub returns-clause-stopped : goal.returns-clause-stopped
returns-clause-stopped c = absurd (c.in-None.ensures (map string_bytes c.args.words.now) c.in_ok-matches.ensures.found)
