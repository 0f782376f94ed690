-- What `clap` finds, or the kind of its error, is what the definition says of the words.
use Rattle.std.proofs.Common.{map, string_bytes}
use Rattle.clap.specs.Simple.{app_of}
use Rattle.gtdesk_plans.proofs.ClapWords.{words_found, words_refused}
use Rattle.gtdesk_plans.proofs.command_line.parse.Goals as goal

pub returns-clause-found : goal.returns-clause-found
returns-clause-found c =
    words_found (app_of c.in_ok-program.program) c.in_ok-program.ensures (map string_bytes c.args.words.now)
    c.try_get_matches_from.result c.try_get_matches_from.ensures.kinds c.try_get_matches_from.ensures.matches

pub returns-clause-refused : goal.returns-clause-refused
returns-clause-refused c =
    words_refused (app_of c.in_ok-program.program) c.in_ok-program.ensures (map string_bytes c.args.words.now)
    c.try_get_matches_from.result c.try_get_matches_from.ensures.kinds
