-- What the division leaves is at most the whole time.
use Rattle.std.proofs.Common.{◌≡◌, arith, to_z-of_z}
use Rattle.std.proofs.lemmas.Int.{ints}
use Rattle.std.specs.Int.{int_rem_euclid}
use Rattle.gtd_kept.proofs.RoundLemmas.{part-is}
use Rattle.gtd_kept.proofs.repeat.whole_part.Goals as goal

pub returns-clause-whole : goal.returns-clause-whole
returns-clause-whole c =
    let rest : c.rem_euclid.result ≡ int_rem_euclid c.args.time c.args.period =
    rw (to_z-of_z c.ranges.time, to_z-of_z c.ranges.period) at c.rem_euclid.ensures.value in
    let low = c.rem_euclid.ensures.lower_bound in
    (part-is c.args.time c.args.period c.rem_euclid.result _ rest (omega (arith, ints, low)) c.requires.not_back c.requires.some).0
