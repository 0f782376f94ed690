-- The periods are over by the earlier one of the second and the end of the horizon.
use Rattle.std.proofs.Common.{rules, ◌≡◌, arith}
use Rattle.std.proofs.lemmas.Int.{ints}
use Rattle.std.specs.Prelude.{◌-ℤ◌}
use Rattle.gtd_kept.proofs.repeat.Repeat.whole_periods.Goals as goal

pub returns-clause-in_time : goal.returns-clause-in_time
returns-clause-in_time c =
    let past : c.in_ok-past.past ≡ c.earlier-latest.result.0 -ℤ c.args.last.0 = search rules in
    let latest = c.earlier-latest.ensures.not_later in
    let part = c.whole_part.ensures in
    let within = part.within in
    let first = latest.1 in
    omega (arith, ints, past, first, within)

pub returns-clause-inside : goal.returns-clause-inside
returns-clause-inside c =
    let past : c.in_ok-past.past ≡ c.earlier-latest.result.0 -ℤ c.args.last.0 = search rules in
    let latest = c.earlier-latest.ensures.not_later in
    let part = c.whole_part.ensures in
    let within = part.within in
    let first = latest.0 in
    omega (arith, ints, past, first, within)
