-- The days that are looked at end with those that a horizon may have, where these are fewer.
use Rattle.std.proofs.Common.{refl, inr, arith}
use Rattle.std.specs.Prelude.{pos, ◌+ℤ◌, ◌<ℤ◌}
use Rattle.std.proofs.lemmas.Int.{ints}
use Rattle.std.proofs.lemmas.Grind.{common_steps}
use Rattle.gtd_core.specs.Limits.{horizons_end, most_horizon_days}
use Rattle.gtd_core.specs.Seconds.{day_of_second}
use Rattle.gtd_ask.proofs.held.look_end.Goals as goal

pub returns-else-last-le-HORIZONS_END : goal.returns-else-last-le-HORIZONS_END
returns-else-last-le-HORIZONS_END c =
    let day = c.day-last.ensures.value in
    let more = c.if-last-le-HORIZONS_END.false in
    let late : horizons_end <ℤ (day_of_second c.args.second.0 +ℤ pos most_horizon_days) = grind (arith, ints, common_steps) in
    record { end = (horizons_end, inr (refl, late), refl) }
