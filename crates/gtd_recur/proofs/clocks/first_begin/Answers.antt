-- The fields of the clock that are given, and 0 for the others, make the least second that fits.
use Rattle.std.proofs.Common.{◌∙◌}
use Rattle.gtd_recur.proofs.ClockSearch.{AreLeast, first_clock}
use Rattle.gtd_recur.proofs.clocks.first_begin.Goals as goal

pub returns : goal.returns
returns c =
    let least : AreLeast c.args.start.now c.from-hour.result c.from-minute.result c.from-second.result = record {
      hour = c.from-hour.ensures ∙ c.unwrap_or.ensures;
      minute = c.from-minute.ensures ∙ c.unwrap_or-2.ensures;
      second = c.from-second.ensures ∙ c.unwrap_or-3.ensures;
    } in
    record { first = first_clock c.args.start.now _ _ _ c.requires.valid least }
