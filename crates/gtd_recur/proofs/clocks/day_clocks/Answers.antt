-- A day on which a start begins has a last start: up to its last second there is one that fits.
use Rattle.gtd_recur.proofs.ClockSearch.{last_is_some}
use Rattle.gtd_recur.proofs.clocks.day_clocks.Goals as goal

pub unwrap-requires : goal.unwrap-requires
unwrap-requires c = last_is_some c.args.start.now c.requires.valid c.latest_begin.result c.latest_begin.ensures
