use Rattle.std.proofs.Common.{◌≡◌, IfOk, Err, to_z, of_z, w64, to_z-of_z}
use Rattle.std.proofs.lemmas.Result.{IfOk-weaker}
use Rattle.gtd_zones.specs.declared.zone.ZoneFault.TheVariants.{Range}
use Rattle.gtd_zones.specs.Zones.{ShowsNone, shown_at}
use Rattle.gtd_zones.proofs.zone.second_in_zone.Goals as goal

-- what the table shows at the instant that was given
shown : (c : goal.After-drop-table-2) → IfOk c.shown_by.result (λ second. second.0 ≡ shown_at c.in_ok-table.table c.args.instant)
shown c = rw (to_z-of_z c.ranges.instant) at c.shown_by.ensures.second

pub returns-clause-second : goal.returns-clause-second
returns-clause-second c = IfOk-weaker c.shown_by.result _ _
    (λ second is. (c.in_ok-table.table, c.in_ok-table.ensures.table, is)) (shown c)

-- the table shows no moment
shows_none : (c : goal.After-drop-table-2) → c.shown_by.result ≡ Err Range → ShowsNone c.in_ok-table.table c.args.instant
shows_none c e =
    let k : (Range ≡ Range) × ShowsNone c.in_ok-table.table (to_z w64 (of_z w64 c.args.instant))
    = rw e at c.shown_by.ensures.out_of_range in
    rw (to_z-of_z c.ranges.instant) at k.1

pub returns-clause-out_of_range : goal.returns-clause-out_of_range
returns-clause-out_of_range c e = (c.in_ok-table.table, c.in_ok-table.ensures.table, shows_none c e)
