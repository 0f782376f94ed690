-- The rule has the kinds that were handed out, and its times.
use Rattle.std.proofs.Common.{refl}
use Rattle.gtd_hours_plain2.specs.Clocks.{clocks_of}
use Rattle.gtd_hours_plain2.proofs.plain.plain_rule.Goals as goal

pub returns : goal.returns
returns g c = record {
  link = c.link_of.ensures;
  modifier = refl;
  kinds = c.in_ok-kinds.ensures.kinds (clocks_of c.args.times.now);
  times = c.in_ok-ranges.ensures;
}
