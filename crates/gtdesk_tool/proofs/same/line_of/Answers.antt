-- The second at which two domains differ is on a calendar day, so its line can be written.
use Rattle.std.proofs.Common.{◌≡◌, subst}
use Rattle.gtd_difference.specs.declared.comparison.Comparison.TheVariants.{Apart}
use Rattle.gtdesk_tool.specs.Comparing.{IsShown}
use Rattle.gtdesk_tool.proofs.ComparingFacts.{calendar_day}
use Rattle.gtdesk_tool.proofs.same.line_of.Goals as goal

pub apart_line-requires : goal.apart_line-requires
apart_line-requires c =
    let is = c.in-Apart.is in
    let told : c.args.found ≡ Apart c.in-Apart.apart = cc in
    record { day = calendar_day c.in-Apart.apart.second.0 (subst IsShown told c.requires.shown) }
