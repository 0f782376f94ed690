-- The plain rules are open at the seconds of the rules.
use Rattle.gtd_hours_plain2.specs.Clocks.{clocks_of}
use Rattle.gtd_hours_plain2.specs.Lowered.{given_of}
use Rattle.gtd_hours_plain2.proofs.Judged.{all_on}
use Rattle.gtd_hours_plain2.proofs.Lowering.{same_open}
use Rattle.gtd_hours_plain2.proofs.plain.plain_of.Goals as goal

pub plain_rules-requires : goal.plain_rules-requires
plain_rules-requires g c =
    let given = c.in_ok-check_given.ensures.given in
    all_on c.args.flags c.args.times.now c.args.rules.now given.needs given.lasts

pub returns-in-Ok : goal.returns-in-Ok
returns-in-Ok g c =
    let days = c.args.days.now in
    let given = given_of (g.D.RuleDays.holiday days) (g.D.RuleDays.years days) (clocks_of c.args.times.now) in record {
      plain = same_open given c.args.rules.now c.in-Ok.made.items c.in-Ok.ensures;
      given = c.in_ok-check_given.ensures.given;
      error = tt;
    }
