-- The stay at the second says what the basic domain has up to its end.
use Rattle.gtd_core.specs.Whole.{whole}
use Rattle.gtd_eval.specs.Membership.{InDomain}
use Rattle.gtd_difference.proofs.FixedDates.{held-by-stay}
use Rattle.gtd_difference.proofs.basic_state.BasicState.reach.Goals as goal

pub returns-clause-known : goal.returns-clause-known
returns-clause-known c =
    let is = c.stay_of-stay.ensures.stays in
    record {
      repeats = c.requires.known.repeats;
      within = is.within;
      held = held-by-stay (InDomain c.args.self.now.domain) c.args.at.0 (whole c.args.days).until c.stay_of-stay.result is;
    }
