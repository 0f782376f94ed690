-- While a basic domain is fixed to be as it is without its date, its stay is that of the basic domain without it.
use Rattle.std.proofs.Common.{arith, ◌≡◌, ◌↔◌, sym, subst, Bool, true}
use Rattle.std.specs.Prelude.{ℤ, IsTrue}
use Rattle.std.proofs.lemmas.Int.{ints}
use Rattle.gtd_core.specs.Whole.{whole}
use Rattle.gtd_core.specs.declared.domain.Domain.{Domain}
use Rattle.gtd_eval.specs.Membership.{InDomain}
use Rattle.gtd_eval.specs.Stays.{IsStay}
use Rattle.gtd_eval.specs.declared.stay.Stay.{Stay}
use Rattle.gtd_difference.specs.Dates.{FixedDate}
use Rattle.gtd_difference.proofs.dated.DatedState.stay.Goals as goal

pub returns-clause-stays : goal.returns-clause-stays
returns-clause-stays c =
    let wide = c.reach.ensures in
    let on : c.args.self.now.is_wide ≡ true = c.if-not-self.false in
    let at : ℤ = c.args.at.0 in
    let end : ℤ = (whole c.args.days).until in
    let found : Stay = record { holds = c.reach.new.self.holds; until = c.reach.new.self.until } in
    let here : IsTrue found.holds ↔ InDomain c.reach.new.self.domain at = wide.known.held at wide.begun wide.later in
    let stays : IsStay (InDomain c.reach.new.self.domain) at end found = record {
      holds = here;
      later = wide.later;
      within = wide.known.within;
      same = λ t lt before.
          let there = wide.known.held t (omega (arith, ints, wide.begun, lt)) before in
          ((λ h. there.0 (here.1 h)), (λ h. here.0 (there.1 h)));
    } in
    subst (λ (b : Bool). IsStay (λ t. FixedDate b c.args.self.now.own.holds (InDomain c.args.self.now.wide.domain t)) at end found)
    (sym on) (subst (λ (x : Domain). IsStay (InDomain x) at end found) wide.domain stays)
