-- If each stretch from the second on begins on the date, a basic domain is as it is without its date.
use Rattle.std.proofs.Common.{arith, ◌≡◌, ◌↔◌, ◌∙◌, ap, sym, subst, Bool, true, false}
use Rattle.std.specs.Prelude.{◌<ℤ◌, IsTrue}
use Rattle.std.proofs.lemmas.Int.{ints}
use Rattle.gtd_core.specs.declared.domain.Domain.{Domain}
use Rattle.gtd_eval.specs.Membership.{InDomain}
use Rattle.gtd_difference.specs.Dates.{FixedDate}
use Rattle.gtd_difference.specs.declared.basic_state.BasicState.{BasicState}
use Rattle.gtd_difference.proofs.dated.DatedState.fix.Goals as goal

pub returns-then-self-clause-fixed : goal.returns-then-self-clause-fixed
returns-then-self-clause-fixed c = λ t later before.
    let begun = c.is_begun_on_date-self.ensures in
    let state = c.is_begun_on_date-self.new.self in
    let wide : c.is_begun_on_date-self.result ≡ true = c.if-self.true in
    subst (λ (b : Bool). FixedDate b state.own.holds (InDomain state.wide.domain t) ↔ InDomain c.args.self.now.own.domain t)
    (sym wide) (begun.begun wide t later (subst (λ (d : BasicState). t <ℤ d.until.0) begun.date before))

pub returns-clause-known : goal.returns-clause-known
returns-clause-known c =
    let is = c.is_begun_on_date-self.ensures.known in
    let wide = c.is_begun_on_date-self.new.self.wide.domain in
    let own = c.reach-2.ensures in
    record {
      own = own.known;
      wide = is.wide;
      date = is.date;
      repeats = is.repeats;
      some = is.some;
      short = is.short;
      same = λ t all. subst (λ (x : Domain). InDomain wide t ↔ InDomain x t) (sym own.domain) (is.same t all);
      since = λ from t later none all.
          subst (λ (x : Domain). InDomain wide t ↔ InDomain x t) (sym own.domain) (is.since from t later none all);
    }

pub returns-clause-fixed : goal.returns-clause-fixed
returns-clause-fixed c = λ t later before.
    let own = c.reach-2.ensures in
    let state = c.is_begun_on_date-self.new.self in
    let narrow : c.is_begun_on_date-self.result ≡ false = c.if-self.false in
    let same : c.reach-2.new.self.domain ≡ c.args.self.now.own.domain =
    own.domain ∙ ap (λ (s : BasicState). s.domain) c.is_begun_on_date-self.ensures.own in
    subst (λ (b : Bool). FixedDate b c.reach-2.new.self.holds (InDomain state.wide.domain t)
    ↔ InDomain c.args.self.now.own.domain t) (sym narrow)
    (subst (λ (x : Domain). IsTrue c.reach-2.new.self.holds ↔ InDomain x t) same
    (own.known.held t (omega (arith, ints, own.begun, later)) before))
