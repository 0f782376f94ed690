-- A stretch that began before the date would have the second before it, or have ended.
use Rattle.std.proofs.Common.{rules, arith, ◌↔◌, sym, subst, FitsSigned, to_z-of_z, w64}
use Rattle.std.specs.Prelude.{ℤ, pos, ◌-ℤ◌, ◌≤ℤ◌, Bool, true, false, not, IsTrue}
use Rattle.std.proofs.lemmas.Int.{ints}
use Rattle.gtd_core.specs.Parts.{domain_tree}
use Rattle.gtd_core.specs.declared.domain.Domain.{Domain}
use Rattle.gtd_eval.specs.Membership.{InDomain}
use Rattle.gtd_eval.specs.Periods.{AllRepeat}
use Rattle.gtd_recur.specs.Periods.{period_seconds}
use Rattle.gtd_difference.proofs.dated.DatedState.is_begun_on_date.Goals as goal

both : (b : Bool) → IsTrue b → IsTrue (not b) → ⊥
both true is isnt = cc
both false is isnt = cc

pub returns-then-self-at-clause-begun : goal.returns-then-self-at-clause-begun
returns-then-self-at-clause-begun c = λ yes t later before.
    let is = c.requires.known in
    let inside = c.requires.inside in
    let early = c.args.days.not_early in
    let late = c.args.days.not_late in
    let begun = c.if-self-at.true in
    let a : FitsSigned w64 c.args.at.0 = search rules in
    let l : FitsSigned w64 c.args.self.now.longest = search rules in
    let f : FitsSigned w64 c.args.self.now.date.from.0 = search rules in
    let since : c.args.self.now.date.from.0 ≤ℤ (c.args.at.0 -ℤ c.args.self.now.longest) =
    omega (arith, ints, begun, inside.0, inside.1, early, late, is.some, is.short, to_z-of_z a, to_z-of_z l, to_z-of_z f) in
    is.same t (λ b low high.
    (is.date.held b (omega (arith, ints, low, since, later)) (omega (arith, ints, high, before))).0 c.if-not-self.false)

pub returns-clause-known : goal.returns-clause-known
returns-clause-known c =
    let is = c.requires.known in
    let e = c.reach.ensures.domain in
    record {
      own = is.own;
      wide = c.reach.ensures.known;
      date = is.date;
      repeats = subst (λ (x : Domain). AllRepeat (period_seconds c.args.self.now.period) (domain_tree x)) (sym e) is.repeats;
      some = is.some;
      short = is.short;
      same = λ t all.
          subst (λ (x : Domain). InDomain x t ↔ InDomain c.args.self.now.own.domain t) (sym e) (is.same t all);
      since = λ from t later none all.
          subst (λ (x : Domain). InDomain x t ↔ InDomain c.args.self.now.own.domain t) (sym e)
          (is.since from t later (λ h. none (subst (λ (x : Domain). InDomain x (from -ℤ pos 1)) (sym e) h)) all);
    }

pub returns-clause-begun : goal.returns-clause-begun
returns-clause-begun c = λ none t later before.
    let is = c.requires.known in
    let inside = c.requires.inside in
    let early = c.args.days.not_early in
    let late = c.args.days.not_late in
    let wide = c.reach.ensures in
    let a : FitsSigned w64 c.args.at.0 = search rules in
    let least : ℤ = c.args.at.0 -ℤ pos 1 in
    let held = wide.known.held least (omega (arith, ints, wide.begun, inside.0, inside.1, early, late, to_z-of_z a))
    (omega (arith, ints, wide.later, inside.0, inside.1, early, late, to_z-of_z a)) in
    let lacks : InDomain c.args.self.now.wide.domain least → ⊥ =
    λ h. both c.reach.new.self.holds (held.1 (subst (λ (x : Domain). InDomain x least) (sym wide.domain) h)) none in
    subst (λ (x : Domain). InDomain x t ↔ InDomain c.args.self.now.own.domain t) (sym wide.domain)
    (is.since c.args.at.0 t later lacks (λ b low high.
    (is.date.held b (omega (arith, ints, low, c.requires.begun)) (omega (arith, ints, high, before))).0 c.if-not-self.false))
