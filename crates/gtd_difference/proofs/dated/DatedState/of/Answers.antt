-- The three basic domains are the one, the one without its date, and the days of its date.
use Rattle.std.proofs.Common.{rules, arith, ◌∙◌, ap, refl, sym, subst, FitsSigned, to_z-of_z, w64}
use Rattle.std.proofs.lemmas.Int.{ints}
use Rattle.gtd_core.specs.Parts.{domain_tree, duration_parts, start_parts}
use Rattle.gtd_core.specs.declared.domain.Domain.{Domain}
use Rattle.gtd_eval.specs.Periods.{AllRepeat, period_seconds}
use Rattle.gtd_difference.proofs.Dates.{undated, undated-since}
use Rattle.gtd_difference.proofs.dated.DatedState.of.Goals as goal

pub returns-clause-known : goal.returns-clause-known
returns-clause-known c =
    let p = start_parts c.args.basic.now.start in
    let q = duration_parts c.args.basic.now.duration in
    let value = c.bound-longest.ensures.value in
    let fits : FitsSigned w64 c.bound-longest.result = search rules in
    let longest = to_z-of_z fits in
    let own = ap (λ (x : Domain). domain_tree x) c.new.ensures.domain ∙ c.single-own.ensures.tree in
    let wide = ap (λ (x : Domain). domain_tree x) c.new-2.ensures.domain ∙ c.single-wide.ensures.tree in
    let date = ap (λ (x : Domain). domain_tree x) c.new-3.ensures.domain ∙ c.single-date.ensures.tree in
    record {
      own = c.new.ensures.known;
      wide = c.new-2.ensures.known;
      date = c.new-3.ensures.known;
      repeats = subst (λ (x : Domain). AllRepeat (period_seconds c.in_ok-period.period) (domain_tree x))
          (sym c.new-2.ensures.domain) c.in_ok-period.ensures.period;
      some = omega (arith, ints, value, longest);
      short = omega (arith, ints, value, longest, c.if-longest-gt-MOST_SECONDS.false);
      same = undated p q (start_parts c.in_ok-clock_start.field-0) (start_parts c.in_ok-date_start.field-0)
          (duration_parts c.in_ok-a_day.field-0) _ _ _ _ c.in_ok-clock_start.ensures.parts c.in_ok-date_start.ensures.parts
          c.in_ok-a_day.ensures.parts own wide date (longest ∙ value) (c.if-not-begins_often.ensures.clock refl);
      since = undated-since p q (start_parts c.in_ok-clock_start.field-0) (start_parts c.in_ok-date_start.field-0)
          (duration_parts c.in_ok-a_day.field-0) _ _ _ c.in_ok-clock_start.ensures.parts c.in_ok-date_start.ensures.parts
          c.in_ok-a_day.ensures.parts own wide date (c.if-not-begins_often.ensures.clock refl);
    }
