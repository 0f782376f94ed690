-- The next change among the runs of the days looked at; with none in them, what repeats weekly has none later either.
use Rattle.std.specs.Prelude.{◌⊎◌}
use Rattle.std.proofs.Common.{arith, inl, inr}
use Rattle.std.proofs.lemmas.Int.{ints}
use Rattle.gtd_core.specs.Parts.{start_parts, duration_parts}
use Rattle.gtd_core.specs.Whole.{whole}
use Rattle.gtd_recur.specs.Membership.{InBasic}
use Rattle.gtd_recur.specs.RunsToCome.{runs_to_come}
use Rattle.gtd_eval.specs.facts.Repeats.{never-in, next-in}
use Rattle.gtd_eval.specs.facts.WeekFacts.{never-to-end, no_later}
use Rattle.gtd_eval.proofs.stay.end_by_runs.Goals as goal

pub returns-in-Some : goal.returns-in-Some
returns-in-Some c =
    let days = whole c.days_to_look-days.result in
    let basic = c.args.basic.now in
    let next = next-in (InBasic basic) days.from days.until c.args.second.0 c.in-Some.change.0 (runs_to_come c.new.result)
    c.new.ensures.normal c.days_to_look-days.ensures.inside.0 (rw (← c.until.ensures.value) c.in-Some.ensures.change) in
    record {
      end = record {
        later = next.later;
        within = omega (arith, ints, next.within, c.days_to_look-days.ensures.within);
        same = next.least;
        far = λ u within never. no_later (InBasic basic) c.args.second.0 days.until c.in-Some.change.0 u next never;
      };
    }

pub returns-in-None : goal.returns-in-None
returns-in-None c =
    let days = whole c.days_to_look-days.result in
    let basic = c.args.basic.now in
    let never = never-in (InBasic basic) days.from days.until c.args.second.0 (runs_to_come c.new.result)
    c.new.ensures.normal c.days_to_look-days.ensures.inside.0 (rw (← c.until.ensures.value) c.in-None.ensures.change) in
    let inside = c.requires.inside in
    rw (c.until-in-None.ensures.value) (record {
      end = record {
        later = inside.1;
        within = omega (arith, ints);
        same = never-to-end (start_parts basic.start) (duration_parts basic.duration) c.args.second.0 days.until
            (whole c.args.horizon).until never (known c.is_weekly.ensures.weekly.0 c.days_to_look-days.ensures.until);
        far = λ u within never. within;
      };
    })
  where
    known : {A B W V : Type 0} → (W → V) → A ⊎ (B × W) → A ⊎ (B × V)
    known f (inl a) = inl a
    known f (inr w) = inr (w.0, f w.1)
