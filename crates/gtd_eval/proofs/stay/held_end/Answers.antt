-- The first second without a stretch is the change; held for a whole week, what repeats weekly is held for ever.
use Rattle.std.specs.Prelude.{◌⊎◌}
use Rattle.std.proofs.Common.{arith, inl, inr, rules, FitsSigned, to_z-of_z, w64}
use Rattle.std.proofs.lemmas.Int.{ints}
use Rattle.gtd_core.specs.Parts.{start_parts, duration_parts}
use Rattle.gtd_core.specs.Whole.{whole}
use Rattle.gtd_recur.specs.Membership.{InBasic}
use Rattle.gtd_eval.specs.facts.WeekFacts.{never-to-end}
use Rattle.gtd_eval.proofs.StayEnds.{end-of-held, held-to-end}
use Rattle.gtd_eval.proofs.stay.held_end.Goals as goal

pub held_until-free-requires : goal.held_until-free-requires
held_until-free-requires c =
    let h = c.args.horizon in
    let inside = c.requires.inside in
    let early = h.not_early in
    let late = h.not_late in
    let in_days = c.days_to_look-days.ensures.inside in
    let within = c.days_to_look-days.ensures.within in
    let end = c.until-end.ensures.value in
    record {
      second_in = (omega (arith, ints, inside.0, early), omega (arith, ints, inside.1, late));
      order = omega (arith, ints, end, in_days.1);
      until_in = omega (arith, ints, end, within, late);
    }

pub returns-then-free-end : goal.returns-then-free-end
returns-then-free-end c =
    let end = c.until-end.ensures.value in
    let first = rw end at c.held_until-free.ensures.free in
    let u : FitsSigned w64 c.held_until-free.result.0 = search rules in
    let l : FitsSigned w64 c.until-end.result.0 = search rules in
    record {
      end = end-of-held (InBasic c.args.basic.now) c.args.second.0 (whole c.days_to_look-days.result).until
          (whole c.args.horizon).until c.held_until-free.result.0 c.requires.held c.days_to_look-days.ensures.within first
          (omega (arith, ints, c.if-free-end.true, to_z-of_z u, to_z-of_z l, end));
    }

pub returns : goal.returns
returns c =
    let basic = c.args.basic.now in
    let days = whole c.days_to_look-days.result in
    let end = c.until-end.ensures.value in
    let first = rw end at c.held_until-free.ensures.free in
    let u : FitsSigned w64 c.held_until-free.result.0 = search rules in
    let l : FitsSigned w64 c.until-end.result.0 = search rules in
    let never = held-to-end (InBasic basic) c.args.second.0 days.until c.held_until-free.result.0 c.requires.held first
    (omega (arith, ints, c.if-free-end.false, to_z-of_z u, to_z-of_z l, end)) in
    let inside = c.requires.inside in
    rw (c.until.ensures.value) (record {
      end = record {
        later = inside.1;
        within = omega (arith, ints);
        same = never-to-end (start_parts basic.start) (duration_parts basic.duration) c.args.second.0 days.until
            (whole c.args.horizon).until never (known c.is_weekly.ensures.weekly.0 c.days_to_look-days.ensures.until);
        far = λ v within never. within;
      };
    })
  where
    known : {A B W V : Type 0} → (W → V) → A ⊎ (B × W) → A ⊎ (B × V)
    known f (inl a) = inl a
    known f (inr w) = inr (w.0, f w.1)
