-- One selector more adds its days to the set; behind the last one, the set is the days of all.
use Rattle.std.proofs.Common.{rules, ◌≡◌, ◌∙◌, ◌+◌, ◌++◌, ◌∷◌, [], ap, sym, get_or, take, arith, FitsSigned, w64, to_z-of_z}
use Rattle.std.proofs.lemmas.List.{get_or_default, take_all, take_more}
use Rattle.gtd_hours_holidays.specs.Days.{IsIn}
use Rattle.gtd_hours_days.specs.declared.listed.Listed.{Listed}
use Rattle.gtd_hours_days.specs.declared.listed.Listed.TheVariants.{School}
use Rattle.gtd_hours_days.proofs.AdditionFacts.{begun_at, listed_again, listed_more}
use Rattle.gtd_hours_days.proofs.selection.marked.Goals as goal

pub loop-place-init : goal.loop-place-init
loop-place-init c =
    let begin : FitsSigned w64 c.begin_of.result = search rules in
    record {
      begun = begun_at c.args.years c.new-days.result.first c.begin_of.result
          (rw (to_z-of_z begin) at c.new-days.ensures.begins) c.begin_of.ensures.before;
      days = λ n. (c.new-days.ensures.none n, λ h. absurd h);
    }

pub loop-place-preserved-then-is_repeated : goal.loop-place-preserved-then-is_repeated
loop-place-preserved-then-is_repeated c =
    let at = c.loop-place.place in
    let xs = c.args.listed.now in
    let x = get_or xs at School in
    let is : x ≡ get_or xs at x = get_or_default xs at School x c.loop-place-test.true in
    let next : take (at + 1) xs ≡ take at xs ++ x ∷ [] =
    take_more xs at x c.loop-place-test.true ∙ ap (λ (l : Listed). take at xs ++ l ∷ []) (sym is) in
    record {
      begun = c.loop-place.invariant.begun;
      days = rw next (listed_again c.args.rows.now c.args.years (take at xs) x (IsIn c.loop-place.days)
          c.loop-place.invariant.days (c.is_repeated.ensures c.if-is_repeated.true x is));
    }

pub loop-place-preserved : goal.loop-place-preserved
loop-place-preserved c =
    let at = c.loop-place.place in
    let xs = c.args.listed.now in
    let r = c.index-listed-place.result in
    let next : take (at + 1) xs ≡ take at xs ++ r ∷ [] =
    take_more xs at r c.loop-place-test.true ∙ ap (λ (x : Listed). take at xs ++ x ∷ []) (sym c.index-listed-place.is) in
    record {
      begun = rw (c.add_listed.ensures.begins) c.loop-place.invariant.begun;
      days = rw next (listed_more c.args.rows.now c.args.years (take at xs) r (IsIn c.add_listed.new.days)
          (IsIn c.loop-place.days) c.loop-place.invariant.days c.in_ok-add_listed.ensures.added);
    }

pub returns : goal.returns
returns c = rw (take_all c.loop-place.place c.args.listed.now (omega arith)) at c.loop-place.invariant.days
