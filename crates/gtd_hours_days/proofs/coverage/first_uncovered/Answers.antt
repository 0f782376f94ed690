-- All selectors before the one at hand are covered, so the one that is not covered is the first of them.
use Rattle.std.proofs.Common.{rules, ◌≡◌, ◌∙◌, ◌+◌, ◌++◌, ◌∷◌, [], ap, sym, get_or, take, FitsSigned, w64, to_z-of_z}
use Rattle.std.proofs.lemmas.List.{get_or_default, take_more}
use Rattle.gtd_hours_days.specs.declared.listed.Listed.{Listed}
use Rattle.gtd_hours_days.specs.declared.listed.Listed.TheVariants.{School}
use Rattle.gtd_hours_days.proofs.CoverageFacts.{covers_again, covers_more, uncovered_at}
use Rattle.gtd_hours_days.proofs.coverage.first_uncovered.Goals as goal

pub returns-in-Some : goal.returns-in-Some
returns-in-Some c =
    let day : FitsSigned w64 c.in-Some.day = search rules in
    record {
      first = rw (to_z-of_z day) (uncovered_at c.args.holidays.now.rows.items c.args.years c.args.listed.now c.loop-place.place
          c.index-listed-place.result c.in-Some.day c.loop-place-test.true c.index-listed-place.is c.loop-place.invariant
          (rw c.in-Some.is at c.first_for.ensures));
    }

pub loop-place-preserved : goal.loop-place-preserved
loop-place-preserved c =
    let at = c.loop-place.place in
    let xs = c.args.listed.now in
    let r = c.index-listed-place.result in
    let next : take (at + 1) xs ≡ take at xs ++ r ∷ [] =
    take_more xs at r c.loop-place-test.true ∙ ap (λ (x : Listed). take at xs ++ x ∷ []) (sym c.index-listed-place.is) in
    rw next (covers_more c.args.holidays.now.rows.items c.args.years (take at xs) r c.loop-place.invariant
    (rw c.in-None.is at c.first_for.ensures))

pub loop-place-preserved-then-is_repeated : goal.loop-place-preserved-then-is_repeated
loop-place-preserved-then-is_repeated c =
    let at = c.loop-place.place in
    let xs = c.args.listed.now in
    let x = get_or xs at School in
    let is : x ≡ get_or xs at x = get_or_default xs at School x c.loop-place-test.true in
    let next : take (at + 1) xs ≡ take at xs ++ x ∷ [] =
    take_more xs at x c.loop-place-test.true ∙ ap (λ (l : Listed). take at xs ++ l ∷ []) (sym is) in
    rw next (covers_more c.args.holidays.now.rows.items c.args.years (take at xs) x c.loop-place.invariant
    (covers_again c.args.holidays.now.rows.items c.args.years (take at xs) x c.loop-place.invariant
    (c.is_repeated.ensures c.if-is_repeated.true x is)))
