-- What an operator makes of a side that has nothing.
use Rattle.std.proofs.Common.{◌≡◌, List, []}
use Rattle.gtd_core.specs.Seconds.{Interval}
use Rattle.gtd_core.specs.declared.domain.Op.TheVariants.{Meet, Minus}
use Rattle.gtd_spans.specs.Normal.{combine}
use Rattle.gtd_spans.specs.facts.Combining.{combine-normal, combine-holds}
use Rattle.gtd_spans.specs.facts.OneList.{one-list}

pub nothing-meet : (ys : List Interval) → combine Meet [] ys ≡ []
nothing-meet ys = one-list _ [] (combine-normal Meet [] ys) tt
    (λ t. ((λ h. ((combine-holds Meet [] ys t).0 h).0), (λ h. absurd h)))

pub meet-nothing : (xs : List Interval) → combine Meet xs [] ≡ []
meet-nothing xs = one-list _ [] (combine-normal Meet xs []) tt
    (λ t. ((λ h. ((combine-holds Meet xs [] t).0 h).1), (λ h. absurd h)))

pub nothing-minus : (ys : List Interval) → combine Minus [] ys ≡ []
nothing-minus ys = one-list _ [] (combine-normal Minus [] ys) tt
    (λ t. ((λ h. ((combine-holds Minus [] ys t).0 h).0), (λ h. absurd h)))
