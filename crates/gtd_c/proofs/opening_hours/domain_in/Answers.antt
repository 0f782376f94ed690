use Rattle.std.proofs.Common.{◌≡◌, ◌<◌, inr, subst}
use Rattle.std.specs.Prelude.{Option, Some, IfSome}
use Rattle.gtd_core.specs.Limits.{most_basic_domains}
use Rattle.gtd_hours.specs.Cost.{hours_cost}
use Rattle.gtd_c.specs.OpeningHours.{too_many_numbers}
use Rattle.gtd_c.specs.declared.hours_faults.HoursFaultNumbers.{HoursFaultNumbers}
use Rattle.gtd_c.proofs.opening_hours.domain_in.Goals as goal

-- what is said of an answer that is there
of_some : (Says : HoursFaultNumbers → Type 0) (answer : Option HoursFaultNumbers) (x : HoursFaultNumbers) → answer ≡ Some x
    → IfSome answer Says → Says x
of_some Says answer x is told = subst (λ (o : Option HoursFaultNumbers). IfSome o Says) is told

-- The hours that would have too many basic domains are those that the text stands for.
pub returns-in-Err-Some-domain_with-clause-fault : goal.returns-in-Err-Some-domain_with-clause-fault
returns-in-Err-Some-domain_with-clause-fault c =
    let is : c.in-Err-Some-domain_with.field-0 ≡ Some c.in-Err-Some-domain_with.many = cc in
    let told = of_some
    (λ (numbers : HoursFaultNumbers). (numbers ≡ too_many_numbers) × (most_basic_domains < hours_cost c.in-Ok.hours))
    c.in-Err-Some-domain_with.field-0 c.in-Err-Some-domain_with.many is c.in-Err-Some-domain_with.ensures.many in
    inr (record {
      hours = c.in-Ok.hours;
      stands = c.in-Ok.ensures.stands;
      many = told.1;
      numbered = told.0;
    })
