-- One type more is added if it is in the set.
use Rattle.std.proofs.Common.{◌≡◌, arith, subst, ℕ}
use Rattle.gtd_conditional_rows.specs.Types.{HasType}
use Rattle.gtd_conditional_file.proofs.NumberFacts.{AreBelow, are_numbers, below_more, none_below}
use Rattle.gtd_conditional_file.proofs.vehicles.numbers_of.Goals as goal

pub loop-vehicle-init : goal.loop-vehicle-init
loop-vehicle-init c = rw (c.new-numbers.ensures.items) (none_below (HasType c.args.types.now))

pub loop-vehicle-preserved : goal.loop-vehicle-preserved
loop-vehicle-preserved c =
    below_more c.args.types.now c.loop-vehicle.vehicle c.loop-vehicle.numbers.items c.add_number.new.numbers.items
    c.loop-vehicle.auto.vehicle c.in_ok-add_number.ensures c.loop-vehicle.invariant

pub returns : goal.returns
returns c =
    let last : c.loop-vehicle.vehicle ≡ 100 = omega arith in
    record {
      numbers = are_numbers c.args.types.now c.loop-vehicle.numbers.items
          (subst (λ (n : ℕ). AreBelow (HasType c.args.types.now) n c.loop-vehicle.numbers.items) last c.loop-vehicle.invariant);
    }
