-- Before the first type no place is set.
use Rattle.std.proofs.Common.{refl, arith}
use Rattle.gtd_conditional_rows.proofs.TypeLemmas.{none-has}
use Rattle.gtd_conditional_rows.proofs.types.Types.either.Goals as goal

pub loop-vehicle-init : goal.loop-vehicle-init
loop-vehicle-init c = record {
  long = refl;
  none = refl;
  types = λ t v. ((λ h. absurd (none-has 100 t h)), (λ k. absurd (omega (arith, v.0, k.0))));
}
