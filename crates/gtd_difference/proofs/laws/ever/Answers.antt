-- The horizon covers a whole period of the calendar, so domains without years do elsewhere as they do in it.
use Rattle.std.proofs.Common.{refl, arith, inl}
use Rattle.std.specs.Prelude.{pos}
use Rattle.std.proofs.lemmas.Int.{ints}
use Rattle.gtd_core.specs.Limits.{most_horizon_days}
use Rattle.gtd_difference.specs.Difference.{first_begin, last_end}
use Rattle.gtd_difference.proofs.Ever.{agree-ever, within-ever}
use Rattle.gtd_difference.proofs.laws.ever.Goals as goal

pub returns : goal.returns
returns c = record {
  same = λ a b none h. agree-ever a b first_begin last_end (pos most_horizon_days) none (omega (arith, ints)) (inl refl) h;
  within = λ a b none h. within-ever a b first_begin last_end (pos most_horizon_days) none (omega (arith, ints)) (inl refl) h;
}
