-- The quotient by the seconds of a day is the day that the second is on, also before 1970.
use Rattle.std.proofs.Common.{◌≡◌, ◌∙◌, ap, arith, rules, to_z, of_z, w64}
use Rattle.std.specs.Prelude.{ℤ, pos, negsuc}
use Rattle.std.specs.Int.{int_div_euclid}
use Rattle.std.proofs.lemmas.Int.{ints}
use Rattle.gtd_core.specs.Seconds.{IsOnDay, day_of_second}
use Rattle.gtd_core.proofs.second.Sec.day.Goals as goal

day-of : (z : ℤ) → IsOnDay z (int_div_euclid z (pos 86400))
day-of (pos a) = (omega (arith, ints), omega (arith, ints))
day-of (negsuc a) = (omega (arith, ints), omega (arith, ints))

on-day : (z d : ℤ) → d ≡ int_div_euclid z (pos 86400) → IsOnDay z d
on-day z d e = rw e (day-of z)

value : (z d : ℤ) → d ≡ int_div_euclid z (pos 86400) → d ≡ day_of_second z
unfolding day_of_second
value z d e = e

pub returns : goal.returns
returns c =
    let a : to_z w64 (of_z w64 c.args.self.0) ≡ c.args.self.0 = search rules in
    let r : to_z w64 (of_z w64 c.div_euclid.result) ≡ c.div_euclid.result = search rules in
    let is = r ∙ c.div_euclid.ensures ∙ ap (λ (z : ℤ). int_div_euclid z (pos 86400)) a in
    record { on_day = on-day c.args.self.0 _ is; value = value c.args.self.0 _ is }
