-- The Thursday of week 1 is the first of its year, and seven days a week lead from its Monday to the one asked for.
use Rattle.std.proofs.Common.{arith, to_z-of_z, refl}
use Rattle.gtd_calendar.specs.facts.Signed.{signed_arith}
use Rattle.gtd_recur.proofs.MondayLemmas.{first-day-of, computed-monday}
use Rattle.gtd_recur.proofs.find.monday_of.Goals as goal

pub overflow_add-first : goal.overflow_add-first
overflow_add-first c =
    let h = rw (to_z-of_z c.ranges.year) at c.in_ok-first.ensures in
    let first = first-day-of _ _ (h.exists.0 refl).0 h.value in
    omega (arith, signed_arith, first.low, first.high)

pub overflow_mul-result : goal.overflow_mul-result
overflow_mul-result c =
    let h = rw (to_z-of_z c.ranges.year) at c.in_ok-first.ensures in
    let first = first-day-of _ _ (h.exists.0 refl).0 h.value in
    let k = computed-monday _ _ _ c.from.result _ first c.requires.week_in (omega (arith, signed_arith, c.from.ensures))
    c.div_euclid.ensures in
    omega (arith, signed_arith, k.weeks_in.0, k.weeks_in.1, k.given_is, k.week_in.0, k.week_in.1)

pub overflow_sub-result-2 : goal.overflow_sub-result-2
overflow_sub-result-2 c =
    let h = rw (to_z-of_z c.ranges.year) at c.in_ok-first.ensures in
    let first = first-day-of _ _ (h.exists.0 refl).0 h.value in
    let k = computed-monday _ _ _ c.from.result _ first c.requires.week_in (omega (arith, signed_arith, c.from.ensures))
    c.div_euclid.ensures in
    omega (arith, signed_arith, k.weeks_in.0, k.weeks_in.1, k.given_is, k.week_in.0, k.week_in.1)

pub returns : goal.returns
returns c =
    let h = rw (to_z-of_z c.ranges.year) at c.in_ok-first.ensures in
    let first = first-day-of _ _ (h.exists.0 refl).0 h.value in
    let k = computed-monday _ _ _ c.from.result _ first c.requires.week_in (omega (arith, signed_arith, c.from.ensures))
    c.div_euclid.ensures in
    rw (k.value) (record {
      monday = (first.in_year, rw (k.weeks_is, first.is) refl);
      bound = (
        omega (arith, signed_arith, k.weeks_in.0, k.week_in.0),
        omega (arith, signed_arith, k.weeks_in.1, k.week_in.1),
      );
    })
