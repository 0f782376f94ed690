-- The first span of the cursors has each second of the days.
use Rattle.std.proofs.Common.{sym, subst, arith, inl, List}
use Rattle.std.proofs.lemmas.Int.{ints}
use Rattle.gtd_core.specs.Seconds.{Interval}
use Rattle.gtd_spans.specs.Normal.{Holds}
use Rattle.gtd_records.proofs.always.have_all.Goals as goal

pub returns-in-Some : goal.returns-in-Some
returns-in-Some c = record {
  all = λ yes t within.
      let from = c.has_days.ensures.from yes in
      let until = c.has_days.ensures.until yes in
      (c.in_ok-joined.ensures.seconds t).0 (subst (λ (l : List Interval). Holds l t) (sym c.in-Some.ensures.takes)
      (inl (omega (arith, ints, from, within.0), omega (arith, ints, until, within.1))));
}
