-- A row that does not hold the first or the last second of a span of another does not hold all of the other's.
use Rattle.std.proofs.Common.{arith}
use Rattle.std.specs.Prelude.{option_map}
use Rattle.std.proofs.lemmas.Int.{ints}
use Rattle.gtd_core.specs.Parts.{domain_tree}
use Rattle.gtd_repeats.proofs.SpanFacts.{end_alone}
use Rattle.gtd_repeats.proofs.seconds.is_end_alone.Goals as goal

pub returns-else-not-holds : goal.returns-else-not-holds
returns-else-not-holds c =
    let value = c.last_of.ensures.value in
    let some = c.from.ensures.not_empty in
    record {
      alone = λ denied all.
          end_alone (option_map (λ d. domain_tree d.now) c.args.domain) c.in-Some-other.other.now c.in-Some.span
          c.last_of.result.0 c.holds-else-not-holds.result (rw c.in-Some.is at c.requires.held)
          (omega (arith, ints, some)) (omega (arith, ints, value)) c.holds-else-not-holds.ensures.member denied
          (rw c.in-Some-other.is at all);
    }
