-- What is built of times.
use Rattle.std.specs.Prelude.{Option, Some, None}
use Rattle.gtd_core.specs.Parts.{domain_tree}
use Rattle.gtd_core.specs.Trees.{tree_of}
use Rattle.gtd_core.specs.declared.domain.Domain.{Domain}
use Rattle.gtd_conditional_rows.specs.Times.{Times, Never, Always, Within}
use Rattle.gtd_conditional_rows.specs.declared.times.Times.TheVariants as times
use Rattle.gtd_conditional_rows.specs.declared.times.Times as built
use Rattle.gtd_conditional_rows.specs.declared.times.Timing.{Timing}
use Rattle.gtd_conditional_rows.specs.declared.times.Timing.TheVariants as timing

abbrev pub times_in : built.Times → Times
times_in times.Never = Never
times_in times.Always = Always
times_in (times.Within expr) = Within (tree_of expr)

-- the seconds of a domain; none stands for every second
abbrev pub domain_times : Option Domain → Times
domain_times None = Always
domain_times (Some domain) = Within (domain_tree domain)

abbrev pub timing_times : Timing → Times
timing_times timing.Never = Never
timing_times (timing.Closed domain) = domain_times domain
