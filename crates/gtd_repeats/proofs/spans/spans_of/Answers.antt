-- At each turn each first row passed that has a span in the years looked at has its first one.
use Rattle.std.proofs.Common.{arith, length-append, ℕ, [], ◌∷◌, Option}
use Rattle.std.specs.Prelude.{IfSome}
use Rattle.gtd_core.specs.Seconds.{Interval}
use Rattle.gtd_difference.specs.Difference.{IsHeldSpan}
use Rattle.gtd_records.specs.Closing.{HoldsAt}
use Rattle.gtd_repeats.specs.Sameness.{row_at}
use Rattle.gtd_repeats.proofs.ListFacts.{each_more}
use Rattle.gtd_repeats.proofs.spans.spans_of.Goals as goal

pub loop-row-preserved : goal.loop-row-preserved
loop-row-preserved c =
    let rows = c.args.rows.now in
    let row = c.loop-row.row in
    let spans = c.loop-row.spans.items in
    let span = c.in_ok-span.span in
    let inv = c.loop-row.invariant in
    let l = length-append spans (span ∷ []) in
    record {
      many = rw c.in_ok-push.ensures.items (omega (arith, l, inv.many));
      each = rw c.in_ok-push.ensures.items
          (each_more (λ (k : ℕ) (s : Option Interval). IfSome s (IsHeldSpan (HoldsAt (row_at rows k).domain))) spans span
          row inv.many c.in_ok-span.ensures.held inv.each);
    }
