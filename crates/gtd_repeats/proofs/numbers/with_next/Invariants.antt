use Rattle.std.proofs.Common.{◌≡◌, ◌<◌, ◌-◌}
use Rattle.gtd_eval.specs.Cursors.{cursor_list}
use Rattle.gtd_repeats.specs.Numbers.{with_first}
use Rattle.gtd_repeats.proofs.numbers.with_next.Given as goal

-- with the spans that are left, the number is that with all of them
abbrev pub invariant-loop : goal.invariant-loop
invariant-loop l = record {
  small : l.joined < 4294967291;
  value : with_first l.fn.count l.fn.number (cursor_list l.fn.cursor)
      ≡ with_first (l.fn.count - l.counter) l.joined (cursor_list l.cursor);
}
