-- The number of the first spans is that of the one that was taken, with those after it.
use Rattle.std.proofs.Common.{◌∙◌, ap, ℕ}
use Rattle.std.specs.Prelude.{Some}
use Rattle.gtd_eval.specs.Cursors.{cursor_list}
use Rattle.gtd_repeats.specs.Numbers.{with_first}
use Rattle.gtd_repeats.proofs.numbers.number_in.Goals as goal

pub returns-in-Some : goal.returns-in-Some
returns-in-Some c = record {
  number = (
    cursor_list c.in_ok-cursor.cursor,
    c.in_ok-cursor.ensures.normal,
    rw c.in-Some.ensures.takes (ap (λ (n : ℕ). Some n) (c.with_next.ensures.value
        ∙ ap (λ (n : ℕ). with_first 511 n (cursor_list c.next.new.self)) c.with_span.ensures.value)),
  );
}
