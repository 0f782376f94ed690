-- The spans of the cursor, with the first that is taken, hold the seconds at which the group is open.
use Rattle.std.proofs.Common.{sym, subst, List}
use Rattle.std.specs.Prelude.{ℤ, pos, ◌*ℤ◌}
use Rattle.gtd_core.specs.Seconds.{Interval}
use Rattle.gtd_eval.specs.Cursors.{cursor_list}
use Rattle.gtd_spans.specs.Normal.{IsNormal, IsNormalFor}
use Rattle.gtd_spans.specs.facts.NormalFor.{normal-of}
use Rattle.gtd_ask.specs.Known.{IsGroupOpen}
use Rattle.gtd_ask.proofs.WalkFacts.{HoldFrom, taken_is}
use Rattle.gtd_ask.proofs.walk.open_walk.Goals as goal

hold : (set : ℤ → Type 0) (from until : ℤ) (xs : List Interval) → IsNormalFor set from until xs → HoldFrom set from until xs
hold set from until xs n = λ t le lt. ((λ h. (n.inside t h).2), (λ s. n.complete t (le, lt, s)))

pub returns : goal.returns
returns c =
    let set = IsGroupOpen c.args.found.now c.args.group in
    let list = cursor_list c.in_ok-cursor.cursor in
    let n = c.in_ok-cursor.ensures.seconds in
    let a = c.args.days.from_day *ℤ pos 86400 in
    let b = c.args.days.to_day *ℤ pos 86400 in
    let is = sym (taken_is list (cursor_list c.next-span.new.self) c.next-span.result c.next-span.ensures.takes) in
    record {
      walk = record {
        normal = subst IsNormal is (normal-of set a b list n);
        same = subst (HoldFrom set c.from.result.0 c.until.result.0) is
            (subst (λ (x : ℤ). HoldFrom set x c.until.result.0 list) (sym c.from.ensures.value)
            (subst (λ (y : ℤ). HoldFrom set a y list) (sym c.until.ensures.value) (hold set a b list n)));
      };
    }
