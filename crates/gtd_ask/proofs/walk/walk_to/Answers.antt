-- A span that ends by the second is passed: the next one is taken.
use Rattle.std.proofs.Common.{sym, subst, arith, ap, ◌∷◌, Option}
use Rattle.std.specs.Prelude.{◌≤ℤ◌}
use Rattle.std.proofs.lemmas.Int.{ints}
use Rattle.gtd_core.specs.Seconds.{Interval}
use Rattle.gtd_core.specs.declared.second.Sec.{Sec}
use Rattle.gtd_eval.specs.Cursors.{cursor_list}
use Rattle.gtd_spans.specs.Normal.{IsNormal}
use Rattle.gtd_ask.specs.Known.{IsGroupOpen}
use Rattle.gtd_ask.specs.Walks.{with_taken}
use Rattle.gtd_ask.proofs.WalkFacts.{HoldFrom, passed, taken_is}
use Rattle.gtd_ask.proofs.walk.walk_to.Goals as goal

pub loop-preserved : goal.loop-preserved
loop-preserved c =
    let w = c.loop.walk in
    let inv = c.loop.invariant in
    let x = c.in-Some.span in
    let rest = cursor_list w.cursor in
    let after = cursor_list c.next-walk.new.self in
    let set = IsGroupOpen c.args._found.now w.group in
    let normal : IsNormal (x ∷ rest) = subst (λ (o : Option Interval). IsNormal (with_taken o rest)) c.in-Some.is
    inv.walk.normal in
    let same : HoldFrom set w.at.0 w.end.0 (x ∷ rest) =
    subst (λ (o : Option Interval). HoldFrom set w.at.0 w.end.0 (with_taken o rest)) c.in-Some.is inv.walk.same in
    let at = ap (λ (s : Sec). s.0) inv.at in
    let value = c.until.ensures.value in
    let past = c.if-second-until.false in
    let ended : x.until ≤ℤ w.at.0 = omega (arith, ints, at, value, past) in
    let is = sym (taken_is rest after c.next-walk.result c.next-walk.ensures.takes) in
    record {
      walk = record {
        normal = subst IsNormal is normal.2;
        same = subst (HoldFrom set w.at.0 w.end.0) is (passed set w.at.0 w.end.0 x rest normal same ended);
      };
      at = inv.at;
    }
