-- The later state goes on with the earlier one: it is of the same group, and the two leave no second between them.
use Rattle.std.proofs.Common.{subst, Bool}
use Rattle.gtd_ask.specs.Known.{IsGroupOpen, group_held}
use Rattle.gtd_ask.specs.declared.asked.Group.{Group}
use Rattle.gtd_ask.proofs.HeldFacts.{HoldsFrom, both}
use Rattle.gtd_ask.proofs.held.joined.Goals as goal

pub returns : goal.returns
returns c = record {
  held = λ found one other.
      let e = c.args.earlier in
      let l = c.args.later in
      let yes_on = c.if-not-goes_on.false in
      record {
        same = both (IsGroupOpen found (group_held l)) l.is_open e.from.0 l.from.0 e.until.0 l.until.0
            (subst (λ (g : Group). HoldsFrom (IsGroupOpen found g) l.is_open e.from.0 e.until.0) (c.goes_on.ensures.group yes_on)
            (subst (λ (b : Bool). HoldsFrom (IsGroupOpen found (group_held e)) b e.from.0 e.until.0)
            (c.goes_on.ensures.open yes_on) one.same))
            other.same (c.goes_on.ensures.meet yes_on);
        turns = other.turns;
      };
}
