-- Nothing is held, and a walk over no days says nothing.
use Rattle.std.proofs.Common.{◌≡◌, sym, subst, List, []}
use Rattle.std.proofs.lemmas.List.Elements.{All-nil}
use Rattle.std.specs.List.{All}
use Rattle.gtd_ask.specs.Known.{IsHeld}
use Rattle.gtd_ask.specs.declared.held.Held.{Held}
use Rattle.gtd_ask.proofs.shared.no_sharing.Goals as goal

none : (P : Held → Type 0) (xs : List Held) → xs ≡ [] → All P xs
none P xs e = subst (λ (l : List Held). All P l) (sym e) (All-nil P)

pub returns : goal.returns
returns c = record {
  sharing = λ found. record {
    held = none (IsHeld found) c.new-held.result.items c.new-held.ensures.items;
    walk = c.no_walk-walk.ensures.walk found;
  };
}
