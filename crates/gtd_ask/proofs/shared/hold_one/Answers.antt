-- One more state that is right is held.
use Rattle.std.proofs.lemmas.List.Elements.{All-push}
use Rattle.gtd_ask.specs.Known.{IsHeld}
use Rattle.gtd_ask.proofs.shared.hold_one.Goals as goal

pub returns : goal.returns
returns c =
    let now = c.in_ok-held.ensures.sharing in
    record {
      sharing = record {
        held = rw c.in_ok-push.ensures.items (All-push (IsHeld c.args.found.now) c.held_for.new.sharing.held.items
            c.in_ok-held.held now.held c.in_ok-held.ensures.held);
        walk = now.walk;
      };
    }
