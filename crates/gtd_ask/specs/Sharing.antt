-- States that are held, and a walk under way.
use Rattle.std.specs.Prelude.{List}
use Rattle.std.specs.List.{All}
use Rattle.gtd_records.specs.Closing.{Restriction}
use Rattle.gtd_ask.specs.Known.{IsHeld}
use Rattle.gtd_ask.specs.Walks.{IsWalk}
use Rattle.gtd_ask.specs.declared.shared.Sharing.{Sharing}

pub record IsSharing (found : List Restriction) (s : Sharing) : Type 0 where
  pub held : All (IsHeld found) s.held.items
  pub walk : IsWalk found s.walk
