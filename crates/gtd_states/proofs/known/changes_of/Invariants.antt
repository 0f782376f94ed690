use Rattle.std.proofs.Common.{◌≡◌, ◌<◌, ℕ, length}
use Rattle.gtd_alike.specs.Alike.{asked_at}
use Rattle.gtd_states.specs.Known.{AreRight, known_at}
use Rattle.gtd_states.proofs.known.changes_of.Given as goal

-- those of the elements so far
abbrev pub invariant-loop-place : goal.invariant-loop-place
invariant-loop-place l = record {
  many : length l.known.items ≡ l.place;
  right : AreRight l.found l.vehicle l.second.0 l.known.items;
  each : (k : ℕ) → k < length l.known.items → (known_at l.known.items k).at ≡ asked_at l.asked k;
}
