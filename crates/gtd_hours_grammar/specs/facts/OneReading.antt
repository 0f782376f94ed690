-- A text is opening hours in one way at most.
use Rattle.std.proofs.Common.{◌≡◌, ℕ, List, length, subst}
use Rattle.gtd_hours_tokens.specs.facts.WholeText.{one_list}
use Rattle.gtd_hours_tokens.specs.declared.token.Token.{Token}
use Rattle.gtd_hours_parts.specs.declared.piece.Piece.{Piece}
use Rattle.gtd_hours_moves.specs.declared.place.Place.TheVariants as places
use Rattle.gtd_hours_moves.specs.Grammar.{AreHours, in_full}
use Rattle.gtd_hours_grammar.specs.Faults.{IsHoursText, kinds}
use Rattle.gtd_hours_moves.specs.facts.FollowRuns.{follow_runs}
use Rattle.gtd_hours_moves.specs.facts.OneRun.{one_run}

pub one_reading : (text : List ℕ) (p q : List Piece) → IsHoursText text p → IsHoursText text q → p ≡ q
one_reading text p q h k =
    let same = one_list text 0 k.tokens h.tokens (length text) k.are h.are in
    let other = subst (λ (l : List Token). AreHours q (kinds l)) same k.hours in
    one_run places.Front p q (kinds h.tokens) (follow_runs in_full p (kinds h.tokens) h.hours)
    (follow_runs in_full q (kinds h.tokens) other)
