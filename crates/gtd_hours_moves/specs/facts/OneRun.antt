-- Tokens run in full give one list of pieces.
use Rattle.std.proofs.Common.{◌≡◌, Bool, true, List, [], Some, None, sym, ap, subst, ◌∙◌}
use Rattle.gtd_hours_moves.specs.Terms.{TokenKind, Piece, Place, Move}
use Rattle.gtd_hours_moves.specs.Grammar.{in_full}
use Rattle.gtd_hours_moves.specs.Moves.{next_move}
use Rattle.gtd_hours_moves.specs.Runs.{Runs, first, left, with_piece, is_after}
use Rattle.gtd_hours_moves.specs.Runs.Runs.{ends, cut, any_last, step}
use Rattle.gtd_hours_moves.specs.facts.RunSteps.{after_end, same_move}

no_step : (at : Place) (ts : List TokenKind) (fits : Bool) (move : Move) → is_after at ≡ true → ts ≡ []
    → next_move at (first ts) fits ≡ Some move → ⊥
no_step at ts fits move after e m =
    let both : Some move ≡ None =
    sym m ∙ ap (λ (l : List TokenKind). next_move at (first l) fits) e ∙ after_end at fits after in
    cc

pub one_run : (at : Place) (p q : List Piece) (ts : List TokenKind) → Runs in_full at p ts → Runs in_full at q ts → p ≡ q
one_run at p q ts (ends at' p' ts' after e f) (ends bt q' us after' g h) = e ∙ sym g
one_run at p q ts (ends at' p' ts' after e f) (step bt q' q2 us move fits is m g go) =
    absurd (no_step at ts fits move after f m)
one_run at p q ts (step bt q' q2 us move fits is m g go) (ends at' p' ts' after e f) =
    absurd (no_step at ts fits move after f m)
one_run at p q ts (step at' p' p2 ts' move a is m e go) (step bt q' q2 us other b k n g run) =
    let same = same_move at (first ts) a b move other is k m n in
    let rest : p2 ≡ q2 = one_run move.to p2 q2 (left move.takes ts) go
    (subst (λ (w : Move). Runs in_full w.to q2 (left w.takes ts)) same run) in
    e ∙ ap (with_piece move.piece) rest ∙ ap (λ (w : Move). with_piece w.piece q2) (sym same) ∙ sym g
one_run at p q ts (cut at' p' ts' may is e f) other = absurd cc
one_run at p q ts (any_last at' p' ts' l by day e f) other = absurd cc
one_run at p q ts other (cut at' p' ts' may is e f) = absurd cc
one_run at p q ts other (any_last at' p' ts' l by day e f) = absurd cc
