-- Each part that is read leaves fewer moves, so reading ends, with the pieces of the text or its first fault.
use Rattle.std.proofs.Common.{[], ◌∷◌, ◌++◌, ◌≡◌, ◌<◌, IfSome, Ok, List, Option, Some, ap, ℕ, subst}
use Rattle.gtd_hours_parts.specs.declared.piece.Piece.{Piece}
use Rattle.gtd_hours_parts.specs.declared.part.Part.{Part}
use Rattle.gtd_hours_parts.specs.SoundPieces.{IsPiece}
use Rattle.gtd_hours_parts.specs.Values.{IsPartOf}
use Rattle.gtd_hours_grammar.specs.declared.reading.Reading.{Reading}
use Rattle.gtd_hours_grammar.specs.Steps.{IsReading, moves_left}
use Rattle.gtd_hours_grammar.proofs.check.check_behind.Goals as goal

abbrev ReadsOn : List ℕ → List Piece → Option (Part × Reading) → Type 0
ReadsOn text given next = IfSome next (λ x.
    (y : Piece) × IsPiece y × IsPartOf x.0 y × IsReading text x.1 (given ++ y ∷ []))

reads_on : (text : List ℕ) (given : List Piece) (next : Option (Part × Reading)) (x : Part) (r : Reading)
    → next ≡ Some (x, r) → ReadsOn text given next → (q : List Piece) × IsReading text r q
reads_on text given next x r e h =
    let here = subst (λ (o : Option (Part × Reading)). ReadsOn text given o) e h in (given ++ here.0 ∷ [], here.3)

fewer_left : (text : List ℕ) (before : Reading) (next : Option (Part × Reading)) (x : Part) (r : Reading)
    → next ≡ Some (x, r) → IfSome next (λ y. moves_left text y.1 < moves_left text before)
    → moves_left text r < moves_left text before
fewer_left text before next x r e h =
    subst (λ (o : Option (Part × Reading)). IfSome o (λ y. moves_left text y.1 < moves_left text before)) e h

pub next_part-requires : goal.next_part-requires
next_part-requires c = record { stands = c.loop-next.invariant }

pub loop-next-smaller : goal.loop-next-smaller
loop-next-smaller c = fewer_left c.args.text.now c.loop-next.reading c.in_ok-next.field-0 c.in-Some.field-0-0 c.in-Some.next
    c.in-Some.is c.in_ok-next.ensures.nearer

pub loop-next-preserved : goal.loop-next-preserved
loop-next-preserved c =
    let given = c.loop-next.invariant.0 in
    reads_on c.args.text.now given c.in_ok-next.field-0 c.in-Some.field-0-0 c.in-Some.next c.in-Some.is
    (c.in_ok-next.ensures.piece given c.loop-next.invariant.1)

pub returns-clause-hours : goal.returns-clause-hours
returns-clause-hours c =
    let given = c.loop-next.invariant.0 in (
      given,
      c.in_ok-next.ensures.all given c.loop-next.invariant.1
          (ap (λ (o : Option (Part × Reading)). Ok o) c.in_default.is),
    )
