-- Each piece that is read is also built, so the hours are those of the text; `NoMemory` means that it has no fault.
use Rattle.std.proofs.Common.{[], ◌∷◌, ◌++◌, ◌≡◌, IfSome, List, Option, Some, Ok, ℕ, ap, subst}
use Rattle.gtd_hours_parts.specs.SoundPieces.{IsPiece}
use Rattle.gtd_hours_parts.specs.Values.{IsPartOf}
use Rattle.gtd_hours_parts.specs.declared.part.Part.{Part}
use Rattle.gtd_hours_parts.specs.declared.piece.Piece.{Piece}
use Rattle.gtd_hours_grammar.specs.Steps.{IsReading}
use Rattle.gtd_hours_grammar.specs.declared.reading.Reading.{Reading}
use Rattle.gtd_hours_text.proofs.reader.build.Goals as goal

abbrev Behind : List ℕ → List Piece → Part → Reading → Type 0
Behind text given x r = (y : Piece) × IsPiece y × IsPartOf x y × IsReading text r (given ++ y ∷ [])

behind : (text : List ℕ) (given : List Piece) (next : Option (Part × Reading)) (x : Part) (r : Reading) → next ≡ Some (x, r)
    → IfSome next (λ o. Behind text given o.0 o.1) → Behind text given x r
behind text given next x r e h =
    subst (λ (o : Option (Part × Reading)). IfSome o (λ y. Behind text given y.0 y.1)) e h

pub with_behind-requires : goal.with_behind-requires
with_behind-requires c =
    let given = c.loop-so_far.invariant.given in
    let here = behind c.args.text.now given c.in_ok-part.field-0 c.in-Some.part c.in-Some.next c.in-Some.is
    (c.in_ok-part.ensures.piece given c.loop-so_far.invariant.read) in
    record { stands = (given ++ here.0 ∷ [], here.3) }

pub loop-so_far-preserved : goal.loop-so_far-preserved
loop-so_far-preserved c =
    let given = c.loop-so_far.invariant.given in
    let here = behind c.args.text.now given c.in_ok-part.field-0 c.in-Some.part c.in-Some.next c.in-Some.is
    (c.in_ok-part.ensures.piece given c.loop-so_far.invariant.read) in
    record {
      given = given ++ here.0 ∷ [];
      read = here.3;
      built = c.in_ok-so_far.ensures.built here.0 here.2 given c.loop-so_far.invariant.built;
    }

pub returns-in-Ok-clause-hours : goal.returns-in-Ok-clause-hours
returns-in-Ok-clause-hours c =
    let inv = c.loop-so_far.invariant in
    record {
      p = inv.given;
      is = c.in_ok-part.ensures.all inv.given inv.read (ap (λ (o : Option (Part × Reading)). Ok o) c.in_default.is);
      rules = c.in-Ok.ensures inv.given inv.built;
    }

pub returns-in-Err-clause-fault : goal.returns-in-Err-clause-fault
returns-in-Err-clause-fault c =
    let inv = c.loop-so_far.invariant in (
      inv.given,
      c.in_ok-part.ensures.all inv.given inv.read (ap (λ (o : Option (Part × Reading)). Ok o) c.in_default.is),
    )
