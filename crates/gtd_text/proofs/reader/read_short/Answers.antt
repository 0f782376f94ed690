-- What the tokens build they stand for, and a short text that builds few basic domains has no fault.
use Rattle.std.proofs.Common.{◌≤◌, Option, length, refl, sym, subst, arith}
use Rattle.std.specs.Prelude.{IfSome}
use Rattle.gtd_core.specs.Trees.{tree_of}
use Rattle.gtd_core.specs.declared.domain.Expr.{Expr}
use Rattle.gtd_text.specs.Reading.{StandsFor}
use Rattle.gtd_text.specs.ToCome.{Builds}
use Rattle.gtd_text.proofs.ReadLemmas.{builds_stand, short_faultless}
use Rattle.gtd_text.proofs.reader.read_short.Goals as goal

pub returns-in-Ok-clause-found : goal.returns-in-Ok-clause-found
returns-in-Ok-clause-found c =
    let text = c.args.text.now in
    let built : Builds text (tree_of c.in-Some.expr) =
    subst (λ (o : Option Expr). IfSome o (λ e. Builds text (tree_of e))) c.in-Some.is c.in_ok-expr.ensures.built in
    subst (λ (e : Expr). StandsFor text (tree_of e)) (sym c.in-Ok.ensures.kept)
    (builds_stand text (tree_of c.in-Some.expr) built)

pub returns-in-Ok-clause-faultless : goal.returns-in-Ok-clause-faultless
returns-in-Ok-clause-faultless c =
    let text = c.args.text.now in
    let built : Builds text (tree_of c.in-Some.expr) =
    subst (λ (o : Option Expr). IfSome o (λ e. Builds text (tree_of e))) c.in-Some.is c.in_ok-expr.ensures.built in
    let short : length text ≤ 128 = omega (arith, c.if-text-gt-MOST_SHORT.false) in
    short_faultless text (tree_of c.in-Some.expr) short built (c.leaves_are_valid.ensures.valid c.in-Some.expr)
    (c.in-Ok.ensures.accepted.0 refl)
