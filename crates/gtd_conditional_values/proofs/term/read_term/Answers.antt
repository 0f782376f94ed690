-- Where memory was refused nothing is said of the term.
use Rattle.std.proofs.Common.{◌≡◌, ◌∙◌, ap, sym, subst}
use Rattle.std.specs.Prelude.{Result, Err}
use Rattle.std.proofs.lemmas.Result.{err_from_is_err_and}
use Rattle.gtd_hours_options.specs.Readings.{how_read}
use Rattle.gtd_conditional_values.specs.ReadTerms.{IsTerm}
use Rattle.gtd_conditional_values.specs.declared.term.Term.{Term}
use Rattle.gtd_conditional_values.specs.declared.term.UnreadTerm.{UnreadTerm}
use Rattle.gtd_conditional_values.specs.declared.term.UnreadTerm.TheVariants.{NoMemory}
use Rattle.gtd_conditional_values.proofs.TermFacts.{no_term}
use Rattle.gtd_conditional_values.proofs.term.read_term.Goals as goal

pub returns-in_err-name : goal.returns-in_err-name
returns-in_err-name c =
    let p = err_from_is_err_and c.from_residual.result c.from_residual.ensures.1 in
    let is : c.from_residual.result ≡ Err NoMemory = p.1 ∙ ap (λ (why : UnreadTerm). Err why) p.2 in
    record {
      term =
          subst (λ (answer : Result Term UnreadTerm).
          IsTerm (how_read c.args.reading) c.args.means.now.rows.items c.args.place c.args.term.now answer)
          (sym is) (no_term (how_read c.args.reading) c.args.means.now.rows.items c.args.place c.args.term.now);
    }
