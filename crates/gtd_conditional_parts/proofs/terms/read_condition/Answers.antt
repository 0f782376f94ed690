-- The terms stand in parentheses or not.
use Rattle.std.proofs.Common.{◌∙◌, ap, subst, arith, ℕ, List, Option, IfErr, IfOk, length}
use Rattle.gtd_conditional_values.specs.Pieces.{enclosed}
use Rattle.gtd_hours_options.specs.Readings.{how_read}
use Rattle.gtd_conditional_parts.specs.Conditions.{AreTermsIn, IsTermsStopIn}
use Rattle.gtd_conditional_parts.proofs.PieceFacts.{trimmed_fits}
use Rattle.gtd_conditional_parts.proofs.terms.read_condition.Goals as goal

pub read_terms-requires : goal.read_terms-requires
read_terms-requires c =
    let short = trimmed_fits c.args.text.now (rw c.front_spaces.ensures.count at c.front_spaces.ensures.within) in
    record {
      fits = omega (arith, short, ap length c.trimmed.ensures.text, c.in-Some.ensures.shorter, c.front_spaces.ensures.count);
    }

pub returns-in-Some-clause-terms : goal.returns-in-Some-clause-terms
returns-in-Some-clause-terms c =
    subst
    (λ (o : Option (List ℕ)). IfOk c.read_terms.result
    (λ terms. AreTermsIn (how_read c.args.reading) c.args.means.now.rows.items o c.args.place c.args.text.now terms.items))
    (c.in-Some.ensures.inside ∙ ap enclosed c.trimmed.ensures.text)
    (rw c.front_spaces.ensures.count at c.read_terms.ensures.terms)

pub returns-in-Some-clause-fault : goal.returns-in-Some-clause-fault
returns-in-Some-clause-fault c =
    subst
    (λ (o : Option (List ℕ)). IfErr c.read_terms.result
    (λ why. IsTermsStopIn (how_read c.args.reading) c.args.means.now.rows.items o c.args.place c.args.text.now why))
    (c.in-Some.ensures.inside ∙ ap enclosed c.trimmed.ensures.text)
    (rw c.front_spaces.ensures.count at c.read_terms.ensures.fault)

pub returns-in-None-clause-terms : goal.returns-in-None-clause-terms
returns-in-None-clause-terms c =
    subst
    (λ (o : Option (List ℕ)). IfOk c.read_terms-in-None.result
    (λ terms. AreTermsIn (how_read c.args.reading) c.args.means.now.rows.items o c.args.place c.args.text.now terms.items))
    (c.in-None.ensures.inside ∙ ap enclosed c.trimmed.ensures.text) c.read_terms-in-None.ensures.terms

pub returns-in-None-clause-fault : goal.returns-in-None-clause-fault
returns-in-None-clause-fault c =
    subst
    (λ (o : Option (List ℕ)). IfErr c.read_terms-in-None.result
    (λ why. IsTermsStopIn (how_read c.args.reading) c.args.means.now.rows.items o c.args.place c.args.text.now why))
    (c.in-None.ensures.inside ∙ ap enclosed c.trimmed.ensures.text) c.read_terms-in-None.ensures.fault
