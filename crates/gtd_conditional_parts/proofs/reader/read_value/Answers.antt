-- Something does not fit, or else the parts are read.
use Rattle.std.proofs.Common.{refl, sym, subst, ℕ, List}
use Rattle.std.proofs.lemmas.Result.{IfErr-weaker, IfOk-weaker}
use Rattle.gtd_hours_options.specs.Readings.{how_read}
use Rattle.gtd_conditional_parts.specs.Parts.{AreParts}
use Rattle.gtd_conditional_parts.specs.Values.{IsBodyStop, IsValue, IsValueStop, nesting}
use Rattle.gtd_conditional_parts.proofs.ValueSteps.{value_stop}
use Rattle.gtd_conditional_parts.proofs.reader.read_value.Goals as goal

pub returns-in-Some-clause-fault : goal.returns-in-Some-clause-fault
returns-in-Some-clause-fault c = nesting c.in-Some.place (sym c.in-Some.ensures.first) refl

pub returns-in-None-clause-value : goal.returns-in-None-clause-value
returns-in-None-clause-value c =
    let rows = c.args.means.now.rows.items in
    IfOk-weaker c.read_body.result
    (λ read. AreParts c.args.subject (how_read c.args.reading) rows 0 c.body.result.now read.parts.items)
    (λ read. IsValue c.args.subject (how_read c.args.reading) rows c.args.value.now read)
    (λ read h. record {
      nests = sym c.in-None.ensures.first;
      parts =
          subst (λ (t : List ℕ). AreParts c.args.subject (how_read c.args.reading) rows 0 t read.parts.items) c.body.ensures h;
    }) c.read_body.ensures.value

pub returns-in-None-clause-fault : goal.returns-in-None-clause-fault
returns-in-None-clause-fault c =
    let rows = c.args.means.now.rows.items in
    IfErr-weaker c.read_body.result (λ why. IsBodyStop c.args.subject (how_read c.args.reading) rows c.body.result.now why)
    (λ why. IsValueStop c.args.subject (how_read c.args.reading) rows c.args.value.now why)
    (value_stop c.args.subject (how_read c.args.reading) rows c.args.value.now c.body.result.now (sym c.in-None.ensures.first)
    c.body.ensures)
    c.read_body.ensures.fault
