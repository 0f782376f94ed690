-- Nothing is put of what is not asked about; otherwise the output takes the entry, or a first part of it.
use Rattle.std.proofs.Common.{◌∙◌, ap, refl, sym, true≢false, arith, [], ◌∷◌, length}
use Rattle.std.specs.Prelude.{Err}
use Rattle.std.proofs.lemmas.Result.{err_from_is_err_and}
use Rattle.gtd_report.specs.facts.PutFacts.{one_put, one_short, puts_none, puts_nothing}
use Rattle.gtd_report.specs.facts.TextFacts.{texts_of}
use Rattle.gtd_now.proofs.NowFacts.{one_entries}
use Rattle.gtd_now.specs.Now.{AreEntries}
use Rattle.gtd_now.specs.Query.{query_of}
use Rattle.gtd_now.proofs.now.put_state.Goals as goal

pub returns-in_err-write_entry-clause-puts : goal.returns-in_err-write_entry-clause-puts
returns-in_err-write_entry-clause-puts g c =
    let p = err_from_is_err_and c.from_residual.result c.from_residual.ensures.1 in
    rw (p.1) (λ lines are. puts_nothing p.0 (g.O.Output.taken c.args.output.now) c.args.printer.now.progress lines)

pub returns-then-not-is_shown-clause-puts : goal.returns-then-not-is_shown-clause-puts
returns-then-not-is_shown-clause-puts g c = (
  [],
  AreEntries.hidden (λ shows. true≢false (sym (c.is_shown.ensures.1 shows) ∙ c.if-not-is_shown.true)) refl,
  puts_none (g.O.Output.taken c.args.output.now) c.args.printer.now.progress,
)

pub put_line-requires-clause-written : goal.put_line-requires-clause-written
put_line-requires-clause-written g c =
    let long = ap length c.as_slice.ensures.value in
    let short = c.in_ok-write_entry.ensures.short in
    let room = c.requires.written in
    omega (arith, long, short, room)

pub returns-in_err-put_line-clause-puts : goal.returns-in_err-put_line-clause-puts
returns-in_err-put_line-clause-puts g c =
    let p = err_from_is_err_and c.from_residual-in_err-put_line.result c.from_residual-in_err-put_line.ensures.1 in
    let a = g.O.Output.taken c.args.output.now in
    let b = g.O.Output.taken c.put_line.new.output in
    let line = c.as_slice.result.now in
    let e = c.in_err-put_line.ensures in
    rw (p.1) (texts_of (AreEntries c.args.view.now.lines.now c.args.view.now.found.now (query_of c.args.view.now.asked)
    c.args.at.element c.args.at.direction)
    (Err p.0) a b c.args.printer.now.progress c.put_line.new.progress
    (line ∷ []) (one_entries c.args.view.now.lines.now c.args.view.now.found.now (query_of c.args.view.now.asked)
    c.args.at.element c.args.at.direction)
    (AreEntries.shown (c.is_shown.ensures.0 c.if-not-is_shown.false) line
    (rw (c.as_slice.ensures.value) (c.in_ok-write_entry.ensures.entry)) refl)
    (one_short p.0 line c.in_err-put_line.field-0.0.taken a b c.args.printer.now.progress c.put_line.new.progress e.some.0
    e.some.1 e.progress))

pub returns-clause-puts : goal.returns-clause-puts
returns-clause-puts g c =
    let a = g.O.Output.taken c.args.output.now in
    let b = g.O.Output.taken c.put_line.new.output in
    let line = c.as_slice.result.now in
    let e = c.in_ok-put_line.ensures in (
      line ∷ [],
      AreEntries.shown (c.is_shown.ensures.0 c.if-not-is_shown.false) line
          (rw (c.as_slice.ensures.value) (c.in_ok-write_entry.ensures.entry)) refl,
      one_put line a b c.args.printer.now.progress c.put_line.new.progress e.all e.progress,
    )

pub returns-clause-near : goal.returns-clause-near
returns-clause-near g c =
    let long = ap length c.as_slice.ensures.value in
    let short = c.in_ok-write_entry.ensures.short in
    let after = c.in_ok-put_line.ensures.progress in
    rw after (omega (arith, long, short), omega arith)
