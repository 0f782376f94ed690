-- The header is put, then the rows, then the output is ended; where putting stops, the output has the first part of it.
use Rattle.std.proofs.lemmas.Result.{err_from_is_err_and}
use Rattle.gtd_report.specs.facts.PutFacts.{one_put, one_short}
use Rattle.gtd_migrate.specs.Migrated.{header_line}
use Rattle.gtd_conditional_file.proofs.PutFacts.{put_ended, stopped_after, stopped_first}
use Rattle.gtd_conditional_file.proofs.putting.put_records.Goals as goal

pub returns-in_err-put_line-clause-puts : goal.returns-in_err-put_line-clause-puts
returns-in_err-put_line-clause-puts g c =
    let p = err_from_is_err_and c.from_residual.result c.from_residual.ensures.1 in
    let a = g.O.Output.taken c.args.output.now in
    let b = g.O.Output.taken c.put_line.new.output in
    let q = c.put_line.new.progress in
    let e = c.in_err-put_line.ensures in
    rw (p.1)
    (stopped_first p.0 a b c.args.progress.now q c.args.rows.now
    (one_short p.0 header_line c.in_err-put_line.field-0.0.taken a b c.args.progress.now q e.some.0 e.some.1 e.progress))

pub returns-in_err-put_rows-clause-puts : goal.returns-in_err-put_rows-clause-puts
returns-in_err-put_rows-clause-puts g c =
    let p = err_from_is_err_and c.from_residual-in_err-put_rows.result c.from_residual-in_err-put_rows.ensures.1 in
    let a = g.O.Output.taken c.args.output.now in
    let b = g.O.Output.taken c.put_line.new.output in
    let d = g.O.Output.taken c.put_rows.new.output in
    let q = c.put_line.new.progress in
    let e = c.in_ok-put_line.ensures in
    rw (p.1)
    (stopped_after p.0 a b d c.args.progress.now q c.put_rows.new.progress c.args.rows.now
    (one_put header_line a b c.args.progress.now q e.all e.progress) c.in_err-put_rows.ensures.puts)

pub returns-clause-puts : goal.returns-clause-puts
returns-clause-puts g c =
    let a = g.O.Output.taken c.args.output.now in
    let b = g.O.Output.taken c.put_line.new.output in
    let d = g.O.Output.taken c.put_rows.new.output in
    let f = g.O.Output.taken c.finish.new.output in
    let q = c.put_line.new.progress in
    let e = c.in_ok-put_line.ensures in
    put_ended c.finish.result a b d f c.args.progress.now q c.put_rows.new.progress c.args.rows.now
    (one_put header_line a b c.args.progress.now q e.all e.progress) c.in_ok-put_rows.ensures.puts c.finish.ensures.bytes
