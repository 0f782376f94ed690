use Rattle.std.proofs.Common.{◌≡◌, ◌+◌, refl, ℕ, List, [], ◌∷◌, length, map, Option}
use Rattle.std.specs.Prelude.{Ok, Err, Result}
use Rattle.std.specs.Io.KnownBytes.{Appends}
use Rattle.gtd_records.specs.Closing.{Restriction}
use Rattle.gtd_report.specs.Putting.{Puts}
use Rattle.gtd_report.specs.declared.output.Progress.{Progress}
use Rattle.gtd_report.specs.declared.output.Stop.{Stop}
use Rattle.std.proofs.lemmas.Result.{err_from_is_err_and}
use Rattle.gtd_report.specs.facts.PutFacts.{one_put, one_short, puts_cut, puts_ended, puts_text, puts_then}
use Rattle.gtd_migrate.specs.Migrated.{header_line, migrated, row_line}
use Rattle.gtd_migrate.proofs.run.MigrationReport.put.Goals as goal

-- what was put of the rows comes after the header, which was put whole
put_after_header : (r : Result (Unit {0}) Stop) (a b d : Option (List ℕ)) (first next last : Progress) (found : List Restriction)
    → Appends a b header_line → next ≡ record { lines = first.lines + 1; written = first.written + length header_line }
    → Puts r b d next last (map row_line found)
    → Puts r a d first last (migrated found)
put_after_header r a b d first next last found all progress puts =
    puts_then r a b d first next last (header_line ∷ []) (map row_line found)
    (one_put header_line a b first next all progress) puts

pub returns-in_err-put_line-clause-puts : goal.returns-in_err-put_line-clause-puts
returns-in_err-put_line-clause-puts g c =
    let p = err_from_is_err_and c.from_residual.result c.from_residual.ensures.1 in
    let a = g.O.Output.taken c.args.output.now in
    let b = g.O.Output.taken c.put_line.new.output in
    let q = c.put_line.new.progress in
    let e = c.in_err-put_line.ensures in
    let found = c.args.found.now in
    rw (p.1)
    (puts_text (λ lines. lines ≡ migrated found) (Err p.0) a b c.args.printer.now.progress q (migrated found) refl (λ other is.
    is)
    (puts_cut p.0 a b c.args.printer.now.progress q (header_line ∷ []) (map row_line found)
    (one_short p.0 header_line c.in_err-put_line.field-0.0.taken a b c.args.printer.now.progress q e.some.0 e.some.1 e.progress)))

pub returns-in_err-put_rows-clause-puts : goal.returns-in_err-put_rows-clause-puts
returns-in_err-put_rows-clause-puts g c =
    let p = err_from_is_err_and c.from_residual-in_err-put_rows.result c.from_residual-in_err-put_rows.ensures.1 in
    let e = c.in_ok-put_line.ensures in
    rw (p.1) (puts_text (λ lines. lines ≡ migrated c.args.found.now) (Err p.0) _ _ c.args.printer.now.progress
    c.put_rows.new.printer.progress _ refl (λ other is. is)
    (put_after_header (Err p.0) _ _ _ c.args.printer.now.progress c.put_line.new.progress c.put_rows.new.printer.progress
    c.args.found.now e.all e.progress
    (rw c.rows.ensures.rows at c.in_err-put_rows.ensures.puts)))

pub returns-clause-puts : goal.returns-clause-puts
returns-clause-puts g c =
    let e = c.in_ok-put_line.ensures in
    let found = c.args.found.now in
    puts_text (λ lines. lines ≡ migrated found) c.finish.result _ _ _ _ (migrated found) refl (λ other is. is)
    (puts_ended c.finish.result _ (g.O.Output.taken c.put_rows.new.output) _ _ _ (migrated found)
    (put_after_header (Ok tt) _ _ _ c.args.printer.now.progress c.put_line.new.progress c.put_rows.new.printer.progress found
    e.all e.progress
    (rw c.rows.ensures.rows at c.in_ok-put_rows.ensures.puts)) c.finish.ensures.bytes)
