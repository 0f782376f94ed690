use Rattle.std.proofs.Common.{ap, arith, ◌≤◌, ◌+◌, ℕ, List, length, map, Option}
use Rattle.std.specs.Prelude.{Ok, Err, OnOk, Result}
use Rattle.std.proofs.lemmas.List.{length-map}
use Rattle.gtd_report.specs.Putting.{Puts, most_direction_bytes, most_direction_lines}
use Rattle.gtd_report.specs.declared.output.Progress.{Progress}
use Rattle.gtd_report.specs.declared.output.Stop.{Stop}
use Rattle.gtd_report.specs.facts.TextFacts.{texts_of}
use Rattle.gtd_changes.proofs.ChangeFacts.{few_both, few_normal, many_both}
use Rattle.gtd_changes.proofs.FormFacts.{lines_with, one_in}
use Rattle.gtd_changes.specs.Changes.{WasClosed, WasOpened}
use Rattle.gtd_changes.specs.Forms.{AreLinesIn, form_with}
use Rattle.gtd_changes.specs.Merging.{by_from}
use Rattle.gtd_changes.specs.declared.change.Change.{Change}
use Rattle.gtd_changes.specs.facts.RowsFacts.{line_with}
use Rattle.gtd_changes.specs.facts.ToldFacts.{normal_told}
use Rattle.gtd_changes.proofs.put.put_changed_spans.Goals as goal

-- what was put of so few changes
near : (r : Result (Unit {0}) Stop) (a b : Option (List ℕ)) (p q : Progress) (f : Change → List ℕ) (changes : List Change)
    → length changes ≤ most_direction_lines → Puts r a b p q (map f changes)
    → OnOk r (q.written ≤ p.written + most_direction_bytes)
    → OnOk r ((q.written ≤ p.written + most_direction_bytes) × (q.lines ≤ p.lines + most_direction_lines))
near (Ok x) a b p q f changes few puts written =
    let l = ap (λ (t : Progress). t.lines) puts.1 in
    let same = length-map changes f in
    (written, omega arith)
near (Err x) a b p q f changes few puts written = tt

pub put_changed-requires-clause-opened : goal.put_changed-requires-clause-opened
put_changed-requires-clause-opened g c =
    let p = c.args.place.now in
    normal_told (WasOpened p.old.now p.new.now p.at.element p.at.direction p.vehicle) p.horizon
    (g.A.SpanSource.rest c.args.opened.now) c.requires.opened

pub put_changed-requires-clause-closed : goal.put_changed-requires-clause-closed
put_changed-requires-clause-closed g c =
    let p = c.args.place.now in
    normal_told (WasClosed p.old.now p.new.now p.at.element p.at.direction p.vehicle) p.horizon
    (g.B.SpanSource.rest c.args.closed.now) c.requires.closed

pub put_changed-requires-clause-few : goal.put_changed-requires-clause-few
put_changed-requires-clause-few g c =
    let p = c.args.place.now in
    let few = few_both (length (g.A.SpanSource.rest c.args.opened.now)) (length (g.B.SpanSource.rest c.args.closed.now))
    (few_normal (WasOpened p.old.now p.new.now p.at.element p.at.direction p.vehicle) p.horizon
    (g.A.SpanSource.rest c.args.opened.now) c.requires.opened)
    (few_normal (WasClosed p.old.now p.new.now p.at.element p.at.direction p.vehicle) p.horizon
    (g.B.SpanSource.rest c.args.closed.now) c.requires.closed) in
    omega (arith, few)

pub put_changed-requires-clause-lines : goal.put_changed-requires-clause-lines
put_changed-requires-clause-lines g c =
    let p = c.args.place.now in
    let few = few_both (length (g.A.SpanSource.rest c.args.opened.now)) (length (g.B.SpanSource.rest c.args.closed.now))
    (few_normal (WasOpened p.old.now p.new.now p.at.element p.at.direction p.vehicle) p.horizon
    (g.A.SpanSource.rest c.args.opened.now) c.requires.opened)
    (few_normal (WasClosed p.old.now p.new.now p.at.element p.at.direction p.vehicle) p.horizon
    (g.B.SpanSource.rest c.args.closed.now) c.requires.closed) in
    let room = c.requires.lines in
    omega arith

pub returns-clause-puts : goal.returns-clause-puts
returns-clause-puts g c =
    let p = c.args.place.now in
    let taken = g.O.Output.taken in
    let opened = g.A.SpanSource.rest c.args.opened.now in
    let closed = g.B.SpanSource.rest c.args.closed.now in
    texts_of (AreLinesIn (form_with c.args.with_rows) p.old.now p.new.now p.vehicle p.horizon p.at.element p.at.direction)
    c.put_changed.result
    (taken c.args.output.now) (taken c.put_changed.new.output) c.args.printer.now.progress c.put_changed.new.printer.progress
    (map (line_with p.old.now p.new.now p.vehicle p.at.element p.at.direction c.args.with_rows) (by_from opened closed))
    (one_in p.old.now p.new.now p.vehicle p.horizon (form_with c.args.with_rows) p.at.element p.at.direction)
    (lines_with p.old.now p.new.now p.vehicle p.horizon p.at.element p.at.direction c.args.with_rows opened closed
    c.requires.opened c.requires.closed)
    c.put_changed.ensures.puts

pub returns-clause-near : goal.returns-clause-near
returns-clause-near g c =
    let p = c.args.place.now in
    let taken = g.O.Output.taken in
    let opened = g.A.SpanSource.rest c.args.opened.now in
    let closed = g.B.SpanSource.rest c.args.closed.now in
    let few = few_both (length opened) (length closed)
    (few_normal (WasOpened p.old.now p.new.now p.at.element p.at.direction p.vehicle) p.horizon opened c.requires.opened)
    (few_normal (WasClosed p.old.now p.new.now p.at.element p.at.direction p.vehicle) p.horizon closed c.requires.closed) in
    let many = many_both opened closed in
    near c.put_changed.result (taken c.args.output.now) (taken c.put_changed.new.output) c.args.printer.now.progress
    c.put_changed.new.printer.progress (line_with p.old.now p.new.now p.vehicle p.at.element p.at.direction c.args.with_rows)
    (by_from opened closed) (omega (arith, few, many)) c.put_changed.ensures.puts c.put_changed.ensures.near
