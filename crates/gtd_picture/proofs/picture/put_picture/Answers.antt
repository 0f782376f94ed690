-- Head, days and foot put in a row are the picture; where one of them is cut short, so is the picture.
use Rattle.std.proofs.Common.{ap, refl, arith, ◌≤◌, ◌+◌, List, [], ◌∷◌}
use Rattle.std.specs.Prelude.{Ok, Err, pos}
use Rattle.std.proofs.lemmas.Result.{err_from_is_err_and}
use Rattle.gtd_calendar.specs.Calendar.{first_day, year_length}
use Rattle.gtd_calendar.specs.facts.YearDays.{year_length-few}
use Rattle.gtd_core.specs.Seconds.{Interval}
use Rattle.gtd_report.specs.facts.PutFacts.{puts_cut, puts_then}
use Rattle.gtd_report.specs.Putting.{Puts}
use Rattle.gtd_report.specs.declared.output.Progress.{Progress}
use Rattle.gtd_picture.specs.Picture.{day_lines, foot_text, head_text}
use Rattle.gtd_picture.proofs.PictureFacts.{columns_are, cut_head, put_picture}
use Rattle.gtd_picture.proofs.TextFacts.{days_short}
use Rattle.gtd_spans.specs.Normal.{Holds}
use Rattle.gtd_picture.proofs.picture.put_picture.Goals as goal

pub returns-in_err-put_head-clause-puts : goal.returns-in_err-put_head-clause-puts
returns-in_err-put_head-clause-puts g c =
    let taken = g.O.Output.taken in
    let r = err_from_is_err_and c.from_residual.result c.from_residual.ensures.1 in
    rw (r.1) (cut_head (Holds (g.S.SpanSource.rest c.args.seconds)) c.args.caption.now.title.now c.args.caption.now.inside.now
    c.args.caption.now.outside.now c.args.caption.now.year r.0
    (taken c.args.output.now) (taken c.put_head.new.output) c.args.printer.now.progress c.put_head.new.printer.progress
    c.in_err-put_head.ensures.puts)

pub returns-in_err-put_year-clause-puts : goal.returns-in_err-put_year-clause-puts
returns-in_err-put_year-clause-puts g c =
    let y = pos c.args.caption.now.year in
    let xs : List Interval = g.S.SpanSource.rest c.args.seconds in
    let title = c.args.caption.now.title.now in
    let inside = c.args.caption.now.inside.now in
    let outside = c.args.caption.now.outside.now in
    let taken = g.O.Output.taken in
    let a = taken c.args.output.now in
    let b = taken c.put_head.new.output in
    let d = taken c.put_year.new.output in
    let p = c.args.printer.now.progress in
    let q = c.put_head.new.printer.progress in
    let s = c.put_year.new.printer.progress in
    let head = head_text title inside outside (year_length y) in
    let put = c.in_err-put_year.ensures.puts in
    let columns = put.0 in
    let are = columns_are xs c.new-seconds.result (first_day y) (first_day y) (year_length y) (year_length y) columns
    c.new-seconds.ensures.value refl refl put.1 in
    let lines = day_lines (first_day y) 0 columns in
    let r = err_from_is_err_and c.from_residual-in_err-put_year.result c.from_residual-in_err-put_year.ensures.1 in
    let two : Puts (Err r.0) a d p s (head ∷ lines) =
    puts_then (Err r.0) a b d p q s (head ∷ []) lines c.in_ok-put_head.ensures.puts put.2 in
    rw (r.1) (put_picture (Holds xs) title inside outside c.args.caption.now.year (Err r.0) a d p s columns are
    (puts_cut r.0 a d p s (head ∷ lines) (foot_text y ∷ []) two))

pub put_foot-requires-clause-small : goal.put_foot-requires-clause-small
put_foot-requires-clause-small g c =
    let y = pos c.args.caption.now.year in
    let few = year_length-few y in
    let within : 0 + year_length y ≤ 366 = omega (arith, few) in
    let put = c.in_ok-put_year.ensures.puts in
    let all = days_short (Holds c.new-seconds.result) (first_day y) 0 (year_length y) put.0 within put.1 in
    let bytes = all.1 in
    let then = ap (λ (p : Progress). p.written) put.2.1 in
    let before = c.in_ok-put_head.ensures.small in
    omega (arith, few, bytes, then, before)

pub put_foot-requires-clause-few : goal.put_foot-requires-clause-few
put_foot-requires-clause-few g c =
    let y = pos c.args.caption.now.year in
    let few = year_length-few y in
    let within : 0 + year_length y ≤ 366 = omega (arith, few) in
    let put = c.in_ok-put_year.ensures.puts in
    let all = days_short (Holds c.new-seconds.result) (first_day y) 0 (year_length y) put.0 within put.1 in
    let lines = all.0 in
    let then = ap (λ (p : Progress). p.lines) put.2.1 in
    let begins = ap (λ (p : Progress). p.lines) c.requires.begins in
    let now = ap (λ (p : Progress). p.lines) c.in_ok-put_head.ensures.puts.1 in
    omega (arith, few, lines, then, begins, now)

pub returns-clause-puts : goal.returns-clause-puts
returns-clause-puts g c =
    let y = pos c.args.caption.now.year in
    let xs : List Interval = g.S.SpanSource.rest c.args.seconds in
    let title = c.args.caption.now.title.now in
    let inside = c.args.caption.now.inside.now in
    let outside = c.args.caption.now.outside.now in
    let taken = g.O.Output.taken in
    let a = taken c.args.output.now in
    let b = taken c.put_head.new.output in
    let d = taken c.put_year.new.output in
    let e = taken c.put_foot.new.output in
    let p = c.args.printer.now.progress in
    let q = c.put_head.new.printer.progress in
    let s = c.put_year.new.printer.progress in
    let u = c.put_foot.new.printer.progress in
    let head = head_text title inside outside (year_length y) in
    let put = c.in_ok-put_year.ensures.puts in
    let columns = put.0 in
    let are = columns_are xs c.new-seconds.result (first_day y) (first_day y) (year_length y) (year_length y) columns
    c.new-seconds.ensures.value refl refl put.1 in
    let lines = day_lines (first_day y) 0 columns in
    let two : Puts (Ok tt) a d p s (head ∷ lines) =
    puts_then (Ok tt) a b d p q s (head ∷ []) lines c.in_ok-put_head.ensures.puts put.2 in
    put_picture (Holds xs) title inside outside c.args.caption.now.year c.put_foot.result a e p u columns are
    (puts_then c.put_foot.result a d e p s u (head ∷ lines) (foot_text y ∷ []) two c.put_foot.ensures.puts)
