use Rattle.std.proofs.Common.{◌≡◌, ◌∙◌, ap, ap₂, refl, arith, ◌<◌, ◌≤◌, ◌+◌, ◌*◌, ◌^◌, ℕ, suc, List, [], ◌∷◌, length, map}
use Rattle.std.proofs.Common.{sym, subst}
use Rattle.std.specs.Prelude.{Ok, Err}
use Rattle.std.proofs.lemmas.Result.{err_from_is_err_and}
use Rattle.gtd_report.specs.facts.PutFacts.{puts_nothing}
use Rattle.gtd_report.specs.Putting.{Puts}
use Rattle.gtd_changes.proofs.ChangeFacts.{ahead_of, carries_none, carries_one, carries_short, many_both}
use Rattle.gtd_changes.specs.Merging.{by_from, with_ahead}
use Rattle.gtd_changes.specs.declared.change.Change.{Change}
use Rattle.gtd_changes.specs.facts.RowsFacts.{line_with}
use Rattle.gtd_changes.specs.facts.ToldFacts.{AllTold, told_both}
use Rattle.gtd_changes.proofs.LengthFacts.{short_line}
use Rattle.gtd_changes.proofs.put.put_changed.Goals as goal

told_first : (x : Change) (xs all : List Change) → AllTold all → all ≡ x ∷ xs → AllTold (x ∷ xs)
told_first x xs all told is = subst AllTold is told

next_lines : (f : Change → List ℕ) (x : Change) (xs all : List Change) → all ≡ x ∷ xs → map f all ≡ f x ∷ map f xs
next_lines f x xs all is = ap (map f) is

room_lines : (now old len n : ℕ) → now + suc n ≤ old + len → old + len < 2 ^ 64 → (now + 1 < 2 ^ 64) × (now + 1 + n ≤ old + len)
room_lines now old len n h k = (omega arith, omega arith)

room_for_one : (n room line : ℕ) → 80 * suc n ≤ room → line ≤ 80 → line ≤ room
room_for_one n room line h k = omega arith

room_left : (n old new line : ℕ) → 80 * suc n ≤ old → new + line ≡ old → line ≤ 80 → 80 * n ≤ new
room_left n old new line h e k = omega arith

-- a line that was put is the line that is meant
put_is : (f line : List ℕ) (P : List ℕ → Type 0) → line ≡ f → P line → P f
put_is f line P is p = subst P is p

pub loop-change-init : goal.loop-change-init
loop-change-init g c =
    let opened = g.A.SpanSource.rest c.args.opened.now in
    let closed = g.B.SpanSource.rest c.args.closed.now in
    let same = ap₂ by_from (ahead_of opened _ _ c.next.ensures.takes) (ahead_of closed _ _ c.next-2.ensures.takes) in
    let many = many_both opened closed in
    record {
      told = subst AllTold (sym same) (told_both opened closed c.requires.opened c.requires.closed);
      written = refl;
      lines = rw (same, many) (omega arith);
      short = λ without. rw (same, many) (let few = c.requires.few in omega arith);
      failures = refl;
      carries = λ r d s puts. rw (same) at puts;
    }

pub write-requires : goal.write-requires
write-requires g c =
    let told = told_first c.in-Some.change _ _ c.loop-change.invariant.told c.in-Some.ensures.takes in
    record { from = told.0.0; until = told.0.1; in_range = told.0.2 }

pub returns-in_err-write-clause-puts : goal.returns-in_err-write-clause-puts
returns-in_err-write-clause-puts g c =
    let p = err_from_is_err_and c.from_residual.result c.from_residual.ensures.1 in
    let b = g.O.Output.taken c.loop-change.output in
    let q = c.loop-change.printer.progress in
    let left = by_from (with_ahead c.loop-change.ahead.opened (g.A.SpanSource.rest c.loop-change.opened))
    (with_ahead c.loop-change.ahead.closed (g.B.SpanSource.rest c.loop-change.closed)) in
    let f = line_with c.args.place.now.old.now c.args.place.now.new.now c.args.place.now.vehicle c.args.place.now.at.element
    c.args.place.now.at.direction c.args.with_rows in
    rw (p.1) (c.loop-change.invariant.carries (Err p.0) b q (puts_nothing p.0 b q (map f left)))

pub put_within-requires-clause-written : goal.put_within-requires-clause-written
put_within-requires-clause-written g c =
    let i = c.loop-change.invariant.written in
    let room = c.requires.written in
    omega arith

pub put_within-requires-clause-short : goal.put_within-requires-clause-short
put_within-requires-clause-short g c = λ without.
    let i = c.loop-change.invariant in
    let takes = c.in-Some.ensures.takes in
    let is = c.as_slice.ensures.value ∙ c.in_ok-write.ensures.line in
    room_for_one _ _ _ (rw takes at i.short without)
    (short_line _ _ _ _ _ _ c.args.with_rows c.in-Some.change without is (omega arith) c.requires.vehicle)

pub put_within-requires-clause-lines : goal.put_within-requires-clause-lines
put_within-requires-clause-lines g c =
    let i = c.loop-change.invariant in
    (room_lines c.loop-change.printer.progress.lines c.args.printer.now.progress.lines
    (length (g.A.SpanSource.rest c.args.opened.now) + length (g.B.SpanSource.rest c.args.closed.now)) _
    (rw (c.in-Some.ensures.takes) at i.lines) c.requires.lines).0

pub loop-change-preserved : goal.loop-change-preserved
loop-change-preserved g c =
    let i = c.loop-change.invariant in
    let f = line_with c.args.place.now.old.now c.args.place.now.new.now c.args.place.now.vehicle c.args.place.now.at.element
    c.args.place.now.at.direction c.args.with_rows in
    let x = c.in-Some.change in
    let takes = c.in-Some.ensures.takes in
    let is = c.as_slice.ensures.value ∙ c.in_ok-write.ensures.line in
    let put = c.in_ok-put_within.ensures in
    let a = g.O.Output.taken c.args.output.now in
    let b = g.O.Output.taken c.loop-change.output in
    let t = g.O.Output.taken c.put_within.new.output in
    let one : Puts (Ok tt) b t c.loop-change.printer.progress c.put_within.new.progress (f x ∷ []) =
    put_is (f x) c.as_slice.result.now
    (λ (line : List ℕ). Puts (Ok tt) b t c.loop-change.printer.progress c.put_within.new.progress (line ∷ [])) is put.puts in
    let many = length (g.A.SpanSource.rest c.args.opened.now) + length (g.B.SpanSource.rest c.args.closed.now) in
    let lines = (room_lines c.loop-change.printer.progress.lines c.args.printer.now.progress.lines many _
    (rw takes at i.lines) c.requires.lines).1 in
    record {
      told = (told_first x _ _ i.told takes).1;
      written = put.room ∙ i.written;
      lines = rw put.lines lines;
      short = λ without. room_left _ _ _ _ (rw takes at i.short without) put.left
          (short_line _ _ _ _ _ _ c.args.with_rows x without is (omega arith) c.requires.vehicle);
      failures = put.failures ∙ i.failures;
      carries = carries_one a b t c.args.printer.now.progress c.loop-change.printer.progress c.put_within.new.progress _ _ _
          (f x) i.carries (next_lines f x _ _ takes) one;
    }

pub returns-in_err-put_within-clause-puts : goal.returns-in_err-put_within-clause-puts
returns-in_err-put_within-clause-puts g c =
    let p = err_from_is_err_and c.from_residual-in_err-put_within.result c.from_residual-in_err-put_within.ensures.1 in
    let i = c.loop-change.invariant in
    let f = line_with c.args.place.now.old.now c.args.place.now.new.now c.args.place.now.vehicle c.args.place.now.at.element
    c.args.place.now.at.direction c.args.with_rows in
    let x = c.in-Some.change in
    let is = c.as_slice.ensures.value ∙ c.in_ok-write.ensures.line in
    let a = g.O.Output.taken c.args.output.now in
    let b = g.O.Output.taken c.loop-change.output in
    let t = g.O.Output.taken c.put_within.new.output in
    let short : Puts (Err p.0) b t c.loop-change.printer.progress c.put_within.new.progress (f x ∷ []) =
    put_is (f x) c.as_slice.result.now
    (λ (line : List ℕ). Puts (Err p.0) b t c.loop-change.printer.progress c.put_within.new.progress (line ∷ [])) is
    c.in_err-put_within.ensures.puts in
    rw (p.1) (carries_short a b t c.args.printer.now.progress c.loop-change.printer.progress c.put_within.new.progress _ _ _
    (f x) p.0 i.carries (next_lines f x _ _ c.in-Some.ensures.takes) short)

pub returns-clause-puts : goal.returns-clause-puts
returns-clause-puts g c =
    carries_none (g.O.Output.taken c.args.output.now) (g.O.Output.taken c.loop-change.output) c.args.printer.now.progress
    c.loop-change.printer.progress _ _ c.loop-change.invariant.carries
    (ap (map (line_with c.args.place.now.old.now c.args.place.now.new.now c.args.place.now.vehicle c.args.place.now.at.element
    c.args.place.now.at.direction c.args.with_rows)) c.in_default.ensures.takes.0)

pub returns-clause-near : goal.returns-clause-near
returns-clause-near g c = let i = c.loop-change.invariant.written in omega arith
